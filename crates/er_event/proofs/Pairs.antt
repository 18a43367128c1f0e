-- What is true of each element of a list, or of each and each later one.
use Rattle.er_event.proofs.Prelude.{All, AllPairs, Bool, List, [], arith, false, length, length-append, refl, subst, ◌++◌, ◌+◌, ◌∷◌, ◌≡◌}
use Rattle.er_event.proofs.Prelude.{common_steps, All-cons, All-nil, list_any}
use Rattle.std.proofs.lemmas.List.{get_or_append_left, get_or_push}

pub All-last : {X : Type 0} (P : X → Type 0) (xs : List X) (x : X) → All P (xs ++ x ∷ []) → P x
All-last P xs x h = subst P (get_or_push xs x x (length xs) refl) (h (length xs) x (omega (arith, length-append xs (x ∷ []))))

pub none-of : {X : Type 0} (p : X → Bool) (xs : List X) → list_any p xs ≡ false → All (λ x. p x ≡ false) xs
none-of p [] none = All-nil (λ x. p x ≡ false)
none-of p (x ∷ xs) none = All-cons (λ y. p y ≡ false) x xs (grind (arith, common_steps)) (none-of p xs (grind (arith, common_steps)))

module _ {X : Type 0} (R : X → X → Type 0) (xs ys : List X) where
  pub pairs_left : AllPairs R (xs ++ ys) → AllPairs R xs
  pairs_left h i j d before within = grind (arith, common_steps, h i j d)

  pub pairs_across : AllPairs R (xs ++ ys) → All (λ x. All (R x) ys) xs
  pairs_across h i d below j e within = grind (arith, common_steps, h i (length xs + j) d, get_or_append_left xs ys d i below)

  pub pairs_append : AllPairs R xs → AllPairs R ys → All (λ x. All (R x) ys) xs → AllPairs R (xs ++ ys)
  pairs_append h k a i j d before within = grind (arith, common_steps)
