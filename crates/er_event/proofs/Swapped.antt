-- Whether two of two lists pass a test, whichever list comes first.
use Rattle.er_event.proofs.Prelude.{is_same_pairing, Match, Round, Bool, List, [], ap, ap₂, false, list_all, list_any, not, refl, sym, true}
use Rattle.er_event.proofs.Prelude.{◌&&◌, ◌||◌, ◌∙◌, ◌∷◌, ◌≡◌}
use Rattle.er_event.proofs.AddLemmas.{is_new}

crossed : (a b c d : Bool) → ((a || b) || (c || d)) ≡ ((a || c) || (b || d))
crossed true b c d = refl
crossed false true true d = refl
crossed false true false d = refl
crossed false false c d = refl

neither : (a b : Bool) → (not a && not b) ≡ not (a || b)
neither true b = refl
neither false b = refl

module _ {A : Type 0} where
  any-false : (xs : List A) → list_any (λ (x : A). false) xs ≡ false
  any-false [] = refl
  any-false (x ∷ xs) = any-false xs

  any-or : (f g : A → Bool) (xs : List A) → list_any (λ x. f x || g x) xs ≡ (list_any f xs || list_any g xs)
  any-or f g [] = refl
  any-or f g (x ∷ xs) = ap (λ (b : Bool). (f x || g x) || b) (any-or f g xs) ∙ crossed (f x) (g x) (list_any f xs) (list_any g xs)

  any-same : (f g : A → Bool) → ((x : A) → f x ≡ g x) → (xs : List A) → list_any f xs ≡ list_any g xs
  any-same f g same [] = refl
  any-same f g same (x ∷ xs) = ap₂ (λ (a b : Bool). a || b) (same x) (any-same f g same xs)

  all-not : (f : A → Bool) (xs : List A) → list_all (λ x. not (f x)) xs ≡ not (list_any f xs)
  all-not f [] = refl
  all-not f (x ∷ xs) = ap (λ (b : Bool). not (f x) && b) (all-not f xs) ∙ neither (f x) (list_any f xs)

any-swap : {A B : Type 0} (p : A → B → Bool) (xs : List A) (ys : List B)
    → list_any (λ x. list_any (λ y. p x y) ys) xs ≡ list_any (λ y. list_any (λ x. p x y) xs) ys
any-swap p [] ys = sym (any-false ys)
any-swap p (x ∷ xs) ys =
    ap (λ (b : Bool). list_any (λ y. p x y) ys || b) (any-swap p xs ys)
    ∙ sym (any-or (λ y. p x y) (λ y. list_any (λ x. p x y) xs) ys)

-- nobody meets an opponent again, whether asked of each new match or of each stored one
pub new-swapped : (stored : List Round) (ms : List Match)
    → list_all (is_new stored) ms ≡ not (list_any (λ (r : Round). list_any (λ n. list_any (λ m. is_same_pairing n m) ms) r.matches) stored)
new-swapped stored ms =
    all-not (λ (m : Match). list_any (λ (r : Round). list_any (λ n. is_same_pairing n m) r.matches) stored) ms
    ∙ ap not (any-swap (λ (m : Match) (r : Round). list_any (λ n. is_same_pairing n m) r.matches) ms stored
    ∙ any-same (λ (r : Round). list_any (λ (m : Match). list_any (λ n. is_same_pairing n m) r.matches) ms)
    (λ (r : Round). list_any (λ n. list_any (λ m. is_same_pairing n m) ms) r.matches)
    (λ r. any-swap (λ (m n : Match). is_same_pairing n m) ms r.matches) stored)
