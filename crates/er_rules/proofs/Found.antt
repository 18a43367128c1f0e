-- What is found by a search, and at a place of a list.
use Rattle.std.proofs.{lemmas.Grind.common_steps, Common.{◌≡◌, ℕ, zero, suc, Bool, true, false, cond, List, [], ◌∷◌, ◌++◌, map, find}}
use Rattle.std.proofs.{Common.{get_or, Option, Some, None, refl, sym, subst, arith}, Math.ListN.set, lemmas.Option.{none-some, same_Some}}
use Rattle.std.specs.{List.slice_get, Option.option_and_then}

-- if a test rules out what is found, it is found only if the test fails
pub unless_some : {A : Type 0} (b : Bool) (o : Option A) (x : A) → cond b None o ≡ Some x → (b ≡ false) × (o ≡ Some x)
unless_some h1 o x h = grind (arith, common_steps)

-- what is found before a map that keeps the test is found, mapped, after it
pub find_mapped : {X : Type 0} (test : X → Bool) (g : X → X) → ((x : X) → test (g x) ≡ test x) → (xs : List X) (p : X)
    → find test xs ≡ Some p → find test (map g xs) ≡ Some (g p)
find_mapped test g same [] p at = absurd (none-some p at)
find_mapped test g same (x ∷ xs) p at = grind (arith, same x, find_mapped test g same xs p, at)

pub find_passes : {X : Type 0} (test : X → Bool) (xs : List X) (p : X) → find test xs ≡ Some p → test p ≡ true
find_passes test [] p at = absurd (none-some p at)
find_passes test (x ∷ xs) p at = grind (arith, find_passes test xs p, at)

-- the element at a place, and what holds of it
abbrev pub Stored : {X : Type 0} → (X → Type 0) → List X → ℕ → Type 0
Stored {X} P xs i = (x : X) × (slice_get xs i ≡ Some x) × P x

-- what is read at a place, if no test rules it out
pub found_stored : {X Y : Type 0} (b : Bool) (f : X → Option Y) (xs : List X) (i : ℕ) (y : Y)
    → cond b None (option_and_then f (slice_get xs i)) ≡ Some y → (b ≡ false) × Stored (λ x. f x ≡ Some y) xs i
found_stored b f xs i y at = grind (arith, common_steps)

module _ {X : Type 0} (P : X → Type 0) where
  pub stored_more : (xs ys : List X) (i : ℕ) → Stored P xs i → Stored P (xs ++ ys) i
  stored_more [] ys i (x, at, has) = absurd (none-some x at)
  stored_more (z ∷ xs) ys zero it = it
  stored_more (z ∷ xs) ys (suc i) it = stored_more xs ys i it

  -- after the change of the element at this place
  pub stored_now : (f : X → X) (d : X) (xs : List X) (i : ℕ) → Stored (λ x. P (f x)) xs i → Stored P (set xs i (f (get_or xs i d))) i
  stored_now f d [] i (x, at, has) = absurd (none-some x at)
  stored_now f d (z ∷ xs) zero (x, at, has) = (f z, refl, subst (λ y. P (f y)) (sym (same_Some z x at)) has)
  stored_now f d (z ∷ xs) (suc i) it = stored_now f d xs i it

  -- after a change at any place that keeps P
  pub stored_stays : (f : X → X) (d : X) → ((x : X) → P x → P (f x)) → (xs : List X) (j i : ℕ) → Stored P xs i
      → Stored P (set xs j (f (get_or xs j d))) i
  stored_stays f d keeps [] j i (x, at, has) = absurd (none-some x at)
  stored_stays f d keeps (z ∷ xs) zero zero (x, at, has) = (f z, refl, keeps z (subst P (sym (same_Some z x at)) has))
  stored_stays f d keeps (z ∷ xs) (suc j) zero it = it
  stored_stays f d keeps (z ∷ xs) zero (suc i) it = it
  stored_stays f d keeps (z ∷ xs) (suc j) (suc i) it = stored_stays f d keeps xs j i it
