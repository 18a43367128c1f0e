-- Ascending lists, and one element taken out of a list.
use Rattle.std.proofs.{lemmas.Grind.common_steps, Common.{◌≡◌, ◌⊎◌, inl, inr, ℕ, zero, suc, ◌+◌, ◌<◌, List, [], ◌∷◌, length, Contains}}
use Rattle.std.proofs.{Common.{refl, sym, ap, subst, arith, not-suc-le-zero}, lemmas.List.FromFn.length-range_with_len}
use Rattle.std.proofs.lemmas.List.FromFn.{get_or-range_with_len}
use Rattle.std.specs.List.{range_with_len}

-- x is below each
abbrev pub Above : ℕ → List ℕ → Type 0
Above x [] = Unit {0}
Above x (y ∷ ys) = (x < y) × Above x ys

abbrev pub Rises : List ℕ → Type 0
Rises [] = Unit {0}
Rises (x ∷ xs) = Above x xs × Rises xs

abbrev pub In : ℕ → List ℕ → Type 0
In x [] = ⊥
In x (y ∷ ys) = (x ≡ y) ⊎ In x ys

-- the second list is the first without one c
pub data Picked : List ℕ → ℕ → List ℕ → Type 0 where
  here : {c : ℕ} {left : List ℕ} → Picked (c ∷ left) c left
  there : {x c : ℕ} {left others : List ℕ} → Picked left c others → Picked (x ∷ left) c (x ∷ others)

pub Above-In : (x : ℕ) (ys : List ℕ) (y : ℕ) → Above x ys → In y ys → x < y
Above-In x [] y above found = absurd found
Above-In x (z ∷ zs) y above (inl same) = omega (arith, above.0)
Above-In x (z ∷ zs) y above (inr later) = Above-In x zs y above.1 later

pub Picked-Above : (x : ℕ) {rest : List ℕ} {c : ℕ} {others : List ℕ} → Picked rest c others → Above x rest → Above x others
Picked-Above x here above = above.1
Picked-Above x (there p) above = (above.0, Picked-Above x p above.1)

pub Picked-Rises : {rest : List ℕ} {c : ℕ} {others : List ℕ} → Picked rest c others → Rises rest → Rises others
Picked-Rises here rises = rises.1
Picked-Rises (there {x = x} p) rises = (Picked-Above x p rises.0, Picked-Rises p rises.1)

pub Picked-In : {rest : List ℕ} {c : ℕ} {others : List ℕ} → Picked rest c others → In c rest
Picked-In here = inl refl
Picked-In (there p) = inr (Picked-In p)

pub Picked-kept : {rest : List ℕ} {c : ℕ} {others : List ℕ} (y : ℕ) → Picked rest c others → In y others → In y rest
Picked-kept y here found = inr found
Picked-kept y (there p) (inl same) = inl same
Picked-kept y (there p) (inr later) = inr (Picked-kept y p later)

pub Picked-other : {rest : List ℕ} {c : ℕ} {others : List ℕ} (y : ℕ) → Picked rest c others → In y rest → (y ≡ c) ⊎ In y others
Picked-other y here found = found
Picked-other y (there p) (inl same) = inr (inl same)
Picked-other y (there p) (inr later) = elim (Picked-other y p later) [ inl same ↦ inl same | inr kept ↦ inr (inr kept) ]

pub Picked-length : {rest : List ℕ} {c : ℕ} {others : List ℕ} → Picked rest c others → length rest ≡ suc (length others)
Picked-length here = refl
Picked-length (there p) = ap suc (Picked-length p)

pub pick : (rest : List ℕ) (c : ℕ) → In c rest → (others : List ℕ) × Picked rest c others
pick [] c found = absurd found
pick (x ∷ rest) c (inl same) = (rest, subst (λ (y : ℕ). Picked (y ∷ rest) c rest) same here)
pick (x ∷ rest) c (inr later) = let more = pick rest c later in (x ∷ more.0, there more.1)

-- what was taken out of a list that rises is no longer there
pub Picked-gone : {rest : List ℕ} {c : ℕ} {others : List ℕ} → Rises rest → Picked rest c others → In c others → ⊥
Picked-gone rises (here {c = c} {left = left}) found = omega (arith, Above-In c left c rises.0 found)
Picked-gone rises (there {x = x} {c = c} {left = left} p) (inl same) = omega (arith, Above-In x left c rises.0 (Picked-In p))
Picked-gone rises (there p) (inr later) = Picked-gone rises.1 p later

pub In-from_Contains : (xs : List ℕ) (x : ℕ) → Contains xs x → In x xs
In-from_Contains [] x (k, below, same) = absurd (not-suc-le-zero below)
In-from_Contains (y ∷ ys) x (zero, below, same) = inl (sym same)
In-from_Contains (y ∷ ys) x (suc k, below, same) = inr (In-from_Contains ys x (k, omega arith, same))

pub Contains-from_In : (xs : List ℕ) (x : ℕ) → In x xs → Contains xs x
Contains-from_In [] x h = absurd h
Contains-from_In (y ∷ ys) x (inl same) = (0, omega arith, sym same)
Contains-from_In (y ∷ ys) x (inr later) = let h = Contains-from_In ys x later in (suc h.0, omega (arith, h.1), h.2)

-- ---- the numbers from a on

pub Above-range : (x a n : ℕ) → x < a → Above x (range_with_len a n)
Above-range x a zero less = tt
Above-range x a (suc n) less = (less, Above-range x (a + 1) n (omega arith))

pub Rises-range : (a n : ℕ) → Rises (range_with_len a n)
Rises-range a zero = tt
Rises-range a (suc n) = (Above-range a (a + 1) n (omega arith), Rises-range (a + 1) n)

pub In-range : (x a n : ℕ) → In x (range_with_len a n) → x < a + n
In-range x a n found = grind (arith, common_steps, Contains-from_In, get_or-range_with_len, length-range_with_len)
