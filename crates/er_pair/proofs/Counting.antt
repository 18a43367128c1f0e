-- Two lists have the same elements if each number stands as often in the one as in the other.
use Rattle.std.proofs.Common.{◌≡◌, inl, inr, ℕ, ◌+◌, ◌<◌, ◌==◌, cond, List, [], ◌∷◌, sum_by, sym, arith, not-suc-le-zero, IsPermutation}
use Rattle.std.proofs.{lemmas.Bool.cases_eq, lemmas.Bool.Decides.nat_tests, lemmas.List.Sums.sum_by-cons}
use Rattle.std.proofs.lemmas.List.Sorted.{IsPermutation-refl, IsPermutation-cons, IsPermutation-trans, IsPermutation-sym}
use Rattle.std.proofs.lemmas.List.Sorted.{IsPermutation-middle, sum_by-IsPermutation, Contains-permutation}
use Rattle.er_pair.proofs.{Picking.{In, In-from_Contains, Contains-from_In, Picked, pick}, Picking.Picked.{here, there}}

-- how often a number stands in the list
abbrev times : ℕ → List ℕ → ℕ
times n xs = sum_by (λ x. cond (x == n) 1 0) xs

times-cons : (n x : ℕ) (xs : List ℕ) → times n (x ∷ xs) ≡ cond (x == n) 1 0 + times n xs
times-cons n x xs = sum_by-cons (λ y. cond (y == n) 1 0) x xs

times-IsPermutation : (xs ys : List ℕ) → IsPermutation xs ys → (n : ℕ) → times n ys ≡ times n xs
times-IsPermutation xs ys h n = sum_by-IsPermutation (λ x. cond (x == n) 1 0) xs ys h

In-from_times : (n : ℕ) (xs : List ℕ) → 0 < times n xs → In n xs
In-from_times n [] some = absurd (not-suc-le-zero some)
In-from_times n (x ∷ xs) some = elim (cases_eq x n) [
  | inl same ↦ inl (sym same)
  | inr other ↦ inr (In-from_times n xs (grind (arith, nat_tests, times-cons n x xs)))
]

pub IsPermutation-Picked : {rest : List ℕ} {c : ℕ} {others : List ℕ} → Picked rest c others → IsPermutation rest (c ∷ others)
IsPermutation-Picked (here {c = c} {left = left}) = IsPermutation-refl (c ∷ left)
IsPermutation-Picked (there {x = x} {c = c} {left = left} {others = others} p) =
    IsPermutation-trans (x ∷ left) (x ∷ (c ∷ others)) (c ∷ (x ∷ others))
    (IsPermutation-cons x left (c ∷ others) (IsPermutation-Picked p)) (IsPermutation-middle (x ∷ []) c others)

IsPermutation-from_times : (xs ys : List ℕ) → ((n : ℕ) → times n xs ≡ times n ys) → IsPermutation xs ys
IsPermutation-from_times [] [] same = IsPermutation-refl []
IsPermutation-from_times [] (y ∷ ys) same =
    let none : 0 ≡ times y (y ∷ ys) = same y in
    absurd (grind (arith, nat_tests, times-cons y y ys))
IsPermutation-from_times (x ∷ xs) ys same =
    let found = pick ys x (In-from_times x ys (grind (arith, nat_tests, times-cons x x xs, same x))) in
    let moved = IsPermutation-Picked found.1 in
    let rest : (n : ℕ) → times n xs ≡ times n found.0 = λ n.
    omega (arith, same n, times-cons n x xs, times-IsPermutation ys (x ∷ found.0) moved n, times-cons n x found.0) in
    IsPermutation-trans (x ∷ xs) (x ∷ found.0) ys (IsPermutation-cons x xs found.0 (IsPermutation-from_times xs found.0 rest))
    (IsPermutation-sym ys (x ∷ found.0) moved)

-- an element that both begin with can be left out
pub IsPermutation-uncons : (x : ℕ) (xs ys : List ℕ) → IsPermutation (x ∷ xs) (x ∷ ys) → IsPermutation xs ys
IsPermutation-uncons x xs ys h = IsPermutation-from_times xs ys
    (λ n. omega (arith, times-IsPermutation (x ∷ xs) (x ∷ ys) h n, times-cons n x xs, times-cons n x ys))

pub In-IsPermutation : (xs ys : List ℕ) (n : ℕ) → IsPermutation xs ys → In n xs → In n ys
In-IsPermutation xs ys n h found = In-from_Contains ys n (Contains-permutation xs ys n h (Contains-from_In xs n found))
