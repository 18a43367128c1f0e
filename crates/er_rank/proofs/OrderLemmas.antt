-- Numbers that stand once each, and lists that an order fixes.
use Rattle.std.proofs.Common.{◌≡◌, ◌≢◌, ℕ, ◌<◌, ◌==◌, Bool, true, false, cond, List, length, get_or, count_by, AllPairs, Contains, sym}
use Rattle.std.proofs.{Common.{ap, ◌∙◌, arith, inl, inr}, lemmas.Bool.{cases_lt, true≢false, false_from_ne_true}}
use Rattle.std.proofs.{lemmas.Bool.Decides.{nat_tests, Decides-eqb}, lemmas.List.{get_or_default, same_lists}}
use Rattle.std.proofs.lemmas.List.Sorted.{sum_by-IsPermutation, length_permutation, Contains-permutation}
use Rattle.std.proofs.{lemmas.List.Elements.Contains-get_or, lemmas.List.FromFn.{get_or-range_with_len, length-range_with_len}}
use Rattle.std.proofs.{lemmas.Map.Keys.IsDistinct-IsPermutation, lemmas.Map.Made.{AllPairs-from_IsDistinct, IsDistinct-from_AllPairs}}
use Rattle.std.specs.{List.range_with_len, List.Sorted.IsPermutation}
use Rattle.er_rank.proofs.PlacingLemmas.{count_front}

-- the numbers from 1 on, in any order, stand once each
pub apart_from_range : (n : ℕ) (qs : List ℕ) → IsPermutation (range_with_len 1 n) qs → AllPairs (λ p q. p ≢ q) qs
apart_from_range n qs same = AllPairs-from_IsDistinct {eq = ◌==◌} Decides-eqb qs
    (IsDistinct-IsPermutation ◌==◌ (λ x y. grind (arith, nat_tests)) (range_with_len 1 n) qs same
    (IsDistinct-from_AllPairs {eq = ◌==◌} Decides-eqb (range_with_len 1 n) (λ i j d before within equal.
    let long = length-range_with_len 1 n in
    omega (arith, get_or-range_with_len 1 n i d (omega arith), get_or-range_with_len 1 n j d (omega arith), equal))))

-- ---- one list in an order

module _ {X : Type 0} (before : X → X → Bool) (one_way : (x y : X) → before x y ≡ true → before y x ≡ false) where
  -- k elements stand before the one at place k
  place_of : (xs : List X) → AllPairs (λ x y. before x y ≡ true) xs → (k : ℕ) (d : X) → k < length xs
      → count_by (λ x. before x (get_or xs k d)) xs ≡ k
  place_of xs sorted k d within =
      let at = λ (e : X). get_or_default xs k d e within in
      count_front (λ x. before x (get_or xs k d)) xs k (omega arith)
      (λ i e early. rw (at e) (sorted i k e early within))
      (λ i e low inside. elim (cases_lt k i) [
        | inl after ↦ rw (at e) (one_way (get_or xs k e) (get_or xs i e) (sorted k i e after inside))
        | inr upto ↦
            let same : i ≡ k = omega arith in
            let here = get_or xs k e in
            rw (same, at e) (false_from_ne_true (before here here) (λ h. true≢false (sym h ∙ one_way here here h)))
      ])

  -- two lists of the same elements, each in the order
  pub one_order : (xs ys : List X) → IsPermutation xs ys → AllPairs (λ x y. before x y ≡ true) xs
      → AllPairs (λ x y. before x y ≡ true) ys → xs ≡ ys
  one_order xs ys same one other =
      same_lists xs ys (sym (length_permutation xs ys same)) (λ k d below.
      let here = get_or xs k d in
      let found : Contains ys here = Contains-permutation xs ys here same (Contains-get_or xs k d below) in
      let first = place_of xs one k d below in
      let second = rw found.2 at (place_of ys other found.0 here found.1) in
      let moved = sum_by-IsPermutation (λ x. cond (before x here) 1 0) xs ys same in
      let place : found.0 ≡ k = omega arith in
      sym found.2 ∙ (get_or_default ys found.0 here d found.1 ∙ ap (λ n. get_or ys n d) place))
