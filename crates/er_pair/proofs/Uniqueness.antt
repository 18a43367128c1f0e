-- An event has one order under its keys.
use Rattle.std.proofs.Common.{◌≡◌, inl, inr, ℕ, suc, true, IsTrue, List, [], ◌∷◌, AllPairs, IsPermutation, refl, sym, ap, ◌∙◌, arith}
use Rattle.std.proofs.{Common.true≢false, lemmas.List.Sorted.{IsPermutation-sym, IsPermutation-trans}}
use Rattle.er_event.specs.Event.{EventValue}
use Rattle.er_pair.specs.Order.{comes_before, active_numbers, seats_of, IsOrder}
use Rattle.er_pair.proofs.{Picking.{In, Contains-from_In}, Counting.{In-IsPermutation, IsPermutation-uncons}, Ordering.comes_one_way}

module _ (event : EventValue) (key : ℕ → ℕ) where
  abbrev Sorted : List ℕ → Type 0
  Sorted xs = AllPairs (λ p q. IsTrue (comes_before event key p q)) xs

  sorted_tail : (x : ℕ) (xs : List ℕ) → Sorted (x ∷ xs) → Sorted xs
  sorted_tail x xs sorted i j d before within = sorted (suc i) (suc j) d (omega arith) (omega arith)

  first_before : (x : ℕ) (xs : List ℕ) (y : ℕ) → Sorted (x ∷ xs) → In y xs → comes_before event key x y ≡ true
  first_before x xs y sorted found =
      let at = Contains-from_In xs y found in
      rw at.2 at (sorted 0 (suc at.0) y (omega arith) (omega (arith, at.1)))

  one_sorted : (one other : List ℕ) → IsPermutation one other → Sorted one → Sorted other → one ≡ other
  one_sorted [] [] same sorted also = refl
  one_sorted [] (y ∷ ys) same sorted also = absurd (In-IsPermutation (y ∷ ys) [] y (IsPermutation-sym [] (y ∷ ys) same) (inl refl))
  one_sorted (x ∷ xs) [] same sorted also = absurd (In-IsPermutation (x ∷ xs) [] x same (inl refl))
  one_sorted (x ∷ xs) (y ∷ ys) same sorted also =
      let head : x ≡ y = elim (In-IsPermutation (x ∷ xs) (y ∷ ys) x same (inl refl)) [
        | inl is ↦ is
        | inr later ↦ elim (In-IsPermutation (y ∷ ys) (x ∷ xs) y (IsPermutation-sym (x ∷ xs) (y ∷ ys) same) (inl refl)) [
          | inl is ↦ sym is
          | inr behind ↦
              let after = comes_one_way event key y x (first_before y ys x also later) in
              absurd (true≢false (sym (first_before x xs y sorted behind) ∙ after))
        ]
      ] in
      let rest = IsPermutation-uncons x xs ys (rw (← head) at same) in
      ap (λ (n : ℕ). n ∷ xs) head ∙ ap (λ (l : List ℕ). y ∷ l) (one_sorted xs ys rest (sorted_tail x xs sorted) (sorted_tail y ys also))

  pub one_order : (one other : List ℕ) → IsOrder event key one → IsOrder event key other → one ≡ other
  one_order one other h k =
      let back = IsPermutation-sym (active_numbers event) h.players h.everyone in
      let same = IsPermutation-trans h.players (active_numbers event) k.players back k.everyone in
      h.seated ∙ (ap seats_of (one_sorted h.players k.players same h.sorted k.sorted) ∙ sym k.seated)
