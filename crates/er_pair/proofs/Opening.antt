-- A legal pairing pairs the first position with a candidate and is legal in the others, and the other way round.
use Rattle.std.proofs.Common.{◌≡◌, inl, inr, ℕ, zero, suc, ◌==◌, Bool, true, false, IsFalse, List, [], ◌∷◌, ◌++◌, take, slice_get, Some}
use Rattle.std.proofs.{Common.{None, Option, refl, sym, ap, subst, arith, eq-eqb}, lemmas.Bool.{true≢false, eqb-true, or_cases, or_left}}
use Rattle.std.proofs.{lemmas.Bool.or_right, lemmas.List.Elements.{All-cons, All-head, All-tail, All-nil}}
use Rattle.std.proofs.lemmas.List.Sorted.{IsPermutation-refl, IsPermutation-cons, IsPermutation-trans, IsPermutation-sym}
use Rattle.std.specs.List.{list_any}
use Rattle.er_pair.specs.{Pairing.{Pair, positions, OpensWithLeast, IsLegalOf}, Steps.met_at}
use Rattle.er_pair.proofs.Picking.{Rises, In, Picked, Above-In, Picked-kept, Picked-other, Picked-gone, pick, In-from_Contains}
use Rattle.er_pair.proofs.{Picking.Contains-from_In, Counting.{IsPermutation-uncons, IsPermutation-Picked, In-IsPermutation}}

-- the pairings of a first position with one of the candidates that are left, and legal in the others
pub data Opens (met : ℕ → ℕ → Bool) (order : List ℕ) (first : ℕ) (passed : List ℕ) : List ℕ → List Pair → Type 0 where
  opened : {candidate : ℕ} {left others : List ℕ} {more : List Pair} → Picked left candidate others
      → met_at met order first candidate ≡ false → IsLegalOf met order (passed ++ others) more
      → Opens met order first passed left ((first, candidate) ∷ more)

-- the test of whether a position is used
In-from_used : (n : ℕ) (xs : List ℕ) → list_any (λ used. used == n) xs ≡ true → In n xs
In-from_used n [] h = absurd (true≢false (sym h))
In-from_used n (x ∷ xs) h = elim (or_cases (x == n) (list_any (λ used. used == n) xs) h) [
  | inl same ↦ inl (sym (eqb-true x n same))
  | inr later ↦ inr (In-from_used n xs later)
]

used-from_In : (n : ℕ) (xs : List ℕ) → In n xs → list_any (λ used. used == n) xs ≡ true
used-from_In n [] found = absurd found
used-from_In n (x ∷ xs) (inl same) = or_left (x == n) (list_any (λ used. used == n) xs) (eq-eqb x n (sym same))
used-from_In n (x ∷ xs) (inr later) = or_right (x == n) (list_any (λ used. used == n) xs) (used-from_In n xs later)

module _ (met : ℕ → ℕ → Bool) (order : List ℕ) where
  -- if nothing is free, the pairing has no pairs, and only that one is legal
  pub legal_none : IsLegalOf met order [] []
  legal_none = record {
    each_once = IsPermutation-refl [];
    in_turn = λ at pair is. let e : ◌≡◌ {A = Option Pair} None (Some pair) = is in absurd (cc);
    new_opponents = All-nil (λ (pair : Pair). IsFalse (met_at met order pair.0 pair.1));
  }

  pub none_legal : (pairs : List Pair) → IsLegalOf met order [] pairs → pairs ≡ []
  none_legal [] legal = refl
  none_legal (pair ∷ more) legal =
      let used = IsPermutation-sym [] (positions (pair ∷ more)) legal.each_once in
      absurd (In-IsPermutation (positions (pair ∷ more)) [] pair.0 used (inl refl))

  module _ (first : ℕ) (rest : List ℕ) (rises : Rises (first ∷ rest)) where
    -- the first pair opens with the least free position
    least : (pair : Pair) (more : List Pair) → IsLegalOf met order (first ∷ rest) (pair ∷ more) → pair.0 ≡ first
    least pair more legal =
        let used = IsPermutation-sym (first ∷ rest) (positions (pair ∷ more)) legal.each_once in
        elim (In-IsPermutation (positions (pair ∷ more)) (first ∷ rest) pair.0 used (inl refl)) [
          | inl same ↦ same
          | inr later ↦
              let less = Above-In first rest pair.0 rises.0 later in
              absurd (true≢false (sym (legal.in_turn 0 pair refl first (Contains-from_In (first ∷ rest) first (inl refl)) less)))
        ]

    -- the others are paired by the pairs after the first
    others_legal : (candidate : ℕ) (others : List ℕ) (more : List Pair) → Picked rest candidate others
        → IsLegalOf met order (first ∷ rest) ((first, candidate) ∷ more) → IsLegalOf met order others more
    others_legal candidate others more picked legal = record {
      each_once =
          let own = IsPermutation-sym rest (candidate ∷ others) (IsPermutation-Picked picked) in
          let all = IsPermutation-uncons first rest (candidate ∷ positions more) legal.each_once in
          IsPermutation-uncons candidate others (positions more)
          (IsPermutation-trans (candidate ∷ others) rest (candidate ∷ positions more) own all);
      in_turn = λ at pair is other free less.
          let kept = In-from_Contains others other free in
          let found = Picked-kept other picked kept in
          let used = legal.in_turn (suc at) pair is other (Contains-from_In (first ∷ rest) other (inr found)) less in
          elim (In-from_used other (first ∷ candidate ∷ positions (take at more)) used) [
            | inl same ↦ absurd (omega (arith, Above-In first rest other rises.0 found))
            | inr (inl same) ↦ absurd (Picked-gone rises.1 picked (subst (λ (n : ℕ). In n others) same kept))
            | inr (inr later) ↦ used-from_In other (positions (take at more)) later
          ];
      new_opponents = All-tail (λ (pair : Pair). IsFalse (met_at met order pair.0 pair.1)) (first, candidate) more legal.new_opponents;
    }

    pub opens : (pairs : List Pair) → IsLegalOf met order (first ∷ rest) pairs → Opens met order first [] rest pairs
    opens [] legal = absurd (In-IsPermutation (first ∷ rest) [] first legal.each_once (inl refl))
    opens (pair ∷ more) legal =
        let is : pair ∷ more ≡ (first, pair.1) ∷ more = ap (λ (n : ℕ). (n, pair.1) ∷ more) (least pair more legal) in
        let own = subst (λ (pairs : List Pair). IsLegalOf met order (first ∷ rest) pairs) is legal in
        let seated = IsPermutation-sym rest (pair.1 ∷ positions more)
        (IsPermutation-uncons first rest (pair.1 ∷ positions more) own.each_once) in
        let chosen = pick rest pair.1 (In-IsPermutation (pair.1 ∷ positions more) rest pair.1 seated (inl refl)) in
        let new = All-head (λ (p : Pair). IsFalse (met_at met order p.0 p.1)) (first, pair.1) more own.new_opponents in
        subst (λ (pairs : List Pair). Opens met order first [] rest pairs) (sym is)
        (opened chosen.1 new (others_legal pair.1 chosen.0 more chosen.1 own))

    -- if the others are legally paired, a position that they use or the first two use comes before
    turn : (candidate : ℕ) (others : List ℕ) (more : List Pair) → Picked rest candidate others → IsLegalOf met order others more
        → (at : ℕ) (pair : Pair) → slice_get ((first, candidate) ∷ more) at ≡ Some pair
        → OpensWithLeast (first ∷ rest) (take at ((first, candidate) ∷ more)) pair
    turn candidate others more picked legal zero pair is other free less =
        let e : ◌≡◌ {A = Option Pair} (Some (first, candidate)) (Some pair) = is in
        let opener : first ≡ pair.0 = cc in
        elim (In-from_Contains (first ∷ rest) other free) [
          | inl same ↦ absurd (omega arith)
          | inr later ↦ absurd (omega (arith, Above-In first rest other rises.0 later))
        ]
    turn candidate others more picked legal (suc at) pair is other free less =
        let used = positions (take at more) in
        used-from_In other (first ∷ candidate ∷ used) (elim (In-from_Contains (first ∷ rest) other free) [
          | inl same ↦ inl same
          | inr later ↦ elim (Picked-other other picked later) [
            | inl same ↦ inr (inl same)
            | inr kept ↦ inr (inr (In-from_used other used (legal.in_turn at pair is other (Contains-from_In others other kept) less)))
          ]
        ])

    pub closes : {pairs : List Pair} → Opens met order first [] rest pairs → IsLegalOf met order (first ∷ rest) pairs
    closes (opened {candidate = c} {others = others} {more = more} picked new legal) = record {
      each_once =
          let own = IsPermutation-cons c others (positions more) legal.each_once in
          IsPermutation-cons first rest (c ∷ positions more)
          (IsPermutation-trans rest (c ∷ others) (c ∷ positions more) (IsPermutation-Picked picked) own);
      in_turn = turn c others more picked legal;
      new_opponents = All-cons (λ (p : Pair). IsFalse (met_at met order p.0 p.1)) (first, c) more new legal.new_opponents;
    }
