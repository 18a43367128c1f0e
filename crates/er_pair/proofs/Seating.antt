-- What a legal pairing says of the entries: each sits once, none has met the other, and the first stands before the second.
use Rattle.std.proofs.Common.{◌≡◌, ℕ, zero, suc, ◌<◌, ◌≤◌, Bool, IsFalse, List, [], ◌∷◌, length, map, All, IsPermutation, slice_index}
use Rattle.std.proofs.{Common.{refl, ap, arith, not-suc-le-zero}, lemmas.List.Elements.{All-nil, All-cons, All-map}}
use Rattle.std.proofs.lemmas.List.Sorted.{IsPermutation-map}
use Rattle.er_pair.specs.Pairing.{Pair, positions, all_positions, IsLegalOf, IsLegal, entries}
use Rattle.er_pair.proofs.{Picking.{Rises, Picked, Above-In, Picked-In, Picked-length, Picked-Rises, Rises-range}, Opening.{Opens, opens}}
use Rattle.er_pair.proofs.{Opening.none_legal, Opening.Opens.opened, Entries.entries_at_places}

abbrev InOrder : Pair → Type 0
InOrder p = p.0 < p.1

module _ (met : ℕ → ℕ → Bool) (order : List ℕ) where
  rising_first : (first : ℕ) (rest : List ℕ) {pairs : List Pair} → Rises (first ∷ rest)
      → ((c : ℕ) (o : List ℕ) (more : List Pair) → Picked rest c o → IsLegalOf met order o more → All InOrder more)
      → Opens met order first [] rest pairs → All InOrder pairs
  rising_first first rest rises others (opened {candidate = c} {others = o} {more = more} p new legal) =
      All-cons InOrder (first, c) more (Above-In first rest c rises.0 (Picked-In p)) (others c o more p legal)

  rising_pairs : (bound : ℕ) (free : List ℕ) → length free ≤ bound → Rises free → (pairs : List Pair) → IsLegalOf met order free pairs
      → All InOrder pairs
  rising_pairs bound [] short rises pairs legal = rw (none_legal met order pairs legal) (All-nil InOrder)
  rising_pairs zero (first ∷ rest) short rises pairs legal = absurd (not-suc-le-zero short)
  rising_pairs (suc bound) (first ∷ rest) short rises pairs legal = rising_first first rest rises
      (λ c o more p. rising_pairs bound o (omega (arith, Picked-length p)) (Picked-Rises p rises.1) more)
      (opens met order first rest rises pairs legal)

  pub first_before_second : (pairs : List Pair) → IsLegal met order pairs → All (λ (p : Pair). p.0 < p.1) pairs
  first_before_second = rising_pairs (length (all_positions order)) (all_positions order) (omega arith) (Rises-range 0 (length order))

positions-entries : (order : List ℕ) (pairs : List Pair) → map (slice_index order) (positions pairs) ≡ positions (entries order pairs)
positions-entries order [] = refl
positions-entries order (pair ∷ more) =
    ap (λ (l : List ℕ). slice_index order pair.0 ∷ slice_index order pair.1 ∷ l) (positions-entries order more)

pub each_sits : (met : ℕ → ℕ → Bool) (order : List ℕ) (pairs found : List Pair) → IsLegal met order pairs → found ≡ entries order pairs
    → IsPermutation order (positions found)
each_sits met order pairs found legal is =
    let moved = IsPermutation-map (slice_index order) (all_positions order) (positions pairs) legal.each_once in
    rw is (rw (← positions-entries order pairs) (rw (entries_at_places order) at moved))

pub none_has_met : (met : ℕ → ℕ → Bool) (order : List ℕ) (pairs found : List Pair) → IsLegal met order pairs → found ≡ entries order pairs
    → All (λ (p : Pair). IsFalse (met p.0 p.1)) found
none_has_met met order pairs found legal is = rw is (All-map (λ (p : Pair). IsFalse (met p.0 p.1))
    (λ (p : Pair). (slice_index order p.0, slice_index order p.1)) pairs legal.new_opponents)
