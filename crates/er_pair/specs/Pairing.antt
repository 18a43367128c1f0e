-- The earliest legal pairing of an order.
use Rattle.std.specs.Prelude.{◌≡◌, ℕ, ◌<◌, ◌==◌, Bool, IsTrue, IsFalse, List, [], ◌∷◌, length, map, take, flat_map, All, Contains}
use Rattle.std.specs.Prelude.{IsPermutation, slice_index, slice_get, Some}
use Rattle.std.specs.List.{list_any, range_with_len}
use Rattle.er_event.specs.declared.matches.Match.{Match}
use Rattle.er_event.specs.Round.{tables_of}

-- two positions of the order
abbrev pub Pair : Type 0
Pair = ℕ × ℕ

abbrev pub first : Pair → ℕ
first pair = pair.0

abbrev pub second : Pair → ℕ
second pair = pair.1

abbrev pub positions : List Pair → List ℕ
positions pairs = flat_map (λ pair. first pair ∷ second pair ∷ []) pairs

-- the first of the pair is the least free position that no pair before uses
abbrev pub OpensWithLeast : List ℕ → List Pair → Pair → Type 0
OpensWithLeast free before pair =
    (other : ℕ) → Contains free other → other < first pair
    → IsTrue (list_any (λ used. used == other) (positions before))

-- a legal pairing of those positions of the order that are free
pub record IsLegalOf (met : ℕ → ℕ → Bool) (order free : List ℕ) (pairs : List Pair) : Type 0 where
  pub each_once : IsPermutation free (positions pairs)
  pub in_turn : (at : ℕ) (pair : Pair) → slice_get pairs at ≡ Some pair → OpensWithLeast free (take at pairs) pair
  pub new_opponents : All (λ (pair : Pair). IsFalse (met (slice_index order (first pair)) (slice_index order (second pair)))) pairs

-- each position of the order
abbrev pub all_positions : List ℕ → List ℕ
all_positions order = range_with_len 0 (length order)

-- each position stands in one pair, each pair opens with the least position not yet used, and no pair has met before
abbrev pub IsLegal : (ℕ → ℕ → Bool) → List ℕ → List Pair → Type 0
IsLegal met order pairs = IsLegalOf met order (all_positions order) pairs

-- the smaller partner in the first pair in which they differ
pub record IsEarlier (one other : List Pair) : Type 0 where
  pub at : ℕ
  pub of_one : Pair
  pub of_other : Pair
  pub same_before : take at one ≡ take at other
  pub here : (slice_get one at ≡ Some of_one) × (slice_get other at ≡ Some of_other)
  pub smaller : second of_one < second of_other

-- the legal pairing of the free positions that no other is earlier than
pub record IsEarliestOf (met : ℕ → ℕ → Bool) (order free : List ℕ) (pairs : List Pair) : Type 0 where
  pub legal : IsLegalOf met order free pairs
  pub none_earlier : (other : List Pair) → IsLegalOf met order free other → IsEarlier other pairs → ⊥

abbrev pub IsEarliest : (ℕ → ℕ → Bool) → List ℕ → List Pair → Type 0
IsEarliest met order pairs = IsEarliestOf met order (all_positions order) pairs

-- the entries of the order that stand at a pairing's positions
abbrev pub entries : List ℕ → List Pair → List Pair
entries order pairs = map (λ (pair : Pair). (slice_index order (first pair), slice_index order (second pair))) pairs

-- the round that a pairing of the order makes
abbrev pub round_of : List ℕ → List Pair → List Match
round_of order pairs = tables_of (entries order pairs)
