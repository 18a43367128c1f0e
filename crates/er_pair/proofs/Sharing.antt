-- Rows to which a position is added.
use Rattle.std.proofs.Common.{◌≡◌, inl, inr, ℕ, ◌<◌, ◌≤◌, ◌==◌, ◌||◌, ◌&&◌, not, true, false, List, [], length, slice_index, ◌∙◌, arith}
use Rattle.std.proofs.{lemmas.Bool.cases_lt, lemmas.Bool.Decides.nat_tests, lemmas.List.get_or_past}
use Rattle.er_pair.specs.{declared.meetings.TheConstants.NUMBERS, declared.places.TheConstants.WORDS, declared.places.Cursor.Cursor}
use Rattle.er_pair.specs.{Met.has_met, declared.places.Places.Places, inside.Places.{has_place, is_ahead, row_at}}
use Rattle.er_pair.specs.inside.{Opponents.HasMetNobody, Seats.{OthersHaveMetNobody, AreByNumber, CountsAll, AreByPosition}}
use Rattle.er_pair.proofs.Bits.{no_word}

-- the position stands with those of the numbers that the walk has passed
pub record IsSeating (before rows : List Places) (numbers absent : Places) (walk : Cursor) (position : ℕ) : Type 0 where
  pub word : walk.index < WORDS
  pub size : length rows ≡ length before
  pub ahead : (number : ℕ) → number < length before → is_ahead absent absent walk.index walk.left number ≡ true
      → has_place numbers number ≡ true
  pub seated : (number p : ℕ) → number < length before
      → has_place (row_at rows number) p
      ≡ ((has_place numbers number && not (is_ahead absent absent walk.index walk.left number) && p == position) || has_place
      (row_at before number) p)

-- the positions before this one stand with those whom their entries have met, and no other position does
pub record IsShared (rows : List Places) (met : List (List ℕ)) (order : List ℕ) (position : ℕ) : Type 0 where
  pub before : (number p : ℕ) → number < length rows → number < NUMBERS → p < position
      → has_place (row_at rows number) p ≡ has_met met number (slice_index order p)
  pub later : (number p : ℕ) → number < length rows → number < NUMBERS → position ≤ p → has_place (row_at rows number) p ≡ false
  pub others : (p : ℕ) → p < position → NUMBERS ≤ slice_index order p → HasMetNobody met (slice_index order p)

-- ---- the rows by position

pub record IsGathered (rows table : List Places) (order : List ℕ) (position : ℕ) : Type 0 where
  pub size : length rows ≡ position
  pub same : (p q : ℕ) → p < position → has_place (row_at rows p) q ≡ has_place (row_at table (slice_index order p)) q

-- whom the entries have met, by position
pub gathered_all : (rows table : List Places) (met : List (List ℕ)) (order : List ℕ) (position : ℕ) → length table ≤ NUMBERS
    → OthersHaveMetNobody met order → CountsAll order (length table) → length order ≤ position → IsGathered rows table order position
    → AreByNumber met order table → AreByPosition met order rows
gathered_all rows table met order position size others enough all h shared p q here there =
    let at = slice_index order p in
    let same = h.same p q (omega arith) in
    elim (cases_lt at NUMBERS) [
      | inl small ↦ same ∙ shared at q (enough p here small) small there
      | inr above ↦
          let past = get_or_past table at (record { words = [] }) (omega arith) in
          let none = (others p here above (slice_index order q)).0 in
          grind (arith, nat_tests, no_word q)
    ]
