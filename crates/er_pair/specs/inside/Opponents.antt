-- How it is kept who has met whom: by a set of places for each of the numbers 0 to 512.
use Rattle.std.specs.Prelude.{◌≡◌, ℕ, ◌<◌, IsFalse, List, length, filter, map}
use Rattle.std.specs.List.{range_with_len}
use Rattle.er_pair.specs.declared.meetings.TheConstants.{NUMBERS}
use Rattle.er_pair.specs.declared.places.Places.{Places}
use Rattle.er_pair.specs.Met.{has_met}
use Rattle.er_pair.specs.inside.Places.{has_place, row_at}

-- the numbers below this one whose places are in the set
unfoldable pub numbers_below : ℕ → Places → List ℕ
numbers_below count places = filter (has_place places) (range_with_len 0 count)

-- for each number those whom it has met
abbrev pub opponents_in : List Places → List (List ℕ)
opponents_in rows = map (numbers_below (length rows)) rows

pub record IsTable (rows : List Places) : Type 0 where
  pub size : length rows ≡ NUMBERS
  pub symmetric : (p q : ℕ) → p < NUMBERS → q < NUMBERS → has_place (row_at rows p) q ≡ has_place (row_at rows q) p

abbrev pub HasMetNobody : List (List ℕ) → ℕ → Type 0
HasMetNobody met number = (p : ℕ) → IsFalse (has_met met number p) × IsFalse (has_met met p number)
