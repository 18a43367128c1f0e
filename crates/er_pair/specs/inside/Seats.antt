-- Whom the entries of an order have met, as rows of the positions at which those stand.
use Rattle.std.specs.Prelude.{◌≡◌, ℕ, ◌<◌, ◌≤◌, ◌==◌, ◌||◌, ◌&&◌, List, length, slice_index}
use Rattle.er_pair.specs.declared.meetings.TheConstants.{NUMBERS}
use Rattle.er_pair.specs.declared.places.Places.{Places}
use Rattle.er_pair.specs.Met.{has_met}
use Rattle.er_pair.specs.inside.Opponents.{HasMetNobody}
use Rattle.er_pair.specs.inside.Places.{has_place, row_at}
use Rattle.er_pair.specs.Steps.{met_at}

-- the position stands in the rows of the numbers too
abbrev pub IsSeatedWith : Places → ℕ → List Places → List Places → Type 0
IsSeatedWith numbers position before after = (number p : ℕ) → number < length before →
    has_place (row_at after number) p ≡ ((has_place numbers number && p == position) || has_place (row_at before number) p)

-- the entries above 512 have met nobody
abbrev pub OthersHaveMetNobody : List (List ℕ) → List ℕ → Type 0
OthersHaveMetNobody met order = (p : ℕ) → p < length order → NUMBERS ≤ slice_index order p → HasMetNobody met (slice_index order p)

-- the row of a number has the positions of those whom it has met
abbrev pub AreByNumber : List (List ℕ) → List ℕ → List Places → Type 0
AreByNumber met order rows = (number p : ℕ) → number < length rows → number < NUMBERS → p < length order →
    has_place (row_at rows number) p ≡ has_met met number (slice_index order p)

-- `count` numbers, from 0 on, are all those of the order that can have met
abbrev pub CountsAll : List ℕ → ℕ → Type 0
CountsAll order count = (p : ℕ) → p < length order → slice_index order p < NUMBERS → slice_index order p < count

-- the row of a position has those of whom its entry has met
abbrev pub AreByPosition : List (List ℕ) → List ℕ → List Places → Type 0
AreByPosition met order rows =
    (p q : ℕ) → p < length order → q < length order → has_place (row_at rows p) q ≡ met_at (has_met met) order p q
