-- At which match of a round a number sits, and a table that tells it by number.
use Rattle.std.specs.Prelude.{◌≡◌, ◌<◌, ℕ, ◌==◌, ◌||◌, ◌&&◌, not, Bool, List, length, find, slice_index_or, Option, None, is_some}
use Rattle.er_event.specs.declared.matches.Match.{Match}
use Rattle.er_event.specs.inside.Seen.{IsSeatedOnce}

-- one of the two has this number
abbrev pub sits_at : ℕ → Match → Bool
sits_at number m = m.a == number || m.b == number

-- the match at which the number sits
abbrev pub seat_of : List Match → ℕ → Option Match
seat_of matches number = find (sits_at number) matches

-- the two differ, and sit at none of these
abbrev pub may_sit : List Match → Match → Bool
may_sit matches m = not (m.a == m.b) && not (is_some (seat_of matches m.a)) && not (is_some (seat_of matches m.b))

-- the table has, by number, the match at which the number sits
abbrev pub AreSeats : List Match → List (Option Match) → Type 0
AreSeats matches table = (number : ℕ) → number < length table → slice_index_or table number None ≡ seat_of matches number

-- the matches are those of the table, and nobody sits at two of them
pub record AreTabled (matches : List Match) (table : List (Option Match)) : Type 0 where
  pub seated_once : IsSeatedOnce matches
  pub seats : AreSeats matches table
