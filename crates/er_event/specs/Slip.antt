-- The slip of a stored match.
use Rattle.std.specs.Prelude.{ℕ, ◌==◌, if◌then◌else◌, List, [], Option, Some, None, find, option_map}
use Rattle.er_event.specs.declared.players.Player.{Player}
use Rattle.er_event.specs.declared.matches.Match.{Match}
use Rattle.er_event.specs.declared.slips.SlipRow.{SlipRow}
use Rattle.er_event.specs.Event.{EventValue}
use Rattle.er_event.specs.Round.{match_at}

abbrev pub name_in : Option Player → List ℕ
name_in None = []
name_in (Some p) = p.name

-- the name of the player with this number
abbrev pub name_of : EventValue → ℕ → List ℕ
name_of event number = name_in (find (λ (p : Player). p.no == number) event.players)

-- number and name
abbrev pub side_of : EventValue → ℕ → ℕ × List ℕ
side_of event number = (number, name_of event number)

-- none for the missing opponent of a bye
abbrev pub second_of : EventValue → ℕ → Option (ℕ × List ℕ)
second_of event number = if number == 0 then None else Some (side_of event number)

abbrev pub slip_row : EventValue → ℕ → ℕ → Match → SlipRow
slip_row event round table m = record {
  round = round;
  table = table;
  first = side_of event m.a;
  second = second_of event m.b;
  score = m.score;
}

-- none if no such match is stored
abbrev pub slip_of : EventValue → ℕ → ℕ → Option SlipRow
slip_of event round table = option_map (slip_row event round table) (match_at event round table)
