-- The totals of each player, and who met whom.
use Rattle.std.specs.Prelude.{ℕ, ◌<◌, min, max, not, if◌then◌else◌, List, [], map, filter, flat_map}
use Rattle.er_event.specs.declared.players.Player.{Player}
use Rattle.er_event.specs.declared.matches.Match.{Match}
use Rattle.er_event.specs.declared.rounds.Round.{Round}
use Rattle.er_event.specs.declared.tallies.Meeting.{Meeting}
use Rattle.er_event.specs.declared.tallies.Tally.{Tally}
use Rattle.er_event.specs.declared.totals.Totals.{Totals}
use Rattle.er_event.specs.Event.{EventValue}
use Rattle.er_event.specs.Round.{is_bye, is_complete}
use Rattle.er_event.specs.Totals.{totals}

-- a player's, with what these totals give
abbrev pub tally_by : (ℕ → Totals) → Player → Tally
tally_by come_to p = record { no = p.no; totals = come_to p.no; dropped = p.dropped }

-- one for each player, by number
abbrev pub tallies : EventValue → List Tally
tallies event = map (tally_by (totals event)) event.players

abbrev pub complete_matches : List Round → List Match
complete_matches rounds = flat_map (λ (r : Round). if is_complete r.matches then r.matches else []) rounds

-- the two of a match, the lesser number first, each with what these totals give
abbrev pub meeting_by : (ℕ → Totals) → Match → Meeting
meeting_by come_to m = record {
  lo = min m.a m.b;
  hi = max m.a m.b;
  lo_totals = come_to (min m.a m.b);
  hi_totals = come_to (max m.a m.b);
}

-- one for each match of the counted rounds, by round and table; a bye isn't a meeting
abbrev pub meetings : EventValue → List Meeting
meetings event = map (meeting_by (totals event)) (filter (λ m. not (is_bye m)) (complete_matches event.stored))

-- what a row of totals can be read as
pub record AreReadable (t : Totals) : Type 0 where
  pub points : t.points < 256
  pub rounds : t.rounds < 256
  pub game_points : t.game_points < 65536
  pub games : t.games < 65536
