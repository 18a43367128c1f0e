-- Who met whom, as the tables show it.
use Rattle.std.specs.Prelude.{ℕ, ℤ, pos, min, max, Bool, true, not, List, map, filter, flat_map, find, Option, Some, None}
use Rattle.std.specs.List.{enumerate_from}
use Rattle.std.specs.Prelude.{option_map, is_some}
use Rattle.std.specs.Ordering.{int_eq}
use Rattle.er_event.specs.declared.matches.Match.{Match}
use Rattle.er_event.specs.declared.rounds.Round.{Round}
use Rattle.er_event.specs.declared.rows.tally.TallyRow.{TallyRow}
use Rattle.er_event.specs.declared.tallies.Meeting.{Meeting}
use Rattle.er_event.specs.declared.totals.Totals.{Totals}
use Rattle.er_event.specs.Event.{EventValue}
use Rattle.er_event.specs.Round.{is_bye}
use Rattle.er_event.specs.Rows.{flag, tally_row}
use Rattle.er_event.specs.Totals.{totals}
use Rattle.er_store.specs.declared.rows.MeetingRow.{MeetingRow}

-- a match of two players, with what these totals give of the two, the lesser number first
abbrev pub meeting_row : (ℕ → Totals) → ℕ → ℕ × Match → MeetingRow
meeting_row come_to round numbered =
    let m = numbered.1 in
    record {
      round = pos round;
      tab = pos numbered.0;
      done = flag (is_some m.score);
      lo = tally_row (min m.a m.b) (come_to (min m.a m.b));
      hi = tally_row (max m.a m.b) (come_to (max m.a m.b));
    }

-- a bye isn't a meeting
abbrev pub round_meetings : (ℕ → Totals) → ℕ → List Match → List MeetingRow
round_meetings come_to round matches =
    map (meeting_row come_to round) (filter (λ (n : ℕ × Match). not (is_bye n.1)) (enumerate_from 1 matches))

abbrev pub meetings_from : (ℕ → Totals) → ℕ → List Round → List MeetingRow
meetings_from come_to first rounds = flat_map (λ (n : ℕ × Round). round_meetings come_to n.0 n.1.matches) (enumerate_from first rounds)

-- one for each match of two players, by round and table, whether it has a score or not
abbrev pub meeting_rows : EventValue → List MeetingRow
meeting_rows e = meetings_from (totals e) 1 e.stored

-- the round of the first match without a score, if there is one
abbrev pub open_round : List MeetingRow → Option ℤ
open_round rows = option_map (λ (r : MeetingRow). r.round) (find (λ (r : MeetingRow). int_eq r.done (pos 0)) rows)

abbrev pub is_outside : Option ℤ → MeetingRow → Bool
is_outside None row = true
is_outside (Some round) row = not (int_eq row.round round)

-- a round counts once each match of it has a score, and all rounds but the newest do
abbrev pub complete_rows : List MeetingRow → List MeetingRow
complete_rows rows = filter (is_outside (open_round rows)) rows

-- the rows of the two players' totals
abbrev pub sides_in : MeetingRow → TallyRow × TallyRow
sides_in row = (row.lo, row.hi)

abbrev pub sides_of : Meeting → TallyRow × TallyRow
sides_of m = (tally_row m.lo m.lo_totals, tally_row m.hi m.hi_totals)
