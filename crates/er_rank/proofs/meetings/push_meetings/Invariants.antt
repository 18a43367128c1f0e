use Rattle.std.proofs.Common.{◌≡◌, ◌++◌, take}
use Rattle.er_rank.specs.Meeting.{tally_totals}
use Rattle.er_rank.proofs.MeetingLemmas.{made_of}
use Rattle.er_rank.proofs.meetings.push_meetings.Given as goal

abbrev pub invariant-loop-played : goal.invariant-loop-played
invariant-loop-played l = l.meetings.items ≡ l.fn.meetings.items ++ made_of (tally_totals l.tallies) (take l.played-index l.matches)
