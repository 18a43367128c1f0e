use Rattle.std.proofs.Common.{◌≡◌, take}
use Rattle.er_event.specs.Tallies.{complete_matches}
use Rattle.er_rank.specs.Meeting.{tally_totals}
use Rattle.er_rank.proofs.MeetingLemmas.{made_of}
use Rattle.er_rank.proofs.meetings.meetings_of.Given as goal

abbrev pub invariant-loop-round : goal.invariant-loop-round
invariant-loop-round l = l.meetings.items ≡ made_of (tally_totals l.tallies) (complete_matches (take l.round-index l.rounds))
