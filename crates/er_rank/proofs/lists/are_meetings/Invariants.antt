use Rattle.std.proofs.Common.{◌≡◌, length, take}
use Rattle.er_rank.specs.{inside.Counting.AreCountsOf, Meeting.{encounters, AreEncounters}}
use Rattle.er_rank.proofs.lists.are_meetings.Given as goal

abbrev pub invariant-loop-meeting : goal.invariant-loop-meeting
invariant-loop-meeting l = record {
  players : length l.counts ≡ l.players;
  are : AreEncounters l.players (encounters (take l.meeting-index l.meetings));
  counts : AreCountsOf (encounters (take l.meeting-index l.meetings)) l.counts;
}
