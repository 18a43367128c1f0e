use Rattle.std.proofs.Common.{◌≡◌, length, take}
use Rattle.er_rank.specs.{Meeting.encounters, inside.Opponents.AreOpponentsOf}
use Rattle.er_rank.proofs.opponents.opponents_of.Given as goal

abbrev pub invariant-loop-meeting : goal.invariant-loop-meeting
invariant-loop-meeting l =
    (length l.opponents.items ≡ l.players) × AreOpponentsOf (encounters (take l.meeting-index l.meetings)) l.opponents.items
