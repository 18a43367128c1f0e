use Rattle.er_pair.proofs.Sharing.{IsShared}
use Rattle.er_pair.proofs.seats.seat_all.Given as goal

abbrev pub invariant-loop-position : goal.invariant-loop-position
invariant-loop-position l = IsShared l.rows l.met l.order l.position
