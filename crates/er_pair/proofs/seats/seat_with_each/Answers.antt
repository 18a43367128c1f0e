use Rattle.std.proofs.{Common.{arith, length-set}, lemmas.Grind.common_steps}
use Rattle.er_pair.proofs.Trying.{fewer_ahead}
use Rattle.er_pair.proofs.seats.seat_with_each.Goals as goal

pub loop-number-smaller : goal.loop-number-smaller
loop-number-smaller c = grind (arith, common_steps, fewer_ahead, length-set)
