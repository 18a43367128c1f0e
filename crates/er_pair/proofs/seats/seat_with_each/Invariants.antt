use Rattle.std.proofs.Common.{length}
use Rattle.er_pair.specs.inside.Search.{free_ahead}
use Rattle.er_pair.proofs.Sharing.{IsSeating}
use Rattle.er_pair.proofs.seats.seat_with_each.Given as goal

abbrev pub invariant-loop-number : goal.invariant-loop-number
invariant-loop-number l = IsSeating l.fn.rows l.rows l.numbers l.absent l.walk l.position

abbrev pub decreases-loop-number : goal.decreases-loop-number
decreases-loop-number l = length (free_ahead l.absent l.walk (length l.rows))
