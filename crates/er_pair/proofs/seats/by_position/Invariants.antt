use Rattle.er_pair.proofs.Sharing.{IsGathered}
use Rattle.er_pair.proofs.seats.by_position.Given as goal

abbrev pub invariant-loop-number : goal.invariant-loop-number
invariant-loop-number l = IsGathered l.rows.items l.table.items l.order l.number-index
