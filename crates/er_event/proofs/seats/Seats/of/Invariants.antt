use Rattle.er_event.proofs.Prelude.{take}
use Rattle.er_event.specs.inside.Seats.{AreTabled}
use Rattle.er_event.proofs.seats.Seats.of.Given as goal

abbrev pub invariant-loop-place : goal.invariant-loop-place
invariant-loop-place l = AreTabled (take l.place l.matches) l.table
