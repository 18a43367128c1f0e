use Rattle.er_event.proofs.Prelude.{take, ◌≡◌}
use Rattle.er_event.proofs.brackets.copy_stages.Given as goal

abbrev pub invariant-loop-stage : goal.invariant-loop-stage
invariant-loop-stage l = l.copies.items ≡ take l.stage-index l.stages
