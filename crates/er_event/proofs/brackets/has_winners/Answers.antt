use Rattle.er_event.proofs.Prelude.{arith, common_steps}
use Rattle.er_event.proofs.SlotLemmas.{winners-end, winners-length, winners-more}
use Rattle.er_event.proofs.brackets.has_winners.Goals as goal

pub returns-then-next-stage : goal.returns-then-next-stage
returns-then-next-stage c = grind (arith, common_steps, winners-length)

pub loop-place-preserved : goal.loop-place-preserved
loop-place-preserved c = grind (arith, common_steps, winners-more)

pub returns : goal.returns
returns c = grind (arith, common_steps, winners-end)
