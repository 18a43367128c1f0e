use Rattle.er_event.proofs.Prelude.{arith, common_steps}
use Rattle.er_event.proofs.PartsLemmas.{number_at, numbers-more}
use Rattle.er_event.proofs.players.are_numbered.Goals as goal

pub returns-then-from-place : goal.returns-then-from-place
returns-then-from-place c = grind (arith, common_steps, number_at)

pub loop-place-preserved : goal.loop-place-preserved
loop-place-preserved c = grind (arith, common_steps, numbers-more)
