use Rattle.std.proofs.{Common.arith, lemmas.Grind.common_steps}
use Rattle.er_rules.proofs.SlotLemmas.{same_length}
use Rattle.er_rules.proofs.seeds.same_slots.Goals as goal

pub returns-then-stage-other : goal.returns-then-stage-other
returns-then-stage-other c = grind (arith, common_steps, same_length)
