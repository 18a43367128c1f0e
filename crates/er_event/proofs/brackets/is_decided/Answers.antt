use Rattle.er_event.proofs.Prelude.{is_over, arith, nat_tests, common_steps}
use Rattle.er_event.proofs.SlotLemmas.{decided-last}
use Rattle.er_event.proofs.brackets.is_decided.Goals as goal

pub returns-in-Some : goal.returns-in-Some
returns-in-Some c = grind (arith, common_steps, decided-last, is_over, nat_tests)

pub returns-in-None : goal.returns-in-None
returns-in-None c = grind (arith, common_steps)
