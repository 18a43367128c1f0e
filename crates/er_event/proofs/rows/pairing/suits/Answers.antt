use Rattle.er_event.proofs.Prelude.{is_complete, arith, common_steps}
use Rattle.er_event.proofs.RoundLemmas.{of-All}
use Rattle.er_event.proofs.rows.pairing.suits.Goals as goal

pub returns-then-rounds-limit-2 : goal.returns-then-rounds-limit-2
returns-then-rounds-limit-2 c = grind (arith, common_steps, is_complete, of-All)
