use Rattle.er_event.proofs.Prelude.{keyed_round_rows, arith, common_steps}
use Rattle.er_event.proofs.PairingLemmas.{keyed-bye}
use Rattle.er_event.proofs.rows.pairing.read_with_bye.Goals as goal

pub returns-clause-value : goal.returns-clause-value
returns-clause-value c = grind (arith, common_steps, keyed-bye, keyed_round_rows)
