use Rattle.er_slips.proofs.Retrying.{retries}
use Rattle.er_slips.proofs.laws.retries.Goals as goal

pub returns : goal.returns
returns c = retries c.no_double_effect.ensures
