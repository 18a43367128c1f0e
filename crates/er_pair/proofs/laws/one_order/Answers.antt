use Rattle.er_pair.proofs.Uniqueness.{one_order}
use Rattle.er_pair.proofs.laws.one_order.Goals as goal

pub returns : goal.returns
returns c = one_order
