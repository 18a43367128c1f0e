use Rattle.er_pair.proofs.Ordering.{stands_once}
use Rattle.er_pair.proofs.laws.stand_once.Goals as goal

pub returns : goal.returns
returns c = stands_once
