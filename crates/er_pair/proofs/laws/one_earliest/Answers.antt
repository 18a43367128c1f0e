use Rattle.er_pair.proofs.Entries.{one_earliest}
use Rattle.er_pair.proofs.laws.one_earliest.Goals as goal

pub returns : goal.returns
returns c = one_earliest
