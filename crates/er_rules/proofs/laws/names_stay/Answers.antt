use Rattle.er_rules.proofs.Retrying.{enrolled_once}
use Rattle.er_rules.proofs.laws.names_stay.Goals as goal

pub returns : goal.returns
returns c = enrolled_once
