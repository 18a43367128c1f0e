use Rattle.std.proofs.Common.{Some}
use Rattle.er_slips.proofs.Answering.{written}
use Rattle.er_slips.proofs.laws.writes_due.Goals as goal

pub returns : goal.returns
returns g c old new input before after served it runs sure = written _ (Some input) _ it.session _ _ _ served it.ends runs sure
