use Rattle.er_desk.proofs.Asking.{submits_ask}
use Rattle.er_desk.proofs.desk.Desk.submits_ask.Goals as goal

pub returns : goal.returns
returns g c = submits_ask g.S.Store
