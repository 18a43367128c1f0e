use Rattle.er_desk.proofs.Asking.{asks_joined}
use Rattle.er_desk.proofs.desk.Desk.asks_then.Goals as goal

pub returns : goal.returns
returns g c = asks_joined g.S.Store
