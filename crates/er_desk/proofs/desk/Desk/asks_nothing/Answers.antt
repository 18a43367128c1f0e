use Rattle.er_desk.proofs.Asking.{same_asks}
use Rattle.er_desk.proofs.desk.Desk.asks_nothing.Goals as goal

pub returns : goal.returns
returns g c =
    same_asks g.S.Store c.args.self.now
    (c.shown_is_stored.ensures _ _ _)
