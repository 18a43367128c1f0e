use Rattle.er_sessions.proofs.Holding.{are_cut}
use Rattle.er_sessions.proofs.cut.Goals as goal

pub returns : goal.returns
returns g c clean = are_cut c.args.conn c.into_store-store.result c.close.result c.close.ensures c.into_store-store.ensures.quiet
    c.into_store-store.ensures.numbered c.into_store-store.ensures.sound clean
