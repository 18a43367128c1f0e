use Rattle.std.proofs.Common.{inl, inr, refl}
use Rattle.er_cli.proofs.Handing.{served_for}
use Rattle.er_cli.proofs.files.listen.Goals as goal

pub returns-in-Ok-listen : goal.returns-in-Ok-listen
returns-in-Ok-listen g c =
    let it = served_for g.S.Store c.args.desk.now c.serve_all-status.new.desk c.args.count c.serve_all-status.result _ _ _ _ _ _
    c.in-Ok-listen.ensures.coming c.leave.ensures c.in-Ok-listen.ensures.fresh c.serve_all-status.ensures.turns
    c.serve_all-status.ensures.served in (
      it.0,
      inl ((_, c.in-Ok-listen.ensures.range, c.in-Ok-listen.ensures.port, c.serve_all-status.ensures.printed), refl, it.1.0, it.1.1),
      it.2,
    )

pub returns : goal.returns
returns g c = (_, inr (refl, refl, inl (c.end_with.ensures, refl)), c.asks_nothing.ensures)

pub returns-in_default : goal.returns-in_default
returns-in_default g c = (_, inr (refl, refl, inr c.print.ensures), c.asks_nothing.ensures)
