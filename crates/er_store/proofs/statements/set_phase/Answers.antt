use Rattle.er_store.proofs.Prelude.{on_ok_weaker}
use Rattle.er_store.proofs.Effects.{phase_set}
use Rattle.er_store.proofs.statements.set_phase.Goals as goal

pub returns-clause-makes : goal.returns-clause-makes
returns-clause-makes g c l e s rows represents clean =
    on_ok_weaker c.run.result (phase_set c.args.phase represents)
    (rw (c.params-to_sql.ensures, c.from.ensures, c.code.ensures) at (c.run.ensures.ran clean))
