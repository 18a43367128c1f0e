use Rattle.er_store.proofs.Prelude.{on_ok_weaker}
use Rattle.er_store.proofs.Effects.{puts_player2}
use Rattle.er_store.proofs.statements.insert_player2.Goals as goal

pub returns-clause-puts : goal.returns-clause-puts
returns-clause-puts g c at tree there clean =
    on_ok_weaker c.run.result (puts_player2 c.args.number c.args.name.now c.args.dropped c.args.joined there)
    (rw (c.params-to_sql.ensures, c.params-to_sql-2.ensures, c.params-to_sql-3.ensures, c.params-to_sql-4.ensures) at
    (c.run.ensures.ran clean))
