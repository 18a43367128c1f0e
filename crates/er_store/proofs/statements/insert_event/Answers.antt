use Rattle.er_store.proofs.Prelude.{on_ok_weaker}
use Rattle.er_store.proofs.Effects.{puts_event}
use Rattle.er_store.proofs.statements.insert_event.Goals as goal

pub returns-clause-puts : goal.returns-clause-puts
returns-clause-puts g c at tree there clean =
    on_ok_weaker c.run.result (puts_event c.args.version c.args.event.now c.args.serial there)
    (rw (c.from-cut.ensures, c.cut.ensures.value, c.from-phase.ensures, c.code.ensures, c.phase.ensures.value) at
    (rw (c.params-to_sql-6.ensures, c.as_str.ensures.value, c.name.ensures.value, c.from-rounds.ensures, c.rounds.ensures.value) at
    (rw (c.params-to_sql-5.ensures, c.from-version.ensures) at
    (rw (c.params-to_sql.ensures, c.params-to_sql-2.ensures, c.params-to_sql-3.ensures, c.params-to_sql-4.ensures) at
    (c.run.ensures.ran clean)))))

pub returns-clause-inside : goal.returns-clause-inside
returns-clause-inside g c clean = on_ok_weaker c.run.result (λ ran. ran.executes.1.mode) (c.run.ensures.ran clean)
