use Rattle.er_store.proofs.Prelude.{on_ok_weaker}
use Rattle.er_store.proofs.Setting.{totals_set}
use Rattle.er_store.proofs.statements.set_tally.Goals as goal

pub returns-clause-makes : goal.returns-clause-makes
returns-clause-makes g c l e come_to number totals is numbered s represents clean =
    on_ok_weaker c.run.result (λ ran. totals_set number totals come_to represents numbered.0 numbered.1 (rw is at ran))
    (rw c.params-to_sql-5.ensures at
    (rw (c.params-to_sql.ensures, c.params-to_sql-2.ensures, c.params-to_sql-3.ensures, c.params-to_sql-4.ensures) at
    (c.run.ensures.ran clean)))
