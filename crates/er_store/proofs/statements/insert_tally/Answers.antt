use Rattle.er_store.proofs.Prelude.{on_ok_weaker}
use Rattle.er_store.proofs.{Effects.puts_tally, Together.tally_added}
use Rattle.er_store.proofs.statements.insert_tally.Goals as goal

pub returns-clause-makes : goal.returns-clause-makes
returns-clause-makes g c l e rows s represents clean =
    on_ok_weaker c.run.result (λ ran. tally_added represents c.args.row.now (puts_tally c.args.row.now represents.has.tables ran))
    (rw c.params-to_sql-5.ensures at
    (rw (c.params-to_sql.ensures, c.params-to_sql-2.ensures, c.params-to_sql-3.ensures, c.params-to_sql-4.ensures) at
    (c.run.ensures.ran clean)))
