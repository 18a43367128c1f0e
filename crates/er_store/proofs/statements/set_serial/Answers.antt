use Rattle.er_store.proofs.Prelude.{on_ok_weaker}
use Rattle.er_store.proofs.Effects.{serial_set}
use Rattle.er_store.proofs.statements.set_serial.Goals as goal

pub returns-clause-makes : goal.returns-clause-makes
returns-clause-makes g c l e s rows represents clean =
    on_ok_weaker c.run.result (serial_set c.args.serial c.requires represents) (rw c.params-to_sql.ensures at (c.run.ensures.ran clean))

pub returns-clause-inside : goal.returns-clause-inside
returns-clause-inside g c clean = on_ok_weaker c.run.result (λ ran. ran.executes.1.mode) (c.run.ensures.ran clean)
