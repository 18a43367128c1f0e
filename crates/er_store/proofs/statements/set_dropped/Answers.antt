use Rattle.er_store.proofs.Prelude.{on_ok_weaker}
use Rattle.er_store.proofs.Setting.{player_dropped}
use Rattle.er_store.proofs.statements.set_dropped.Goals as goal

pub returns-clause-makes : goal.returns-clause-makes
returns-clause-makes g c l e is numbered s rows represents clean =
    on_ok_weaker c.run.result (player_dropped c.args.number l is represents numbered.0 numbered.1)
    (rw c.params-to_sql.ensures at (c.run.ensures.ran clean))
