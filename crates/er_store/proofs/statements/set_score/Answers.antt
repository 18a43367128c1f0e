use Rattle.er_store.proofs.Prelude.{◌≡◌, rules, on_ok_weaker}
use Rattle.er_store.proofs.Setting.{pairing_scored}
use Rattle.er_store.proofs.statements.set_score.Goals as goal

pub returns-clause-makes : goal.returns-clause-makes
returns-clause-makes g c l e m found seat s rows represents clean =
    let x : c.from.result ≡ c.args.score.x = search rules in
    let y : c.from-2.result ≡ c.args.score.y = search rules in
    let d : c.from-3.result ≡ c.args.score.d = search rules in
    on_ok_weaker c.run.result (pairing_scored c.args.round c.args.table c.args.score represents found seat)
    (rw (c.params-to_sql-5.ensures, x, y, d) at
    (rw (c.params-to_sql.ensures, c.params-to_sql-2.ensures, c.params-to_sql-3.ensures, c.params-to_sql-4.ensures) at
    (c.run.ensures.ran clean)))
