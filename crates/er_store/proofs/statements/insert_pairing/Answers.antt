use Rattle.er_store.proofs.Prelude.{PairingTable}
use Rattle.er_store.proofs.Prelude.{subst, on_ok_weaker, state, next_rowid, PairingRow, stored_pairing, Puts}
use Rattle.er_store.proofs.{Effects.puts_pairing, Adding.pairing_added}
use Rattle.er_store.proofs.statements.insert_pairing.Goals as goal

pub returns-clause-makes : goal.returns-clause-makes
returns-clause-makes g c l e before m is s rows represents clean =
    let old = state g.S.Store c.args.tx.now.conn.now in
    let new = state g.S.Store c.run.new.tx.conn.now in
    let id = next_rowid (old.now.trees (l.tree PairingTable)) in
    on_ok_weaker c.run.result (λ ran. pairing_added e before m id represents
    (subst (λ (r : PairingRow). Puts (l.tree PairingTable) (stored_pairing id r) old new) is
    (puts_pairing c.args.row.now represents.has.tables ran)))
    (rw c.params-to_sql-9.ensures at
    (rw (c.params-to_sql-5.ensures, c.params-to_sql-6.ensures, c.params-to_sql-7.ensures, c.params-to_sql-8.ensures) at
    (rw (c.params-to_sql.ensures, c.params-to_sql-2.ensures, c.params-to_sql-3.ensures, c.params-to_sql-4.ensures) at
    (c.run.ensures.ran clean))))
