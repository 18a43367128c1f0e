use Rattle.er_store.proofs.Prelude.{BracketTable}
use Rattle.er_store.proofs.Prelude.{subst, on_ok_weaker, state, next_rowid, BracketRow, stored_slot, Puts}
use Rattle.er_store.proofs.{Effects.puts_slot, Adding.slot_added}
use Rattle.er_store.proofs.statements.insert_slot.Goals as goal

pub returns-clause-makes : goal.returns-clause-makes
returns-clause-makes g c l e before m is s rows represents clean =
    let old = state g.S.Store c.args.tx.now.conn.now in
    let new = state g.S.Store c.run.new.tx.conn.now in
    let id = next_rowid (old.now.trees (l.tree BracketTable)) in
    on_ok_weaker c.run.result (λ ran. slot_added e before m id represents
    (subst (λ (r : BracketRow). Puts (l.tree BracketTable) (stored_slot id r) old new) is
    (puts_slot c.args.row.now represents.has.tables ran)))
    (rw (c.params-to_sql-5.ensures, c.params-to_sql-6.ensures, c.params-to_sql-7.ensures, c.params-to_sql-8.ensures) at
    (rw (c.params-to_sql.ensures, c.params-to_sql-2.ensures, c.params-to_sql-3.ensures, c.params-to_sql-4.ensures) at
    (c.run.ensures.ran clean)))
