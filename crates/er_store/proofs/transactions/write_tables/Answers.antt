use Rattle.er_store.proofs.Prelude.{inl, rules, subst, sym, true, ◌+◌, ◌≡◌, on_ok_weaker, HasCleanDisk}
use Rattle.er_store.proofs.Prelude.{state, after, RepresentsNow}
use Rattle.er_store.proofs.Prelude.{KeepsOthers, KeepsRest, IsReady, Layout, HasTablesAt, Database}
use Rattle.er_store.proofs.Prelude.{all_weaker}
use Rattle.er_store.proofs.Layouts.{same_trees, same_others}
use Rattle.er_store.proofs.{Lending.{on_ok_later, dropped, committed}, Crash.{was_clean, survives_both, leaves_old, written}}
use Rattle.er_store.proofs.Crash.{leaves_among, leaves_either, leaves_now}
use Rattle.er_store.proofs.transactions.write_tables.Given as given
use Rattle.er_store.proofs.transactions.write_tables.Goals as goal

-- a schema has one layout of a version
rest_kept : (l : Layout) {old new : Database} → HasTablesAt l old.schema → KeepsRest l old new → KeepsOthers l.version old new
rest_kept l {old} {new} has keeps = record {
  schema = keeps.schema;
  rest = λ m is more. record {
    schema = keeps.schema;
    rows = all_weaker _ _ (λ t kept other. kept (same_others l m
        (same_trees l m (sym is) has more) t.tree other)) old.schema.tables keeps.rows;
  };
}

-- the change went well, since the commit is reached
ready : (g : given.Over) (c : goal.After-conn-2-1 g) → HasCleanDisk (state g.S.Store c.commit.new.self.0)
    → RepresentsNow c.args.version (state g.S.Store c.args.conn.now) c.args.event.now c.args.serial
    → IsReady c.args.version (state g.S.Store c.change_event.new.tx.conn.now) (after c.args.event.now c.args.change.now) (c.args.serial + 1)
    × KeepsOthers c.args.version (state g.S.Store c.args.conn.now).now (state g.S.Store c.change_event.new.tx.conn.now).now
ready g c late was =
    let begins = rw c.transaction-tx.ensures.begun at c.in_ok-change_event.ensures.makes in
    let old = (state g.S.Store c.args.conn.now).now in
    let new = (state g.S.Store c.change_event.new.tx.conn.now).now in
    let at = was.represents in
    let made = begins at.layout at.is at.represents (was_clean c.commit.ensures.survives late) in (
      record { sound = made.leaves.continues.sound; represents = record { layout = at.layout; is = at.is; represents = made.represents } },
      subst (λ v. KeepsOthers v old new) at.is (rest_kept at.layout at.represents.has.tables made.leaves.keeps),
    )

pub returns-clause-written : goal.returns-clause-written
returns-clause-written g c clean was =
    let old = state g.S.Store c.args.conn.now in
    let same : c.commit.new.self.0 ≡ c.conn-2-1.given.0 = search rules in
    let late = rw (← same) at clean in
    let it = ready g c late was in
    rw (← same) (on_ok_weaker c.commit.result (λ done. (
      written it.0 done.1,
      subst (KeepsOthers c.args.version old.now)
          (sym done.1.now_is) it.1,
    ))
    (c.commit.ensures.ok late))

pub returns-clause-acknowledged : goal.returns-clause-acknowledged
returns-clause-acknowledged g c was = on_ok_later _ _ c.commit.result (λ clean.
    let end = c.commit.new.self.0 in
    let same : end ≡ c.conn-2-1.given.0 = search rules in
    let late = rw (← same) at clean in
    let it = ready g c late was in
    rw (← same) (on_ok_weaker c.commit.result (λ done.
    leaves_among it.0 it.1 (λ db is_open left. g.met.S.Store.settled end.store db is_open left) done.1)
    (c.commit.ensures.ok late)))

pub returns-clause-crash : goal.returns-clause-crash
returns-clause-crash g c was clean trees may =
    let old = state g.S.Store c.args.conn.now in
    let same : c.commit.new.self.0 ≡ c.conn-2-1.given.0 = search rules in
    let late = rw (← same) at clean in
    let it = ready g c late was in
    leaves_either it.0 it.1 (record old { in_transaction = true })
    (leaves_now old (λ db is_open left. g.met.S.Store.settled c.args.conn.now.store db is_open left) was)
    (rw c.transaction-tx.ensures.begun at c.change_event.ensures.lends.stays.survives)
    c.commit.ensures.survives late trees (rw (← same) at may)

-- if the change is refused, the transaction is dropped
pub returns-in_err-change_event-clause-crash : goal.returns-in_err-change_event-clause-crash
returns-in_err-change_event-clause-crash g c was clean trees may =
    let old = state g.S.Store c.args.conn.now in
    let end = c.drop-tx.new.self.0 in
    let same : end ≡ c.conn-1.given.0 = search rules in
    let step = rw c.transaction-tx.ensures.begun at c.change_event.ensures.lends.stays.survives in
    let quiet = survives_both step c.drop-tx.ensures.survives in
    inl (leaves_old old (state g.S.Store end)
    (λ db is_open left. g.met.S.Store.settled c.args.conn.now.store db is_open left) was
    quiet (rw (← same) at clean) trees (rw (← same) at may))

-- a refusal leaves the tables as they were
pub returns-in_err-change_event-clause-transacts : goal.returns-in_err-change_event-clause-transacts
returns-in_err-change_event-clause-transacts g c =
    dropped g.S.Store c.args.conn.now c.transaction-tx.result.conn.now c.change_event.new.tx.conn.now c.drop-tx.new.self.0
    c.conn-1.given.0 _
    c.from_residual.result c.transaction-tx.ensures.begun c.change_event.ensures.lends.stays c.drop-tx.ensures.survives (search rules)
    (search rules) c.drop-tx.ensures.undone

pub returns-clause-transacts : goal.returns-clause-transacts
returns-clause-transacts g c =
    committed g.S.Store c.args.conn.now c.transaction-tx.result.conn.now c.change_event.new.tx.conn.now c.commit.new.self.0
    c.conn-2-1.given.0 _
    c.commit.result c.transaction-tx.ensures.begun c.change_event.ensures.lends.stays c.commit.ensures.survives (search rules)
    (search rules)
    c.in_ok-change_event.ensures.inside c.commit.ensures.err
