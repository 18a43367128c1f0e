use Rattle.er_store.proofs.Prelude.{rules, true, ◌≡◌, on_ok_weaker, HasCleanDisk, state, Database, ap, ◌∙◌}
use Rattle.er_store.proofs.{Lending.{dropped, committed}, Crash.was_clean}
use Rattle.er_store.proofs.Beside.{written_beside, leaves_beside}
use Rattle.er_store.specs.inside.Making.{IsReadyBeside}
use Rattle.er_store.proofs.transactions.create_tables.Given as given
use Rattle.er_store.proofs.transactions.create_tables.Goals as goal

-- in an empty file the five are the only ones
pub returns-clause-alone : goal.returns-clause-alone
returns-clause-alone g c clean none =
    let same : c.commit.new.self.0 ≡ c.conn-2-1.given.0 = search rules in
    let late = rw (← same) at clean in
    let alone = rw c.transaction-tx.ensures.begun at (c.in_ok-make_event.ensures.alone) in
    rw (← same) (on_ok_weaker c.commit.result
    (λ done. ap (λ (d : Database). d.schema) done.1.now_is ∙ alone none (was_clean c.commit.ensures.survives late)) (c.commit.ensures.ok late))

-- ---- whatever stood before

ready_too : (g : given.Over) (c : goal.After-conn-2-1 g) → HasCleanDisk (state g.S.Store c.commit.new.self.0)
    → IsReadyBeside c.args.version c.args.event.now (record (state g.S.Store c.args.conn.now) { in_transaction = true })
    (state g.S.Store c.make_event.new.tx.conn.now)
ready_too g c late =
    rw c.transaction-tx.ensures.begun at (c.in_ok-make_event.ensures.beside (was_clean c.commit.ensures.survives late))

pub returns-clause-beside : goal.returns-clause-beside
returns-clause-beside g c clean =
    let same : c.commit.new.self.0 ≡ c.conn-2-1.given.0 = search rules in
    let late = rw (← same) at clean in
    rw (← same) (on_ok_weaker c.commit.result (λ done.
    written_beside (ready_too g c late) (λ db is_open may. g.met.S.Store.settled c.commit.new.self.0.store db is_open may) done.1)
    (c.commit.ensures.ok late))

pub returns-clause-beside_crash : goal.returns-clause-beside_crash
returns-clause-beside_crash g c clean trees may =
    let same : c.commit.new.self.0 ≡ c.conn-2-1.given.0 = search rules in
    let late = rw (← same) at clean in
    leaves_beside (ready_too g c late) (rw c.transaction-tx.ensures.begun at c.make_event.ensures.lends.stays.survives)
    c.commit.ensures.survives late trees (rw (← same) at may)

-- a refusal leaves the tables as they were
pub returns-in_err-make_event-clause-transacts : goal.returns-in_err-make_event-clause-transacts
returns-in_err-make_event-clause-transacts g c =
    dropped g.S.Store c.args.conn.now c.transaction-tx.result.conn.now c.make_event.new.tx.conn.now c.drop-tx.new.self.0 c.conn-1.given.0 _
    c.from_residual.result c.transaction-tx.ensures.begun c.make_event.ensures.lends.stays c.drop-tx.ensures.survives (search rules)
    (search rules) c.drop-tx.ensures.undone

pub returns-clause-transacts : goal.returns-clause-transacts
returns-clause-transacts g c =
    committed g.S.Store c.args.conn.now c.transaction-tx.result.conn.now c.make_event.new.tx.conn.now c.commit.new.self.0
    c.conn-2-1.given.0 _
    c.commit.result c.transaction-tx.ensures.begun c.make_event.ensures.lends.stays c.commit.ensures.survives (search rules) (search rules)
    c.in_ok-make_event.ensures.inside c.commit.ensures.err
