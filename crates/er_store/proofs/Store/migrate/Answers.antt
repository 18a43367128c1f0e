use Rattle.er_store.proofs.Prelude.{◌≡◌, ◌≢◌, ℕ, refl, rules, subst, Err, IsTrue, IsFalse, IsFault, EventValue, Ghosts, Held}
use Rattle.er_store.proofs.Prelude.{HasCleanDisk, RepresentsNow, AreTreesOf}
use Rattle.er_store.proofs.{Lending.still_ok, Stopping.stopped_call}
use Rattle.er_event.specs.declared.refusals.Refusal.{Refusal}
use Rattle.sqlite.specs.Held as sqlite
use Rattle.sqlite.specs.declared.error.Error.{Error}
use Rattle.er_store.specs.Migrated.{CanMigrate, IsMovedAmong, IsTaken, MovesTables}
use Rattle.er_store.specs.{Representing.{AfterCrash, Either}, inside.Looking.Transacts}
use Rattle.er_store.specs.declared.Store.{Store}
use Rattle.er_store.specs.Store as store
use Rattle.er_store.proofs.Store.migrate.Goals as goal

pub returns-in-Ok : goal.returns-in-Ok
returns-in-Ok g c = record {
  as_call = record { call = still_ok c.in-Ok.ensures.transacts.call; waits = search rules; stops = search rules };
  version = search rules;
  second = search rules;
  taken = search rules;
  migrated = λ clean version may. c.in-Ok.ensures.migrated clean c.args.serial may;
  beside = λ clean version may. c.in-Ok.ensures.beside clean c.args.serial may;
  acknowledged = λ version may. c.in-Ok.ensures.acknowledged c.args.serial may;
  crash = λ runs version may. c.in-Ok.ensures.crash c.args.serial may;
}

-- What it leaves if the transaction was refused. That the store has stopped then, and stays on its connection, is for `search`
-- to find, so that a body that goes on is refused there.
failed_moves : {S : Type 0} (g : Ghosts S) {e : EventValue} {serial : ℕ} (old new : Store S g) (conn : Held S) {why : Refusal}
    {error : Error}
    → Transacts {A = Unit {0}} g (store.connection old) (Err error) conn
    → (CanMigrate (store.store_state g old) e serial → AfterCrash (sqlite.state g conn)
    (Either (AreTreesOf (store.store_state g old).now) (IsMovedAmong (store.store_state g old).now e serial)))
    → (HasCleanDisk (sqlite.state g conn) → IsTaken (store.store_state g old).now → RepresentsNow 1 (store.store_state g old) e serial
    → AfterCrash (sqlite.state g conn) (AreTreesOf (store.store_state g old).now))
    → IsFalse (store.needs_reopen old) → store.store_version old ≢ 2 → store.connection new ≡ conn → IsFault why
    → IsTrue (store.needs_reopen new) → store.store_version new ≡ store.store_version old
    → MovesTables g e serial old (Err why) new
failed_moves g old new conn failed crash taken runs first same fault stopped version =
    let late : HasCleanDisk (store.store_state g new) → HasCleanDisk (sqlite.state g conn) =
    subst (λ (h : Held _). HasCleanDisk (sqlite.state g h)) same in
    record {
      as_call = stopped_call g old new conn failed runs same fault stopped;
      version = version;
      second = λ runs second. absurd (first second);
      taken = λ runs is clean used. (
        refl,
        λ shows now trees may. taken (late clean) used shows (late now) trees
            (subst (λ (h : Held _). (sqlite.state g h).may_leave trees) same may),
      );
      migrated = λ clean is may. tt;
      beside = λ clean is may. tt;
      acknowledged = λ is may. tt;
      crash = λ runs is may now trees left.
          crash may (late now) trees (subst (λ (h : Held _). (sqlite.state g h).may_leave trees) same left);
    }

pub returns-in-Err : goal.returns-in-Err
returns-in-Err g c =
    let failed = c.in-Err.ensures in
    failed_moves g.S.Store c.args.self.now _ _ failed.transacts (failed.crash c.args.serial)
    (λ clean used. (failed.taken clean used).1 c.args.serial) (search rules) (search rules) (search rules) (search rules) (search rules)
    (search rules)
