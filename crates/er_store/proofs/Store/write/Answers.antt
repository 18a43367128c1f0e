use Rattle.er_store.proofs.Prelude.{◌≡◌, refl, rules, List, [], ◌∷◌, Trees, Table, Database, KeepsOthers, IsOther, Layout, ℕ}
use Rattle.er_store.proofs.Prelude.{HasCleanDisk, Err, EventValue, Ghosts, Held, IsFault, RepresentsNow, IsTrue}
use Rattle.er_store.proofs.Prelude.{IsFalse, AreTreesOf, IsStoredAmong}
use Rattle.er_store.proofs.Prelude.{◌+◌, subst}
use Rattle.er_event.specs.declared.refusals.Refusal.{Refusal}
use Rattle.sqlite.specs.Held as sqlite
use Rattle.sqlite.specs.declared.error.Error.{Error}
use Rattle.er_store.specs.{Calls.WritesChange, Representing.{Either, AfterCrash}, inside.Looking.Transacts}
use Rattle.er_store.specs.declared.Store.{Store}
use Rattle.er_store.specs.Store as store
use Rattle.std.specs.List.{AllByRecursion}
use Rattle.er_store.proofs.{Lending.still_ok, Stopping.stopped_call}
use Rattle.er_store.proofs.Store.write.Goals as goal

same_rest : (l : Layout) (trees : Trees) (tables : List Table)
    → AllByRecursion (λ (t : Table). IsOther l t.tree → trees t.tree ≡ trees t.tree) tables
same_rest l trees [] = tt
same_rest l trees (t ∷ more) = (λ other. refl, same_rest l trees more)

keeps_same : (version : ℕ) (old new : Database) → new ≡ old → KeepsOthers version old new
keeps_same version old new is = rw is (record {
  schema = refl;
  rest = λ l of has. record { schema = refl; rows = same_rest l old.trees old.schema.tables };
})

pub returns-in-Ok : goal.returns-in-Ok
returns-in-Ok g c =
    let made = c.in-Ok.ensures in
    record {
      as_call = record { call = still_ok made.transacts.call; waits = search rules; stops = search rules };
      version = refl;
      others = λ clean was is_open. (made.written clean was).1;
      written = λ clean was. (made.written clean was).0;
      acknowledged = made.acknowledged;
      crash = λ runs was. made.crash was;
    }

-- What it leaves if the transaction was refused. That the store has stopped then, and stays on its connection, is for `search`
-- to find, so that a body that goes on is refused there.
failed_writes : {S : Type 0} (g : Ghosts S) {e next : EventValue} {serial : ℕ} (old new : Store S g) (conn : Held S) {why : Refusal}
    {error : Error}
    → Transacts {A = Unit {0}} g (store.connection old) (Err error) conn
    → (RepresentsNow (store.store_version old) (store.store_state g old) e serial → AfterCrash (sqlite.state g conn)
    (Either (AreTreesOf (store.store_state g old).now)
    (IsStoredAmong (store.store_version old) (store.store_state g old).now next (serial + 1))))
    → IsFalse (store.needs_reopen old) → store.connection new ≡ conn → IsFault why → IsTrue (store.needs_reopen new)
    → store.store_version new ≡ store.store_version old
    → WritesChange g e next serial old (Err why) new
failed_writes g old new conn failed crash runs same fault stopped version =
    let late : HasCleanDisk (store.store_state g new) → HasCleanDisk (sqlite.state g conn) =
    subst (λ (h : Held _). HasCleanDisk (sqlite.state g h)) same in
    let as_call = stopped_call g old new conn failed runs same fault stopped in
    record {
      as_call = as_call;
      version = version;
      others = λ now was is_open. keeps_same _ _ _ (as_call.call.kept now was.settled is_open).0;
      written = λ now was. tt;
      acknowledged = λ was. tt;
      crash = λ runs was now trees may.
          crash was (late now) trees (subst (λ (h : Held _). (sqlite.state g h).may_leave trees) same may);
    }

pub returns-in-Err : goal.returns-in-Err
returns-in-Err g c =
    let failed = c.in-Err.ensures in
    failed_writes g.S.Store c.args.self.now _ _ failed.transacts failed.crash (search rules) (search rules) (search rules)
    (search rules) (search rules)

pub returns-then-self : goal.returns-then-self
returns-then-self g c = record {
  as_call = record {
    call = record { clean = λ clean. clean; limit = refl; kept = search rules };
    waits = search rules;
    stops = search rules;
  };
  version = refl;
  others = λ clean was is_open. keeps_same _ _ _ refl;
  written = λ clean was. tt;
  acknowledged = λ was. tt;
  crash = search rules;
}
