-- What a migration promises.
use Rattle.std.specs.Prelude.{◌≡◌, ℕ, [], ◌∷◌, IsTrue, IsFalse, IsOk, IsErr, OnOk, MatchResult, Result, codes}
use Rattle.std.specs.List.{AllByRecursion}
use Rattle.sqlite_catalog.specs.Change.{is_used}
use Rattle.sqlite_rules.specs.Lists.{Has}
use Rattle.sqlite.specs.Effect.{Database}
use Rattle.sqlite.specs.Schema.{Schema}
use Rattle.sqlite.specs.Table.{Table}
use Rattle.sqlite.specs.Tree.{Trees}
use Rattle.sqlite.specs.State.{State, HasCleanDisk}
use Rattle.sqlite_trees.specs.declared.store.Store.{Ghosts}
use Rattle.er_event.specs.Event.{EventValue}
use Rattle.er_event.specs.declared.refusals.Place.TheVariants.{PlayerTable}
use Rattle.er_event.specs.declared.refusals.Refusal.{Refusal}
use Rattle.er_store.specs.declared.Store.{Store}
use Rattle.er_store.specs.Calls.{StoreCall, StopsByFault}
use Rattle.er_store.specs.Beside.{NoneAwaits, StandsFirst}
use Rattle.er_store.specs.Layout.{Layout}
use Rattle.er_store.specs.Representing.{AreTreesOf, HasTablesAt, IsOther, IsStoredIn, RepresentsNow, AfterCrash, Either}
use Rattle.er_store.specs.Store.{store_state, store_version, needs_reopen}

-- no foreign key waits for a table `player2`
abbrev pub NoneAwaitsPlayer2 : Schema → Type 0
NoneAwaitsPlayer2 schema = NoneAwaits (codes "player2") schema

-- The tables represent the event in version 1, and no foreign key waits for a table `player2`.
pub record CanMigrate (s : State) (e : EventValue) (serial : ℕ) : Type 0 where
  pub shows : RepresentsNow 1 s e serial
  pub unawaited : NoneAwaitsPlayer2 s.now.schema

-- They represent it in version 2, totals included, and `player`, which stays, has no rows.
pub record IsMigrated (s : State) (e : EventValue) (serial : ℕ) : Type 0 where
  pub shows : RepresentsNow 2 s e serial
  pub emptied : (l : Layout) → l.version ≡ 1 → HasTablesAt l s.now.schema → s.now.trees (l.tree PlayerTable) ≡ []

-- What stood stands first, and after it `player2`. The tables of others have the rows that they had.
pub record MigratesBeside (old new : Database) : Type 0 where
  pub first : StandsFirst old.schema new.schema
  pub just : (table : Table) → Has first.more table → Has (codes "player2" ∷ codes "sqlite_sequence" ∷ []) table.name
  pub rows : (l : Layout) → l.version ≡ 1 → HasTablesAt l old.schema
      → AllByRecursion (λ t. IsOther l t.tree → new.trees t.tree ≡ old.trees t.tree) old.schema.tables

-- a table, an index or a view has the name `player2` already
abbrev pub IsTaken : Database → Type 0
IsTaken db = IsTrue (is_used db.schema (codes "player2"))

-- what a crash leaves represents it in version 2, whole, and what stood in this database stays
pub record IsMovedAmong (old : Database) (e : EventValue) (serial : ℕ) (trees : Trees) : Type 0 where
  pub stored : IsStoredIn 2 e serial trees
  pub beside : MigratesBeside old (record { schema = stored.schema; trees = trees })

-- The tables of the event are moved to version 2, in one transaction. The serial is the event's, and stays.
pub record MovesTables {S : Type 0} (g : Ghosts S) (e : EventValue) (serial : ℕ)
    (old : Store S g) (result : Result (Unit {0}) Refusal) (new : Store S g)
    : Type 0 where
  pub as_call : StoreCall g StopsByFault old result new
  -- with `Ok` it is version 2, and a refusal leaves the version that was
  pub version : MatchResult result (λ _. store_version new ≡ 2) (λ _. store_version new ≡ store_version old)
  -- a store of version 2 that runs is answered `Ok`, and stays as it is
  pub second : IsFalse (needs_reopen old) → store_version old ≡ 2 → IsOk result × (new ≡ old)
  -- it is refused if the name `player2` is taken, and a crash then leaves what was there
  pub taken : IsFalse (needs_reopen old) → store_version old ≡ 1 → HasCleanDisk (store_state g new) → IsTaken (store_state g old).now
      → IsErr result × (RepresentsNow 1 (store_state g old) e serial
      → AfterCrash (store_state g new) (AreTreesOf (store_state g old).now))
  -- tables that represent the event in version 1 then represent it in version 2, totals included, and `player` has no rows
  pub migrated : HasCleanDisk (store_state g new) → store_version old ≡ 1 → CanMigrate (store_state g old) e serial
      → OnOk result (IsMigrated (store_state g new) e serial)
  -- whatever stood beside them stays
  pub beside : HasCleanDisk (store_state g new) → store_version old ≡ 1 → CanMigrate (store_state g old) e serial
      → OnOk result (MigratesBeside (store_state g old).now (store_state g new).now)
  pub acknowledged : store_version old ≡ 1 → CanMigrate (store_state g old) e serial
      → OnOk result (AfterCrash (store_state g new) (IsMovedAmong (store_state g old).now e serial))
  -- at every exit a crash leaves what was there, or version 2, whole, beside what stood
  pub crash : IsFalse (needs_reopen old) → store_version old ≡ 1 → CanMigrate (store_state g old) e serial
      → AfterCrash (store_state g new) (Either (AreTreesOf (store_state g old).now) (IsMovedAmong (store_state g old).now e serial))
