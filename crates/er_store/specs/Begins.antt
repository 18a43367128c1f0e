-- How a store begins: over tables that are made, or over those that are there.
use Rattle.std.specs.Prelude.{◌≡◌, ◌≢◌, ◌⊎◌, ◌≤◌, ℕ, false, Result, Ok, Err, MatchResult, IsFalse}
use Rattle.sqlite.specs.Schema.{Schema}
use Rattle.sqlite.specs.State.{State, HasCleanDisk, IsUnchanged}
use Rattle.sqlite.specs.Held as sqlite
use Rattle.sqlite.specs.Held.{Held}
use Rattle.sqlite_trees.specs.declared.store.Store.{Ghosts}
use Rattle.er_event.specs.declared.commands.TheConstants.{MAX_SERIAL}
use Rattle.er_event.specs.declared.refusals.Refusal.{Refusal}
use Rattle.er_event.specs.declared.refusals.Refusal.TheVariants.{EventExists, NoEvent}
use Rattle.er_event.specs.Event.{EventValue}
use Rattle.er_event.specs.Parts.{parts_of}
use Rattle.er_event.specs.Rows.{tally_rows}
use Rattle.er_event.specs.Sound.{IsSoundButForSeeds}
use Rattle.er_store.specs.declared.Store.{Store}
use Rattle.er_store.specs.Beside.{HoldsBeside, IsStoredBeside, NoneAwaitsFive}
use Rattle.er_store.specs.Damage.{ReadsParts, ReadsTallies, IsAtFault, IfDamaged}
use Rattle.er_store.specs.Fault.{IsFault, IsLoadFault}
use Rattle.er_store.specs.Loading.{HoldsEvent}
use Rattle.er_store.specs.Calls.{Call}
use Rattle.er_store.specs.Representing.{HasTables, AreKeyed, Represents, RepresentsIn, IsStoredIn, RepresentsNow, AfterCrash, Either}
use Rattle.er_store.specs.Representing.{CanRead}
use Rattle.er_store.specs.Representing.{ReadsEvent}
use Rattle.er_store.specs.Store.{store_state, store_version, needs_reopen}
use Rattle.er_store.specs.Tables.{no_schema, players_of, player_tree, tally_schema}

-- what a connection shows
abbrev pub held_state : {S : Type 0} (g : Ghosts S) → Held S → State
held_state g conn = sqlite.state g conn

-- what the connection shows then: it is in what was made of it, or comes back with the refusal
abbrev pub left_state : {S A : Type 0} (g : Ghosts S) → (A → State) → Result A (Held S × Refusal) → State
left_state g shown (Ok a) = shown a
left_state g shown (Err back) = held_state g back.0

-- the five tables of this version and no other, with no index or view of others
abbrev pub alone_schema : ℕ → Schema
alone_schema version = tally_schema (players_of version player_tree)

-- The five tables of a new event were made in this version, with serial 0.
pub record IsCreated {S : Type 0} (g : Ghosts S) (v : ℕ) (e : EventValue) (old : State) (made : Store S g) : Type 0 where
  pub ready : IsFalse (needs_reopen made)
  pub version : store_version made ≡ v
  -- nothing called `event` could be read before, and no tables of an event stood there
  pub absent : HasCleanDisk (store_state g made)
      → (CanRead old.now.schema → ⊥)
      × ((other : ℕ) → HasTables other old.now.schema → ⊥)
  -- whatever stood in the file stands as it was, and the five tables are there beside it, after a crash too
  pub beside : HasCleanDisk (store_state g made) → HoldsBeside v e old.now (store_state g made)
  -- in an empty file they are the only ones
  pub alone : HasCleanDisk (store_state g made) → old.now.schema ≡ no_schema
      → (store_state g made).now.schema ≡ alone_schema v
  -- if no foreign key waited for one of them they represent the event, and so does each thing that a crash may leave
  pub created : HasCleanDisk (store_state g made) → NoneAwaitsFive v old.now.schema → RepresentsNow v (store_state g made) e 0
  pub acknowledged : NoneAwaitsFive v old.now.schema → AfterCrash (store_state g made) (IsStoredIn v e 0)

-- They were not, and the connection comes back.
pub record IsNotCreated {S : Type 0} (g : Ghosts S) (v : ℕ) (e : EventValue) (old : State) (left : Held S × Refusal)
    : Type 0 where
  pub mode : left.0.in_transaction ≡ false
  pub why : (left.1 ≡ EventExists) ⊎ IsFault left.1
  -- something called `event` can be read, and nothing is made there
  pub exists : left.1 ≡ EventExists → HasCleanDisk (held_state g left.0)
      → CanRead old.now.schema
      × (old.now.schema ≢ no_schema)
      × IsUnchanged old (held_state g left.0)
  -- if `event` can be read, a crash leaves what it could before
  pub spares : CanRead old.now.schema → AfterCrash (held_state g left.0) old.may_leave
  -- else it may leave the new event whole too
  pub crash : NoneAwaitsFive v old.now.schema
      → AfterCrash (held_state g left.0) (Either old.may_leave (IsStoredIn v e 0))
  pub beside_crash : AfterCrash (held_state g left.0)
      (Either old.may_leave (IsStoredBeside v e old.now))

-- A creation: the tables are made in this version, or the connection comes back.
pub record Creates {S : Type 0} (g : Ghosts S) (version : ℕ) (e : EventValue) (conn : Held S)
    (result : Result (Store S g) (Held S × Refusal)) : Type 0 where
  pub call : Call (held_state g conn) result (left_state g (λ made. store_state g made) result)
  pub made : MatchResult result (IsCreated g version e (held_state g conn)) (IsNotCreated g version e (held_state g conn))

-- What the tables show was taken over, in the version that the event's row says: a store, the event and its serial.
pub record IsAdopted {S : Type 0} (g : Ghosts S) (old : State) (it : Store S g × EventValue × ℕ) : Type 0 where
  pub ready : IsFalse (needs_reopen it.0)
  pub low : it.2 ≤ MAX_SERIAL
  pub sound : IsSoundButForSeeds it.1
  -- nothing is written, and a crash leaves what it could before
  pub same : HasCleanDisk (store_state g it.0) → IsUnchanged old (store_state g it.0)
  pub crash : AfterCrash (store_state g it.0) old.may_leave
  -- whatever the tables hold, what is found is what they show
  pub reads : HasCleanDisk (store_state g it.0)
      → ReadsParts old.now (parts_of (store_version it.0) it.1 it.2)
      × ReadsTallies old.now (tally_rows it.1)
  pub shows : HasCleanDisk (store_state g it.0) → HasTables (store_version it.0) old.now.schema
      → HoldsEvent (store_version it.0) old.now it.1 it.2
  -- if they are ours, they represent it, and a change can be written to them
  pub represents : HasCleanDisk (store_state g it.0) → HasTables (store_version it.0) old.now.schema
      → AreKeyed (store_version it.0) old.now → RepresentsNow (store_version it.0) (store_state g it.0) it.1 it.2
  -- of tables that represent a sound event just that is found, with their version, and a crash leaves it in that version
  pub found : HasCleanDisk (store_state g it.0) → (e : EventValue) (s : ℕ) → Represents old.now e s
      → IsSoundButForSeeds e → (it.1 ≡ e) × (it.2 ≡ s) × RepresentsNow (store_version it.0) (store_state g it.0) e s
  pub version : HasCleanDisk (store_state g it.0) → (e : EventValue) (s v : ℕ) → RepresentsIn v old.now e s
      → IsSoundButForSeeds e → store_version it.0 ≡ v
  pub leaves : (e : EventValue) (s : ℕ) → Represents old.now e s
      → IsSoundButForSeeds e → AfterCrash (store_state g it.0) (IsStoredIn (store_version it.0) e s)

-- It was not, and the connection comes back.
pub record IsNotAdopted {S : Type 0} (g : Ghosts S) (old : State) (left : Held S × Refusal) : Type 0 where
  pub mode : left.0.in_transaction ≡ false
  pub why : (left.1 ≡ NoEvent) ⊎ IsLoadFault left.1
  -- if the event's rows can be read, there is an event
  pub no_event : left.1 ≡ NoEvent → HasCleanDisk (held_state g left.0) → ReadsEvent old.now.schema → ⊥
  -- a damaged table is the first at fault, and is named only if those rows can be read
  pub first : HasCleanDisk (held_state g left.0) → IfDamaged (IsAtFault old.now) left.1
  pub readable : HasCleanDisk (held_state g left.0) → IfDamaged (λ _. ReadsEvent old.now.schema) left.1
  -- of tables that represent a sound event, memory or the store fails
  pub fails : HasCleanDisk (held_state g left.0) → (e : EventValue) (s : ℕ) → Represents old.now e s
      → IsSoundButForSeeds e → IsFault left.1
  -- a crash leaves what it could before
  pub crash : AfterCrash (held_state g left.0) old.may_leave

-- An opening: the event is found, or the connection comes back.
pub record Adopts {S : Type 0} (g : Ghosts S) (conn : Held S)
    (result : Result (Store S g × EventValue × ℕ) (Held S × Refusal)) : Type 0 where
  pub call : Call (held_state g conn) result (left_state g (λ it. store_state g it.0) result)
  pub found : MatchResult result (IsAdopted g (held_state g conn)) (IsNotAdopted g (held_state g conn))
