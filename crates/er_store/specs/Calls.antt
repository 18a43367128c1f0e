-- What a call of a store does: how it ends, what it finds, and what it leaves of the tables.
use Rattle.std.specs.Prelude.{◌≡◌, ◌+◌, ◌⊎◌, ℕ, Bool, Result, Err, OnOk, OnErr, MatchResult, IsTrue, IsFalse}
use Rattle.sqlite.specs.Effect.{Database}
use Rattle.sqlite.specs.State.{State, HasCleanDisk, IsUnchanged}
use Rattle.sqlite_trees.specs.declared.store.Store.{Ghosts}
use Rattle.er_event.specs.Event.{EventValue}
use Rattle.er_event.specs.Sound.{IsSoundButForSeeds}
use Rattle.er_event.specs.declared.refusals.Refusal.{Refusal}
use Rattle.er_event.specs.declared.refusals.Refusal.TheVariants.{NeedsReopen}
use Rattle.er_store.specs.declared.Store.{Store}
use Rattle.er_store.specs.Fault.{IsFault, IsReadFault}
use Rattle.er_store.specs.Reading.{KeepsTables}
use Rattle.er_store.specs.Representing.{AreTreesOf, IsStoredAmong, RepresentsNow, AfterCrash, Either, KeepsOthers}
use Rattle.er_store.specs.Store.{store_state, store_version, needs_reopen}

-- Which refusals a call has, and whether the store has stopped with them:

-- each is a fault, and stops the store
abbrev pub StopsByFault : (why : Refusal) → (needs_reopen : Bool) → Type 0
StopsByFault why needs_reopen = IsFault why × IsTrue needs_reopen

-- and so does a row that the formats don't allow
abbrev pub StopsByReadFault : (why : Refusal) → (needs_reopen : Bool) → Type 0
StopsByReadFault why needs_reopen = IsReadFault why × IsTrue needs_reopen

-- but for one refusal, which leaves it running
abbrev pub StopsUnless : (passing : Refusal) → (why : Refusal) → (needs_reopen : Bool) → Type 0
StopsUnless passing why needs_reopen = ((why ≡ passing) × IsFalse needs_reopen) ⊎ (IsReadFault why × IsTrue needs_reopen)

-- What a call says of the connection that it uses, whatever the tables hold.
pub record Call {A E : Type 0} (old : State) (result : Result A E) (new : State) : Type 0 where
  -- the disk was clean if it is
  pub clean : HasCleanDisk new → HasCleanDisk old
  -- the connection's limit on steps stays: what it cuts off later was cut off before
  pub limit : new.step_limit ≡ old.step_limit
  -- a refusal changes no table
  pub kept : HasCleanDisk new → OnErr result (KeepsTables old new)

-- A call of a store. One that has stopped asks for reopening, and stays as it is. Of one that runs, an answer leaves it running,
-- and a refusal is one of these.
pub record StoreCall {S A : Type 0} (g : Ghosts S) (Stops : Refusal → Bool → Type 0)
    (old : Store S g) (result : Result A Refusal) (new : Store S g)
    : Type 0 where
  pub call : Call (store_state g old) result (store_state g new)
  pub waits : IsTrue (needs_reopen old) → (result ≡ Err NeedsReopen) × (new ≡ old)
  pub stops : IsFalse (needs_reopen old)
      → MatchResult result (λ _. IsFalse (needs_reopen new)) (λ why. Stops why (needs_reopen new))

-- A call that only reads: whatever the tables hold, nothing is written.
pub record OnlyReads {S A : Type 0} (g : Ghosts S) (Stops : Refusal → Bool → Type 0)
    (old : Store S g) (result : Result A Refusal) (new : Store S g)
    : Type 0 where
  pub as_call : StoreCall g Stops old result new
  pub version : store_version new ≡ store_version old
  pub same : HasCleanDisk (store_state g new) → OnOk result (IsUnchanged (store_state g old) (store_state g new))
  pub crash : AfterCrash (store_state g new) (store_state g old).may_leave

-- this is found, or memory or the store fails
abbrev pub OrFails : {A : Type 0} → (A → Type 0) → Result A Refusal → Type 0
OrFails Is result = MatchResult result Is IsFault

-- What a store that runs answers if its tables, seen in this way, represent a sound event.
abbrev pub Finds : {S A : Type 0} (g : Ghosts S) → (Database → EventValue → ℕ → Type 0) → (EventValue → ℕ → Result A Refusal → Type 0)
    → Store S g → Result A Refusal → Store S g → Type 0
Finds g See Answers old result new =
    IsFalse (needs_reopen old) → HasCleanDisk (store_state g new) → (e : EventValue) (s : ℕ) → See (store_state g old).now e s
    → IsSoundButForSeeds e → Answers e s result

-- A change of the event is written with the next serial, in one transaction: it is there whole, or not at all.
pub record WritesChange {S : Type 0} (g : Ghosts S) (e next : EventValue) (serial : ℕ)
    (old : Store S g) (result : Result (Unit {0}) Refusal) (new : Store S g)
    : Type 0 where
  pub as_call : StoreCall g StopsByFault old result new
  pub version : store_version new ≡ store_version old
  -- at every exit the other tables stay, as long as the connection shows any
  pub others : HasCleanDisk (store_state g new) → RepresentsNow (store_version old) (store_state g old) e serial
      → IsTrue (store_state g new).is_open
      → KeepsOthers (store_version old) (store_state g old).now (store_state g new).now
  -- What was acknowledged is there, also after a crash, and the other tables stay. What was cut off is there so, whole, or not at all: then
  -- nothing has changed.
  pub written : HasCleanDisk (store_state g new) → RepresentsNow (store_version old) (store_state g old) e serial
      → OnOk result (RepresentsNow (store_version old) (store_state g new) next (serial + 1))
  pub acknowledged : RepresentsNow (store_version old) (store_state g old) e serial
      → OnOk result (AfterCrash (store_state g new)
      (IsStoredAmong (store_version old) (store_state g old).now next (serial + 1)))
  pub crash : IsFalse (needs_reopen old) → RepresentsNow (store_version old) (store_state g old) e serial
      → AfterCrash (store_state g new)
      (Either (AreTreesOf (store_state g old).now)
      (IsStoredAmong (store_version old) (store_state g old).now next (serial + 1)))
