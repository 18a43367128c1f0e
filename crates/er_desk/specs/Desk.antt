-- What a desk shows, and what a command does to it.
use Rattle.std.specs.Prelude.{◌≡◌, ◌⊎◌, ℕ, ◌+◌, ◌<◌, Bool, true, false, IsTrue, IsFalse, Result, Ok, Err, IsOk, MatchResult}
use Rattle.sqlite_trees.specs.declared.store.Store.{Ghosts}
use Rattle.sqlite.specs.State.{State}
use Rattle.sqlite.specs.Tree.{Trees}
use Rattle.er_event.specs.declared.commands.Command.{Command}
use Rattle.er_event.specs.declared.refusals.Refusal.{Refusal}
use Rattle.er_event.specs.declared.refusals.Refusal.TheVariants.{Memory, SerialFull, BadSetup, NoSuchMatch, NeedsReopen}
use Rattle.er_event.specs.declared.commands.TheConstants.{MAX_SERIAL}
use Rattle.er_event.specs.declared.slips.SlipRow.{SlipRow}
use Rattle.er_event.specs.Event.{EventValue}
use Rattle.er_rules.specs.Refusing.{IsOfRules}
use Rattle.er_rules.specs.Step.{Answers}
use Rattle.er_store.specs.Fault.{IsFault, IsReadFault}
use Rattle.er_store.specs.Representing as tables
use Rattle.er_store.specs.Store as store
use Rattle.er_rules.specs.Late.{is_late}
use Rattle.er_desk.specs.Reply.{Reply, receipt, IsDue}
use Rattle.er_desk.specs.declared.desk.Desk.{Desk}

-- an event, and how many commands made it
pub record Point : Type 0 where
  pub event : EventValue
  pub serial : ℕ

-- what a desk is like now
pub record DeskState : Type 0 where
  pub event : EventValue
  -- how many commands were accepted
  pub serial : ℕ
  -- of its tables
  pub version : ℕ
  -- a fault of the store has ended it
  pub needs_reopen : Bool

abbrev pub point_of : DeskState → Point
point_of s = record { event = s.event; serial = s.serial }

-- that, in tables of this version
pub record Placed : Type 0 where
  pub point : Point
  pub version : ℕ

abbrev pub placed_at : Point → ℕ → Placed
placed_at point version = record { point = point; version = version }

abbrev pub placed_of : DeskState → Placed
placed_of s = placed_at (point_of s) s.version

-- what a crash left represents the event and the serial, whole, in this version
abbrev pub IsStoredAt : Placed → Trees → Type 0
IsStoredAt placed = tables.IsStoredIn placed.version placed.point.event placed.point.serial

-- in tables of this version, with no fault so far
abbrev pub running_at : Point → ℕ → DeskState
running_at point version = record { event = point.event; serial = point.serial; version = version; needs_reopen = false }

-- what its store shows
abbrev pub state : {S : Type 0} (g : Ghosts S) → Desk S g → State
state g desk = store.store_state g desk.store

abbrev pub desk_state : {S : Type 0} {g : Ghosts S} → Desk S g → DeskState
desk_state desk = record {
  event = desk.event;
  serial = desk.serial;
  version = store.store_version desk.store;
  needs_reopen = store.needs_reopen desk.store;
}

-- the event is shown, if memory serves and no fault of the store came before
abbrev pub ShowsEvent : {A : Type 0} → (Refusal → A) → DeskState → (EventValue → A → Type 0) → A → Type 0
ShowsEvent refused desk Shows answer =
    (IsFalse desk.needs_reopen × (Shows desk.event answer ⊎ (answer ≡ refused Memory)))
    ⊎ (IsTrue desk.needs_reopen × (answer ≡ refused NeedsReopen))

-- of what only a desk that runs gives; one that was stopped asks for reopening
abbrev pub IfRunning : {A : Type 0} → DeskState → Result A Refusal → Type 0
IfRunning desk result = MatchResult result (λ _. IsFalse desk.needs_reopen) (λ why. IsTrue desk.needs_reopen × (why ≡ NeedsReopen))

-- a crash leaves the event after the command, whole, in the same version
abbrev pub IsStoredAfter : Placed → Command → Trees → Type 0
IsStoredAfter placed command trees =
    (next : EventValue) × Answers placed.point.event command (Ok next)
    × tables.IsStoredIn placed.version next (placed.point.serial + 1) trees

-- the store has no part in the refusal
abbrev pub IsOwn : Refusal → Type 0
IsOwn why = (why ≡ Memory) ⊎ (why ≡ SerialFull) ⊎ (why ≡ BadSetup) ⊎ IsOfRules why

-- the version that its tables are of
abbrev pub version_in : {S : Type 0} {g : Ghosts S} → Desk S g → ℕ
version_in desk = store.store_version desk.store

-- its tables represent its event and its serial, in that version, with nothing pending
abbrev pub HoldsOwnEvent : {S : Type 0} (g : Ghosts S) → Desk S g → Type 0
HoldsOwnEvent g desk = tables.RepresentsNow (version_in desk) (state g desk) desk.event desk.serial

module _ (old : DeskState) (command : Command) (reply : Reply) (new : DeskState) where
  -- the command is accepted
  pub record Accepts : Type 0 where
    pub was_running : IsFalse old.needs_reopen
    pub taken : Answers old.event command (Ok new.event)
    pub room : old.serial < MAX_SERIAL
    pub in_time : IsFalse (is_late old.version old.event command)
    pub serial_is : new.serial ≡ old.serial + 1
    pub version_is : new.version ≡ old.version
    pub runs : IsFalse new.needs_reopen
    pub answered : reply ≡ Ok (receipt new.serial)

  -- it is not, and all stays as it is
  pub record Declines : Type 0 where
    pub was_running : IsFalse old.needs_reopen
    pub same : new ≡ old
    pub why : Refusal
    pub answered : reply ≡ Err why
    pub cause : (why ≡ Memory) ⊎ IsDue old.version old.event old.serial command (Err why)
    pub own : IsOwn why

  -- the store is asked in place of a receipt, and has a fault
  pub record Stops : Type 0 where
    pub was_running : IsFalse old.needs_reopen
    pub next : EventValue
    pub taken : Answers old.event command (Ok next)
    pub room : old.serial < MAX_SERIAL
    pub in_time : IsFalse (is_late old.version old.event command)
    pub needs_reopen : new ≡ record old { needs_reopen = true }
    pub why : Refusal
    pub fault : IsFault why
    pub answered : reply ≡ Err why

  -- a fault came before, and nothing is done
  pub record Waits : Type 0 where
    pub needed_reopen : IsTrue old.needs_reopen
    pub same : new ≡ old
    pub answered : reply ≡ Err NeedsReopen

  abbrev pub Outcome : Type 0
  Outcome = Accepts ⊎ Declines ⊎ Stops ⊎ Waits

-- Reading what the tables keep. What is read leaves the desk as it is, and so does one refusal that isn't a fault of the
-- store. A fault of the store stops it, and a desk that was stopped asks for reopening.
abbrev pub Reads : {A : Type 0} → Refusal → DeskState → Result A Refusal → DeskState → Type 0
Reads passing old result new =
    (IsFalse old.needs_reopen × (new ≡ old) × (IsOk result ⊎ (result ≡ Err passing)))
    ⊎ (IsFalse old.needs_reopen × (new ≡ record old { needs_reopen = true }) × (why : Refusal) × IsReadFault why × (result ≡ Err why))
    ⊎ (IsTrue old.needs_reopen × (new ≡ old) × (result ≡ Err NeedsReopen))

-- of standings, for which memory may run out outside the store
abbrev pub ReadsRows : {A : Type 0} → DeskState → Result A Refusal → DeskState → Type 0
ReadsRows old result new = Reads Memory old result new

-- of a slip; there may be no such match
abbrev pub ReadsSlip : DeskState → Result SlipRow Refusal → DeskState → Type 0
ReadsSlip old result new = Reads NoSuchMatch old result new
