-- How a desk begins: with an event that is made, or with one that is taken over.
use Rattle.std.specs.Prelude.{◌≡◌, ◌⊎◌, ℕ, List, false, Result, MatchResult}
use Rattle.sqlite.specs.Held as sqlite
use Rattle.sqlite.specs.Held.{Held}
use Rattle.sqlite.specs.State.{State, HasCleanDisk, IsUnchanged}
use Rattle.sqlite_trees.specs.declared.store.Store.{Ghosts}
use Rattle.er_event.specs.Change.{initial_event}
use Rattle.er_event.specs.Sound.{AreLimits, IsSoundButForSeeds}
use Rattle.er_event.specs.declared.refusals.Place.TheVariants.{BracketTable}
use Rattle.er_event.specs.declared.refusals.Refusal.{Refusal}
use Rattle.er_event.specs.declared.refusals.Refusal.TheVariants.{BadSetup, EventExists, NoEvent, Damaged}
use Rattle.er_rules.specs.Sound.{IsSound, HasSeeds}
use Rattle.er_store.specs.Begins.{IsCreated, IsAdopted}
use Rattle.er_store.specs.Fault.{IsFault, IsLoadFault}
use Rattle.er_store.specs.Representing.{Represents, RepresentsIn, CanRead}
use Rattle.er_desk.specs.declared.desk.Desk.{Desk}
use Rattle.er_desk.specs.Desk.{Point, Placed, running_at, state, desk_state}
use Rattle.er_desk.specs.Headline.{IsEmptyFile, FindsAgain, RepeatsNobody}
use Rattle.er_desk.specs.History.{new_point}
use Rattle.er_desk.specs.Opening.{ChangesNothing, MakesNothing, NamesFirstFault}

-- The event was made with these limits, and its tables in version 2.
pub record HasCreated {S : Type 0} (g : Ghosts S) (name : List ℕ) (rounds cut : ℕ) (old : State) (desk : Desk S g) : Type 0 where
  pub within : AreLimits rounds cut
  pub made : desk_state desk ≡ running_at (new_point name rounds cut) 2
  pub sound : IsSound desk.event
  pub clean : HasCleanDisk (state g desk) → HasCleanDisk old
  pub tables : IsCreated g 2 (initial_event name rounds cut) old desk.store

-- It was not, and the connection comes back.
pub record HasNotCreated {S : Type 0} (g : Ghosts S) (name : List ℕ) (rounds cut : ℕ) (conn : Held S) (back : Held S × Refusal)
    : Type 0 where
  pub mode : back.0.in_transaction ≡ false
  pub why : (back.1 ≡ BadSetup) ⊎ (back.1 ≡ EventExists) ⊎ IsFault back.1
  -- `BadSetup` comes exactly if the limits are not met, and then the file was not touched
  pub beyond : back.1 ≡ BadSetup → (back.0 ≡ conn) × (AreLimits rounds cut → ⊥)
  pub checked : (AreLimits rounds cut → ⊥) → back.1 ≡ BadSetup
  -- `EventExists` comes only if something called `event` can be read, and nothing is made there
  pub exists : back.1 ≡ EventExists → HasCleanDisk (sqlite.state g back.0) → CanRead (sqlite.state g conn).now.schema
      × (IsEmptyFile (sqlite.state g conn) → ⊥)
      × IsUnchanged (sqlite.state g conn) (sqlite.state g back.0)
  pub clean : HasCleanDisk (sqlite.state g back.0) → HasCleanDisk (sqlite.state g conn)
  -- no table changes, and a crash in it leaves what it could before, or the new event whole
  pub left : MakesNothing (new_point name rounds cut) (sqlite.state g conn) (sqlite.state g back.0)

abbrev pub CreatesDesk : {S : Type 0} (g : Ghosts S) → List ℕ → (rounds cut : ℕ) → Held S
    → Result (Desk S g) (Held S × Refusal) → Type 0
CreatesDesk g name rounds cut conn result =
    MatchResult result (HasCreated g name rounds cut (sqlite.state g conn)) (HasNotCreated g name rounds cut conn)

-- What the tables show was taken over, and its seeds are those of its standings. Whatever they hold, it is sound.
pub record HasAdopted {S : Type 0} (g : Ghosts S) (old : State) (desk : Desk S g) : Type 0 where
  pub tables : IsAdopted g old (desk.store, desk.event, desk.serial)
  pub sound : IsSound desk.event
  pub repeats : RepeatsNobody desk.event
  -- of tables that represent a sound event just that is found, in their version
  pub found : (placed : Placed) → RepresentsIn placed.version old.now placed.point.event placed.point.serial → IsSound placed.point.event
      → HasCleanDisk (state g desk) → FindsAgain g desk placed
  -- a crash leaves what it could before: the last commit, while the connection was open
  pub left : ChangesNothing old (state g desk)

-- It was not, and the connection comes back. `NoEvent` and a damaged table come only for the first fault.
pub record HasNotAdopted {S : Type 0} (g : Ghosts S) (old : State) (back : Held S × Refusal) : Type 0 where
  pub mode : back.0.in_transaction ≡ false
  pub why : (back.1 ≡ NoEvent) ⊎ IsLoadFault back.1
  pub first : HasCleanDisk (sqlite.state g back.0) → NamesFirstFault old.now back.1
  -- of tables that represent a sound event, memory or the store fails; of one whose playoff has other seeds than its
  -- standings, the bracket's table may be named
  pub found : (point : Point) → Represents old.now point.event point.serial → IsSound point.event
      → HasCleanDisk (sqlite.state g back.0) → IsFault back.1
  pub other_seeds : (point : Point) → Represents old.now point.event point.serial → IsSoundButForSeeds point.event
      → (HasSeeds point.event → ⊥) → HasCleanDisk (sqlite.state g back.0) → IsFault back.1 ⊎ (back.1 ≡ Damaged BracketTable)
  pub left : ChangesNothing old (sqlite.state g back.0)

abbrev pub AdoptsDesk : {S : Type 0} (g : Ghosts S) → Held S → Result (Desk S g) (Held S × Refusal) → Type 0
AdoptsDesk g conn result = MatchResult result (HasAdopted g (sqlite.state g conn)) (HasNotAdopted g (sqlite.state g conn))
