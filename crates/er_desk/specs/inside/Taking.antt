-- What becomes of a desk that writes a change of its event.
use Rattle.std.specs.Prelude.{◌≡◌, ◌⊎◌, ◌+◌, true, IfOk, IfErr, OnOk, OnErr}
use Rattle.sqlite_trees.specs.declared.store.Store.{Ghosts}
use Rattle.sqlite.specs.State.{HasCleanDisk}
use Rattle.er_event.specs.Change.{after}
use Rattle.er_event.specs.declared.changes.Change.{Change}
use Rattle.er_event.specs.declared.refusals.Refusal.TheVariants.{Memory}
use Rattle.er_store.specs.Fault.{IsFault}
use Rattle.er_store.specs.Reading.{KeepsTables}
use Rattle.er_store.specs.Representing.{Either, IsStoredIn, AfterCrash}
use Rattle.er_desk.specs.declared.desk.Desk.{Desk}
use Rattle.er_desk.specs.Asking.{DeskCall}
use Rattle.er_desk.specs.Desk.{IsStoredAt, HoldsOwnEvent, desk_state, placed_of, state, version_in}
use Rattle.er_desk.specs.Headline.{RecoversJust}
use Rattle.er_desk.specs.Reply.{Reply}

-- With a receipt, file and memory have the event after the change. If memory runs out outside the store, all stays as it was, and
-- a fault of the store stops the desk.
pub record TakesChange {S : Type 0} (g : Ghosts S) (old : Desk S g) (change : Change) (reply : Reply) (new : Desk S g) : Type 0 where
  pub as_call : DeskCall g old new
  pub taken : IfOk reply (λ receipt. (desk_state new
      ≡ record (desk_state old) { event = after old.event change; serial = old.serial + 1 })
      × (receipt.serial ≡ old.serial + 1))
  pub refused : IfErr reply (λ why. ((new ≡ old) × (why ≡ Memory))
      ⊎ ((desk_state new ≡ record (desk_state old) { needs_reopen = true }) × IsFault why))
  -- a refusal changes no table
  pub kept : HasCleanDisk (state g new) → OnErr reply (KeepsTables (state g old) (state g new))
  -- what was acknowledged is there after a crash, and what was cut off is there whole or not at all
  pub acknowledged : HoldsOwnEvent g old → OnOk reply (RecoversJust (state g new) (placed_of (desk_state new)))
  pub crash : HoldsOwnEvent g old
      → AfterCrash (state g new) (Either (IsStoredAt (placed_of (desk_state old)))
      (IsStoredIn (version_in old) (after old.event change) (old.serial + 1)))
