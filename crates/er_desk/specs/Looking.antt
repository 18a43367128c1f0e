-- What a call of a desk that only reads its tables does.
use Rattle.std.specs.Prelude.{IsFalse, Result}
use Rattle.sqlite.specs.State.{HasCleanDisk, IsUnchanged}
use Rattle.sqlite_trees.specs.declared.store.Store.{Ghosts}
use Rattle.er_event.specs.declared.refusals.Refusal.{Refusal}
use Rattle.er_desk.specs.declared.desk.Desk.{Desk}
use Rattle.er_desk.specs.Asking.{Asks}
use Rattle.er_desk.specs.Desk.{HoldsOwnEvent, Reads, state, desk_state}
use Rattle.er_desk.specs.Opening.{ChangesNothing}
use Rattle.er_desk.specs.Run.{no_session}

-- What is read leaves the desk as it is, and so does one refusal. It asks no session of the file, and whatever the tables hold,
-- nothing is written.
pub record ReadsTables {S A : Type 0} (g : Ghosts S) (passing : Refusal) (old : Desk S g) (result : Result A Refusal) (new : Desk S g)
    : Type 0 where
  pub turn : Reads passing (desk_state old) result (desk_state new)
  pub asked : Asks g old no_session new
  pub same : HasCleanDisk (state g new) → IsFalse (desk_state new).needs_reopen → IsUnchanged (state g old) (state g new)
  pub left : ChangesNothing (state g old) (state g new)

-- What a desk that runs answers if its tables represent its event.
abbrev pub FindsOwn : {S A : Type 0} (g : Ghosts S) → (Result A Refusal → Type 0) → Desk S g → Result A Refusal → Desk S g → Type 0
FindsOwn g Answers old result new =
    IsFalse (desk_state old).needs_reopen → HasCleanDisk (state g new) → HoldsOwnEvent g old → Answers result
