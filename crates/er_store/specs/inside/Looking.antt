-- What a look at the tables leaves, and what it tells of an event.
use Rattle.std.specs.Prelude.{◌≡◌, ◌⊎◌, ℕ, false, Result, IfErr, OnOk, OnErr}
use Rattle.sqlite.specs.Effect.{Database}
use Rattle.sqlite.specs.Held.{Held, state}
use Rattle.sqlite.specs.State.{HasCleanDisk, Survives, IsUnchanged}
use Rattle.sqlite.specs.declared.error.Error.{Error}
use Rattle.sqlite_trees.specs.declared.store.Store.{Ghosts}
use Rattle.er_event.specs.Event.{EventValue}
use Rattle.er_event.specs.Sound.{IsSoundButForSeeds}
use Rattle.er_store.specs.Calls.{Call}
use Rattle.er_store.specs.Reading.{out_of_memory, IsReadRefused, KeepsTables}

-- What it finds changes nothing, a refusal changes no table, and a crash leaves what it could before.
pub record OnlyLooks {S A E : Type 0} (g : Ghosts S) (old : Held S) (result : Result A E) (new : Held S) : Type 0 where
  pub mode : old.in_transaction ≡ false → new.in_transaction ≡ false
  pub clean : HasCleanDisk (state g new) → HasCleanDisk (state g old)
  pub same : HasCleanDisk (state g new) → OnOk result (IsUnchanged (state g old) (state g new))
  pub kept : HasCleanDisk (state g new) → OnErr result (KeepsTables (state g old) (state g new))
  pub survives : Survives (state g old) (state g new) (λ _. ⊥)

-- What it answers if the tables, seen in this way, represent a sound event.
abbrev pub FindsBy : {S A E : Type 0} (g : Ghosts S) → (Database → EventValue → ℕ → Type 0) → (EventValue → ℕ → Result A E → Type 0)
    → Held S → Result A E → Held S → Type 0
FindsBy g See Answers old result new =
    HasCleanDisk (state g new) → (e : EventValue) (s : ℕ) → See (state g old).now e s → IsSoundButForSeeds e → Answers e s result

-- a refusal is memory, the file or the device, or a limit on steps
abbrev pub FailsToRead : {S A : Type 0} (g : Ghosts S) → Held S → Result A Error → Held S → Type 0
FailsToRead g old result new =
    IfErr result (λ why. (why ≡ out_of_memory) ⊎ IsReadRefused (state g old) (state g new) why)

-- A transaction was tried: none is begun any more.
pub record Transacts {S A E : Type 0} (g : Ghosts S) (old : Held S) (result : Result A E) (new : Held S) : Type 0 where
  pub mode : new.in_transaction ≡ false
  pub call : Call (state g old) result (state g new)
