-- The desk of a script, over tables in memory.
use Rattle.std.specs.Prelude.{◌≡◌, IsFalse, IfSome, Option, option_map}
use Rattle.sqlite_trees.specs.declared.store.Store.{Ghosts}
use Rattle.sqlite_trees.specs.declared.memory.MemStore.{MemStore}
use Rattle.sqlite.specs.Steps.{over_memory}
use Rattle.er_desk.specs.declared.desk.Desk.{Desk}
use Rattle.er_desk.specs.Desk.{DeskState, HoldsOwnEvent, desk_state, version_in}

-- the state of a script's desk, once it has one
abbrev pub desk_state_of : {S : Type 0} {g : Ghosts S} → Option (Desk S g) → Option DeskState
desk_state_of desk = option_map desk_state desk

-- the tables in memory are of version 2, and represent the event, if no fault of the store came before
abbrev pub HasOwnTables : Option (Desk MemStore over_memory) → Type 0
HasOwnTables desk = IfSome desk (λ d. (version_in d ≡ 2) × (IsFalse (desk_state d).needs_reopen → HoldsOwnEvent over_memory d))
