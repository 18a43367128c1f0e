-- What an opening leaves of the world.
use Rattle.std.proofs.Common.{Option, subst, ap, ℕ, List}
use Rattle.sqlite_trees.specs.declared.store.Store.{Ghosts}
use Rattle.er_desk.specs.declared.desk.Desk.{Desk}
use Rattle.sqlite.specs.State.{HasCleanDisk}
use Rattle.er_desk.specs.Desk.{HoldsOwnEvent, desk_state, state}
use Rattle.er_cli.specs.declared.action.{Task.Task, Task.TheVariants.{Ask, Import, Serve}}
use Rattle.er_cli.specs.{Clients.Got, Help.Printed, Importing.Imports, Serving.ServesClients, Words.Does}
use Rattle.er_cli.specs.World.{World, KeepsListsAndClients}

-- What an opening leaves as it was is all that a task reads of the world.
module _ {S : Type 0} (g : Ghosts S) (old new : World) (keeps : KeepsListsAndClients old new) (got : Option (List Got))
    (desk last : Desk S g) (p : Printed) where
  pub does_before : (task : Task) → Does g new got desk task last p → Does g old got desk task last p
  does_before (Ask question) it = it
  does_before (Import list) it = record {
    done = it.done;
    told = (
      it.told.0,
      it.told.1,
      subst (λ (known : Option (List ℕ)). Imports p known (desk_state desk) it.told.0 (desk_state last))
          (ap (λ (lists : List ℕ → Option (List ℕ)). lists list) keeps.list) it.told.2,
    );
    file = it.file;
  }
  does_before (Serve port count) it = record {
    done = it.done;
    told = (
      it.told.0,
      it.told.1,
      subst (λ (coming : Option (List (List ℕ))). ServesClients (HasCleanDisk (state g last) × HoldsOwnEvent g desk) p port count coming got
          (desk_state desk) it.told.0 (desk_state last))
          (ap (λ (ports : ℕ → Option (List (List ℕ))). ports port) keeps.coming) it.told.2,
    );
    file = it.file;
  }
