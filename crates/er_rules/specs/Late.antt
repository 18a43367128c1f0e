-- Who enrols too late for the tables that keep the event.
use Rattle.std.specs.Prelude.{ℕ, ◌==◌, Bool, false, ◌&&◌, IsFalse, Ok}
use Rattle.er_event.specs.declared.changes.Change.{Change}
use Rattle.er_event.specs.declared.commands.Command.{Command}
use Rattle.er_event.specs.declared.commands.Command.TheVariants.{Enrol}
use Rattle.er_event.specs.Change.{after}
use Rattle.er_event.specs.Event.{EventValue}
use Rattle.er_event.specs.Version.{CanTake}
use Rattle.er_rules.specs.Commands.{is_swiss}
use Rattle.er_rules.specs.Step.{Answers}

-- into tables of version 1 nobody comes after the start, whether a round is stored yet or not
abbrev pub is_late : ℕ → EventValue → Command → Bool
is_late version event (Enrol name) = version == 1 && is_swiss event.phase
is_late version event _ = false

-- the tables can take the change that any other step makes
abbrev pub StepsAreTaken : Type 0
StepsAreTaken = (version : ℕ) (event : EventValue) (command : Command) (change : Change)
    → Answers event command (Ok (after event change)) → IsFalse (is_late version event command) → CanTake version event change
