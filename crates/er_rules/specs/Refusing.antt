-- Which refusals a command may meet.
use Rattle.er_event.specs.declared.commands.Command.{Command}
use Rattle.er_event.specs.declared.commands.Command.TheVariants.{Enrol, Start, Result as ReportResult, Correct, Drop}
use Rattle.er_event.specs.declared.refusals.Refusal.{Refusal}
use Rattle.er_event.specs.declared.refusals.Refusal.TheVariants.{SerialFull, Memory, Store, NeedsReopen, NoEvent, EventExists, Damaged}
use Rattle.er_event.specs.declared.refusals.Refusal.TheVariants.{BadSetup}

-- a refusal of the rules: it speaks neither of memory, nor of an event's file, nor of how many commands an event takes
abbrev pub IsOfRules : Refusal → Type 0
IsOfRules SerialFull = ⊥
IsOfRules Memory = ⊥
IsOfRules (Store cause) = ⊥
IsOfRules NeedsReopen = ⊥
IsOfRules NoEvent = ⊥
IsOfRules EventExists = ⊥
IsOfRules (Damaged table) = ⊥
IsOfRules BadSetup = ⊥
IsOfRules _ = Unit {0}

-- the command asks for memory: a pairing or a stage of the playoff has to be made
abbrev pub TakesMemory : Command → Type 0
TakesMemory (Enrol name) = ⊥
TakesMemory Start = ⊥
TakesMemory (ReportResult round table score) = ⊥
TakesMemory (Correct round table score) = ⊥
TakesMemory (Drop player) = ⊥
TakesMemory _ = Unit {0}
