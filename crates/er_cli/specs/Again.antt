-- A list of players that is imported again: once more, or after an import that was stopped.
use Rattle.std.specs.Prelude.{◌≡◌, ℕ, IsFalse, List, [], Option, None}
use Rattle.er_event.specs.declared.commands.Command.{Command}
use Rattle.er_event.specs.declared.refusals.Refusal.{Refusal}
use Rattle.er_rules.specs.Fold.{Folds}
use Rattle.er_desk.specs.Desk.{DeskState, point_of}
use Rattle.er_desk.specs.Run.{Session, MayEnd}
use Rattle.er_cli.specs.declared.importing.Additions.{Additions}
use Rattle.er_cli.specs.Importing.{Enrols}

-- Once a list was imported whole, each later import of it adds nobody and changes nothing, whatever was done between them.
abbrev pub AddsNobodyAgain : Type 0
AddsNobodyAgain =
    (names : List (List ℕ)) (old whole : DeskState) (first : Additions) (one : Session) → Enrols names old first None one whole
    → (between : List Command) (later new : DeskState) → Folds whole.event between later.event
    → (again : Additions) (stop : Option Refusal) (two : Session) → Enrols names later again stop two new
    → (again.added ≡ 0) × (two.acknowledged ≡ []) × (point_of new ≡ point_of later)

-- Of an import that was stopped anywhere, the next session begins at an end of its session. Imported whole there, the list gives the event
-- of one import.
abbrev pub GivesOneImport : Type 0
GivesOneImport =
    (names : List (List ℕ)) (old cut : DeskState) (first : Additions) (stop : Option Refusal) (one : Session) → IsFalse old.needs_reopen
    → Enrols names old first stop one cut
    → (next last : DeskState) (again : Additions) (two : Session) → MayEnd (point_of old) one (point_of next)
    → Enrols names next again None two last
    → (whole : DeskState) (only : Additions) (three : Session) → Enrols names old only None three whole
    → last.event ≡ whole.event

abbrev pub ImportsAgain : Type 0
ImportsAgain = AddsNobodyAgain × GivesOneImport
