-- What a command line does, by its words. What is told of it, and what the file becomes, are two halves: here they are joined.
use Rattle.std.specs.Prelude.{◌≡◌, ◌≢◌, ◌⊎◌, ℕ, false, IsFalse, List, Option, Some, None, IfSome}
use Rattle.sqlite_disk.specs.declared.Disk as disk
use Rattle.sqlite_trees.specs.declared.store.Store.{Ghosts}
use Rattle.sqlite_store.specs.declared.store.FileStore.{FileStore}
use Rattle.sqlite.specs.State.{HasCleanDisk}
use Rattle.sqlite.specs.Files.{over_files}
use Rattle.er_event.specs.declared.refusals.Refusal.{Refusal}
use Rattle.er_event.specs.declared.refusals.Refusal.TheVariants.{Memory}
use Rattle.er_desk.specs.declared.desk.Desk.{Desk}
use Rattle.er_desk.specs.Desk.{Point, Placed, HoldsOwnEvent, desk_state, state}
use Rattle.er_desk.specs.Files.{HasOpened}
use Rattle.er_desk.specs.Headline.{RecoversHistory}
use Rattle.er_desk.specs.History.{Ended}
use Rattle.er_words.specs.Line.{line_of}
use Rattle.er_cli.specs.declared.TheConstants.{DONE}
use Rattle.er_answers.specs.declared.question.Answer.{Answer}
use Rattle.er_answers.specs.declared.question.Answer.TheVariants.{Refused}
use Rattle.er_cli.specs.declared.action.Action.{Action}
use Rattle.er_cli.specs.declared.action.Action.TheVariants.{Init, Open}
use Rattle.er_cli.specs.declared.action.Task.{Task}
use Rattle.er_cli.specs.Action.{action_of, file_of}
use Rattle.sqlite_wal.specs.Recovery.{Image}
use Rattle.er_cli.specs.Clients.{Got}
use Rattle.er_cli.specs.Complaints.{EndsAsUsage}
use Rattle.er_cli.specs.Files.{IsNotOpened, IsNotThere, MakesEvent, WorksOn}
use Rattle.er_cli.specs.GoingOn.{GoesOnBy, MakesNoOther, StaysUnopened}
use Rattle.er_cli.specs.Remains.{PutsAway, WasOpenedClean}
use Rattle.er_cli.specs.Tasks.{Work, AnswersTask, DoesTask}
use Rattle.er_cli.specs.World.{World}
use Rattle.er_cli.specs.declared.remains.Remains.{Remains}
use Rattle.er_cli.specs.declared.remains.Remains.TheVariants.{Nothing}
use Rattle.er_cli.specs.Help.{Printed, Says, Tells, asks_text, text_for}

-- There is something that was done, by a desk or without one, of which this is told, and of which the file became this.
pub record TellsAndLeaves {Done : Type 0} (ToldOf FileOf : Done → Type 0) : Type 0 where
  pub done : Done
  pub told : ToldOf done
  pub file : FileOf done

-- One task was done with this desk. `got` is what clients got, if that is known.
abbrev pub Does : {S : Type 0} (g : Ghosts S) → World → (got : Option (List Got)) → Desk S g → Task → Desk S g → Printed → Type 0
Does g world got desk task last p = TellsAndLeaves
    (λ (work : Work). DoesTask world got (HasCleanDisk (state g last) × HoldsOwnEvent g desk) (desk_state desk) task work (desk_state last) p)
    (λ (work : Work). WorksOn g desk work last)

-- Any history that left the file goes on with this work, and the answer is that of the event at its end.
pub record GoesOnWith {D : Type 0} (d : disk.Ghosts D) (image : Image) (task : Task) (work : Work) (what : Remains D d) (p : Printed)
    (new : Point) (first : Placed) (ends : List Ended) : Type 0 where
  pub told : AnswersTask (WasOpenedClean what) first task work p
  pub file : GoesOnBy d image new ends first work what

abbrev pub GoOnWith : {D : Type 0} (d : disk.Ghosts D) → Image → Task → Work → Remains D d → Printed → Type 0
GoOnWith d image task work what p =
    (new : Point) (first : Placed) (ends : List Ended) → RecoversHistory image new ends first
    → GoesOnWith d image task work what p new first ends

module _ {D : Type 0} (g : disk.Ghosts D) (world : World) (got : Option (List Got)) (file : List ℕ) (what : Remains D g) (p : Printed) where
  -- Over a file that may hold anything, a line makes an event. Or it opens the event there, does one task with it and puts its file away;
  -- or none was opened, and why is told. If a history left the file, it goes on with just that task's work.
  abbrev pub EndsLine : Action → Type 0
  EndsLine (Init name rounds cut) = TellsAndLeaves (λ (told : Answer). Tells told p)
      (λ (told : Answer). MakesEvent g (world.image file) name rounds cut told what)
  EndsLine (Open task) =
      ((world.is_there file ≢ Some false) × (desk : Desk (FileStore D g) over_files) × (last : Desk (FileStore D g) over_files)
      × HasOpened (world.image file) desk
      × (it : Does over_files world got desk task last p) × PutsAway last what × GoOnWith g (world.image file) task it.done what p)
      ⊎ TellsAndLeaves (λ (why : Refusal). Tells (Refused why) p)
      (λ (why : Refusal). IsNotThere (world.is_there file) why what
      ⊎ ((world.is_there file ≢ Some false) × IsNotOpened (world.image file) why what))

pub record EndsWords {D : Type 0} (g : disk.Ghosts D) (world : World) (got : Option (List Got)) (words : List (List ℕ)) (what : Remains D g)
    (p : Printed) : Type 0 where
  -- A text that the words ask for goes to the output, and no file is given back.
  pub asked : IfSome (text_for words) (λ text. (what ≡ Nothing) × Says text DONE p.out p.err p.status)
  -- If the words ask for no text and aren't a command line, the errors get what is wrong with them, and the output stays as it is.
  pub unread : IsFalse (asks_text words) → line_of words ≡ None → (what ≡ Nothing) × EndsAsUsage words p
  -- A command line is answered as the event of the file has it, with the status of that answer. Memory may run out as it is read.
  pub answered : IfSome (line_of words)
      (λ line. EndsLine g world got (file_of line) what p (action_of line) ⊎ ((what ≡ Nothing) × Tells (Refused Memory) p))

module _ {D : Type 0} (d : disk.Ghosts D) (world : World) (file : List ℕ) where
  -- Any history that left the file goes on with what a task does to the event there, and the answer is that of the event at its end. Or
  -- the event was not opened, and why is told.
  abbrev pub GoesOnTask : Task → Remains D d → Printed → Type 0
  GoesOnTask task what p =
      (new : Point) (first : Placed) (ends : List Ended) → RecoversHistory (world.image file) new ends first
      → TellsAndLeaves (λ (work : Work). AnswersTask (WasOpenedClean what) first task work p)
      (λ (work : Work). GoesOnBy d (world.image file) new ends first work what)
      ⊎ TellsAndLeaves (λ (why : Refusal). Tells (Refused why) p)
      (λ (why : Refusal). StaysUnopened d (world.image file) new ends first why what)

  -- of a line: `init` makes no other event there. Or the file of one that opens it is not there.
  abbrev pub GoesOnAction : Action → Remains D d → Printed → Type 0
  GoesOnAction (Init name rounds cut) what p =
      (new : Point) (first : Placed) (ends : List Ended) → RecoversHistory (world.image file) new ends first
      → TellsAndLeaves (λ (told : Answer). Tells told p) (λ (told : Answer). MakesNoOther d (world.image file) new ends first told what)
  GoesOnAction (Open task) what p =
      TellsAndLeaves (λ (why : Refusal). Tells (Refused why) p) (λ (why : Refusal). IsNotThere (world.is_there file) why what)
      ⊎ GoesOnTask task what p

-- with what words do that are a line
abbrev pub GoesOnWords : {D : Type 0} (d : disk.Ghosts D) → World → List (List ℕ) → Remains D d → Printed → Type 0
GoesOnWords d world words what p = IfSome (line_of words) (λ line. GoesOnAction d world (file_of line) (action_of line) what p)
