-- What is done with an event that was opened, and what is told of it. No file and no disk is known here.
use Rattle.std.specs.Prelude.{◌≡◌, ℕ, Bool, IsTrue, IfSome, List, [], ◌∷◌, Option, None}
use Rattle.std.specs.List.{AllByRecursion}
use Rattle.er_event.specs.declared.commands.Command.{Command}
use Rattle.er_event.specs.declared.commands.Command.TheVariants.{Enrol, Result as ReportResult}
use Rattle.er_event.specs.declared.commands.Receipt.{Receipt}
use Rattle.er_event.specs.declared.scores.Games.{Games}
use Rattle.er_desk.specs.Desk.{Placed, DeskState}
use Rattle.er_desk.specs.Run.{Session}
use Rattle.er_answers.specs.Answers.{AnswersDesk, session_at}
use Rattle.er_answers.specs.Due.{IsAnswerAt, OrFault}
use Rattle.er_answers.specs.declared.question.Question.{Question}
use Rattle.er_answers.specs.declared.question.Question.TheVariants.{Submit, Migrate}
use Rattle.er_answers.specs.declared.question.Answer.{Answer}
use Rattle.er_answers.specs.declared.question.Answer.TheVariants.{Accepted}
use Rattle.er_cli.specs.declared.action.Task.{Task}
use Rattle.er_cli.specs.declared.action.Task.TheVariants.{Ask, Import, Serve}
use Rattle.er_cli.specs.Clients.{Got}
use Rattle.er_cli.specs.Help.{Printed, Tells}
use Rattle.er_cli.specs.Importing.{Imports}
use Rattle.er_cli.specs.Serving.{ServesClients}
use Rattle.er_cli.specs.World.{World}

-- what was done with an event: a session was asked of it, or its tables were to be moved, and this was told
pub data Work : Type 0 where
  Commands : Session → Work
  Migration : Answer → Work

-- what one question has done, by what it was told
abbrev pub work_of : Question → Answer → (needs_reopen : Bool) → Work
work_of Migrate told needs_reopen = Migration told
work_of question told needs_reopen = Commands (session_at question told needs_reopen)

-- What a desk is asked for a task, and what is told of it. `Represented` is that its tables represented its event, on a clean disk.
abbrev pub DoesTask : World → (got : Option (List Got)) → (Represented : Type 0) → DeskState → Task → Work → DeskState → Printed → Type 0
DoesTask world got Represented old (Ask question) work new p =
    (told : Answer) × AnswersDesk Represented old question told new × (work ≡ work_of question told new.needs_reopen) × Tells told p
DoesTask world got Represented old (Import list) work new p =
    (session : Session) × (work ≡ Commands session) × Imports p (world.list list) old session new
DoesTask world got Represented old (Serve port count) work new p =
    (session : Session) × (work ≡ Commands session) × ServesClients Represented p port count (world.coming port) got old session new

-- ---- at the end of a history

-- One question, and its answer. `Sure` is that the disk is clean, without which no answer is due.
pub record AnswersQuestion (Sure : Type 0) (first : Placed) (question : Question) (told : Answer) (work : Work) : Type 0 where
  -- whether the store has had a fault
  pub needs_reopen : Bool
  pub asked : work ≡ work_of question told needs_reopen
  pub lawful : Sure → IsAnswerAt first.version first.point question told
  -- Acknowledged is kept: if `ok` and a serial were answered, the session is this command, and nothing is in doubt.
  pub acknowledged : (command : Command) (receipt : Receipt) → question ≡ Submit command → told ≡ Accepted receipt
      → work ≡ Commands (record { acknowledged = command ∷ []; in_doubt = None })
  -- Only a fault of the store leaves a doubt.
  pub doubt : Sure → IsTrue needs_reopen → OrFault ⊥ told

-- what was asked are commands of this kind, and nothing else
abbrev pub AsksOnly : (Command → Type 0) → Session → Type 0
AsksOnly Is session = AllByRecursion Is session.acknowledged × IfSome session.in_doubt Is

abbrev pub IsEnrolment : Command → Type 0
IsEnrolment command = (name : List ℕ) × (command ≡ Enrol name)

abbrev pub IsScore : Command → Type 0
IsScore command = (round table : ℕ) × (score : Games) × (command ≡ ReportResult round table score)

-- One request with its answer. Of a list names were enrolled, and of clients scores were handed in: which, and what is printed, is in
-- `DoesTask`.
abbrev pub AnswersTask : (Sure : Type 0) → Placed → Task → Work → Printed → Type 0
AnswersTask Sure first (Ask question) work p = (told : Answer) × AnswersQuestion Sure first question told work × Tells told p
AnswersTask Sure first (Import list) work p = (session : Session) × (work ≡ Commands session) × AsksOnly IsEnrolment session
AnswersTask Sure first (Serve port count) work p = (session : Session) × (work ≡ Commands session) × AsksOnly IsScore session
