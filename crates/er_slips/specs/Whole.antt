-- The answer to a whole input on an event, and what is submitted for it.
use Rattle.std.specs.Prelude.{◌≡◌, ◌⊎◌, ℕ, List, Option, Some, None, Result, Ok, Err}
use Rattle.er_event.specs.declared.commands.Command.{Command}
use Rattle.er_event.specs.declared.commands.Command.TheVariants.{Result as ReportResult}
use Rattle.er_event.specs.declared.refusals.Refusal.{Refusal}
use Rattle.er_event.specs.Event.{EventValue}
use Rattle.er_event.specs.Sound.{IsSoundButForSeeds}
use Rattle.er_store.specs.Fault.{IsFault}
use Rattle.er_answers.specs.Due.{IsDueAt}
use Rattle.er_answers.specs.declared.question.Question.{Question}
use Rattle.er_answers.specs.declared.question.Question.TheVariants as question
use Rattle.er_answers.specs.declared.question.View.TheVariants as view
use Rattle.er_answers.specs.declared.question.Answer.{Answer}
use Rattle.er_slips.specs.declared.request.wanted.Request.{Request}
use Rattle.er_slips.specs.declared.request.wanted.Request.TheVariants.{Standings, Pairings, Slip, Report}
use Rattle.er_slips.specs.declared.request.wanted.Fault.{Fault}
use Rattle.er_slips.specs.declared.request.Next.{Next}
use Rattle.er_slips.specs.Request.{IsRequest, IsWholeRequest}
use Rattle.er_slips.specs.Response.{ResponseValue, fault_response, response_to, refusal_response}

-- what a request asks the desk; a score that is reported is a command
abbrev pub question_of : Request → Question
question_of Standings = question.Standings
question_of (Pairings round) = question.Show (view.Pairings round)
question_of (Slip round table) = question.Slip round table
question_of (Report round table score) = question.Submit (ReportResult round table score)

-- The answer to what is asked, if memory and the store serve. A score is never late: its reply is the same in tables of
-- either version.
abbrev pub IsAnswered : EventValue → ℕ → Result Request Fault → ResponseValue → Type 0
IsAnswered event serial (Err fault) answer = answer ≡ fault_response fault
IsAnswered event serial (Ok request) answer =
    (told : Answer) × IsDueAt 2 (record { event = event; serial = serial }) (question_of request) told × (answer ≡ response_to told)

-- a command is submitted, and nothing else is
abbrev pub command_of : Question → Option Command
command_of (question.Submit command) = Some command
command_of asked = None

abbrev pub submitted_command : Result Request Fault → Option Command
submitted_command (Err fault) = None
submitted_command (Ok request) = command_of (question_of request)

-- the answer to a whole input, and the command that is submitted for it
pub record IsAnswer (event : EventValue) (serial : ℕ) (input : List ℕ) (answer : ResponseValue) (submits : Option Command) : Type 0 where
  pub asked : Result Request Fault
  pub asks : IsRequest input asked
  pub answered : IsAnswered event serial asked answer
  pub command : submits ≡ submitted_command asked

-- Of a sound event, a serial and an input there is one answer, and one command at most.
abbrev pub OneAnswer : Type 0
OneAnswer = (event : EventValue) (serial : ℕ) (input : List ℕ) (one other : ResponseValue) (submits also : Option Command)
    → IsSoundButForSeeds event → IsAnswer event serial input one submits → IsAnswer event serial input other also
    → (one ≡ other) × (submits ≡ also)

-- The answer to the input on this event, and else a 503 that names why, to the byte: memory ran out, or the store has a fault. So is
-- answered only a head that passes each check, with the whole of its body: a 400 for a head or a length, a 404, a 405 and a 413 are
-- always answered.
abbrev pub IsAnswerUnless503 : EventValue → ℕ → List ℕ → ResponseValue → Type 0
IsAnswerUnless503 event serial input answer =
    ((submits : Option Command) × IsAnswer event serial input answer submits)
    ⊎ ((why : Refusal) × IsFault why × (answer ≡ refusal_response why) × (next : Next) × IsWholeRequest input next)
