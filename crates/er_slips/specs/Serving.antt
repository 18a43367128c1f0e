-- What serving one request does: to the desk, and to what is written.
use Rattle.std.specs.Prelude.{◌≡◌, ◌⊎◌, ◌≤◌, ℕ, List, length, take, Option, Some, Result, Ok, Err, IfSome, IsFalse}
use Rattle.std.specs.Io.KnownBytes.{Appends, Keeps}
use Rattle.sqlite_trees.specs.declared.store.Store.{Ghosts}
use Rattle.sqlite.specs.State.{HasCleanDisk}
use Rattle.er_event.specs.declared.refusals.Refusal.TheVariants.{Memory}
use Rattle.er_desk.specs.declared.desk.Desk.{Desk}
use Rattle.er_desk.specs.Asking as desk
use Rattle.er_desk.specs.Desk.{DeskState, HoldsOwnEvent, desk_state, state}
use Rattle.er_desk.specs.Run.{Session, no_session}
use Rattle.er_answers.specs.Answers.{AnswersDesk, session_at}
use Rattle.er_answers.specs.declared.question.Answer.{Answer}
use Rattle.er_slips.specs.declared.request.wanted.Request.{Request}
use Rattle.er_slips.specs.declared.request.wanted.Fault.{Fault}
use Rattle.er_slips.specs.declared.serve.ServeEnd.{ServeEnd}
use Rattle.er_slips.specs.declared.serve.ServeEnd.TheVariants.{Answered, ReadFault, WriteFault}
use Rattle.er_slips.specs.declared.request.Next.TheVariants.{Body}
use Rattle.er_slips.specs.Request.{IsRequest, IsWholeRequest}
use Rattle.er_slips.specs.Response.{ResponseValue, IsResponse, fault_response, refusal_response}
use Rattle.er_slips.specs.Whole.{IsAnswerUnless503, question_of}

-- ---- the desk

-- What is asked of the desk, the response that tells its answer, the session that it asks of the file, and the desk's state then.
-- `Represented` is that its tables represented its event, on a clean disk: on this rests what is answered.
abbrev pub AnswersRequest : Type 0 → DeskState → Result Request Fault → ResponseValue → Session → DeskState → Type 0
AnswersRequest Represented old (Err fault) answer session new = (answer ≡ fault_response fault) × (session ≡ no_session) × (new ≡ old)
AnswersRequest Represented old (Ok request) answer session new =
    (told : Answer) × AnswersDesk Represented old (question_of request) told new × IsResponse told answer
    × (session ≡ session_at (question_of request) told new.needs_reopen)

-- a desk is asked this, answers so, and its file takes the session
pub record AnswersAsked {S : Type 0} (g : Ghosts S) (old : Desk S g) (asked : Request) (answer : ResponseValue) (new : Desk S g)
    : Type 0 where
  pub session : Session
  pub answers : AnswersRequest (HasCleanDisk (state g new) × HoldsOwnEvent g old) (desk_state old) (Ok asked) answer session
      (desk_state new)
  pub asks : desk.Asks g old session new

-- ---- one request

-- the desk was asked what the input asks for
abbrev pub IsServed : Type 0 → Option (List ℕ) → DeskState → ResponseValue → Session → DeskState → Type 0
IsServed Represented input old answer session new =
    (asked : Result Request Fault) × IfSome input (λ xs. IsRequest xs asked) × AnswersRequest Represented old asked answer session new

-- or memory ran out for a body, before the desk was asked, and it stays as it is
abbrev pub IsUnserved : Option (List ℕ) → DeskState → ResponseValue → Session → DeskState → Type 0
IsUnserved input old answer session new =
    (answer ≡ refusal_response Memory) × IfSome input (λ xs. (round table n : ℕ) × IsWholeRequest xs (Body round table n))
    × (session ≡ no_session) × (new ≡ old)

-- what was written of an answer
abbrev pub Writes : Option (List ℕ) → Option (List ℕ) → ServeEnd → ResponseValue → Type 0
Writes before after (Answered status) answer = (status ≡ answer.status) × Appends before after answer.bytes
Writes before after (WriteFault sent) answer = (sent ≤ length answer.bytes) × Appends before after (take sent answer.bytes)
Writes before after ReadFault answer = ⊥

-- how serving an input ends: with an answer, of which all or the first bytes were written, or by a read that failed,
-- with nothing submitted or written
abbrev pub EndsServing : Type 0 → Option (List ℕ) → DeskState → Session → DeskState → (before after : Option (List ℕ)) → ServeEnd → Type 0
EndsServing Represented input old session new before after ReadFault = Keeps before after × (session ≡ no_session) × (new ≡ old)
EndsServing Represented input old session new before after (Answered status) =
    (answer : ResponseValue) × Writes before after (Answered status) answer
    × (IsServed Represented input old answer session new ⊎ IsUnserved input old answer session new)
EndsServing Represented input old session new before after (WriteFault sent) =
    (answer : ResponseValue) × Writes before after (WriteFault sent) answer
    × (IsServed Represented input old answer session new ⊎ IsUnserved input old answer session new)

-- What serving one request does: one score is the session, or nothing is.
pub record Serves {S : Type 0} (g : Ghosts S) (input : Option (List ℕ)) (old new : Desk S g) (before after : Option (List ℕ))
    (served : ServeEnd)
    : Type 0 where
  pub session : Session
  pub ends : EndsServing (HasCleanDisk (state g new) × HoldsOwnEvent g old) input (desk_state old) session
      (desk_state new) before after served
  pub asks : desk.Asks g old session new

-- What was written of the answer to the input on the event and serial of a desk, or of a 503 that names why.
abbrev pub IsWritten : DeskState → List ℕ → Option (List ℕ) → Option (List ℕ) → ServeEnd → Type 0
IsWritten old input before after ReadFault = Keeps before after
IsWritten old input before after (Answered status) =
    (answer : ResponseValue) × Writes before after (Answered status) answer
    × IsAnswerUnless503 old.event old.serial input answer
IsWritten old input before after (WriteFault sent) =
    (answer : ResponseValue) × Writes before after (WriteFault sent) answer
    × IsAnswerUnless503 old.event old.serial input answer

-- Serving wrote just that if the desk ran and its tables represented its event.
abbrev pub WritesDue : {S : Type 0} → Ghosts S → Type 0
WritesDue {S} g = (old new : Desk S g) (input : List ℕ) (before after : Option (List ℕ)) (served : ServeEnd)
    → Serves g (Some input) old new before after served → IsFalse (desk_state old).needs_reopen
    → HasCleanDisk (state g new) × HoldsOwnEvent g old → IsWritten (desk_state old) input before after served
