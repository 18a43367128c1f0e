-- What the desk answers, and how serving an input ends.
use Rattle.std.proofs.{lemmas.Grind.common_steps, Common.{◌≡◌, ◌⊎◌, ◌≤◌, inl, inr, ℕ, false, true≢false, arith, List, Option}}
use Rattle.std.proofs.Common.{Some, None, Bool, true, length, take, nat_lt, if◌then◌else◌, Result, Ok, Err, IsFalse, IfSome, IfOk, is_ok}
use Rattle.std.proofs.Common.{MatchResult}
use Rattle.std.specs.declared.alloc.AllocError.{AllocError}
use Rattle.std.proofs.{Common.{refl, ap, subst, ◌∙◌}, lemmas.Bool.Decides.nat_tests}
use Rattle.std.specs.Io.KnownBytes.{Keeps}
use Rattle.sqlite_trees.specs.declared.store.Store.{Ghosts}
use Rattle.er_event.specs.{declared.refusals.Refusal.Refusal, declared.refusals.Refusal.TheVariants.{Memory}}
use Rattle.er_event.specs.{declared.scores.Games.Games, declared.commands.Command.TheVariants.{Result as ReportResult}}
use Rattle.er_paper.specs.Slip.{slip_games}
use Rattle.er_store.specs.Fault.{IsFault}
use Rattle.er_desk.specs.declared.desk.Desk.{Desk}
use Rattle.er_desk.specs.Asking as desk
use Rattle.er_desk.specs.Desk.{DeskState, desk_state, point_of}
use Rattle.er_desk.specs.{Reply.{Reply, IsDue, IsLawfulReply}, Run.{Session, no_session}}
use Rattle.er_answers.specs.{Answers.{AsksFor, session_at}, Due.{IsAnswerAt, IsDueAt, OrFault}, Question.reply_told}
use Rattle.er_answers.specs.declared.question.{Answer.Answer, Answer.TheVariants.{Accepted, Text, Slip as SlipText, Refused as Declined}}
use Rattle.er_slips.specs.declared.request.wanted.Request.{Request}
use Rattle.er_slips.specs.{declared.request.wanted.Request.TheVariants.{Standings, Pairings, Slip, Report}}
use Rattle.er_slips.specs.{declared.request.wanted.Fault.Fault}
use Rattle.er_slips.specs.{declared.request.wanted.NoRequest.NoRequest, declared.request.wanted.NoRequest.TheVariants.Refused}
use Rattle.er_slips.specs.declared.request.wanted.NoRequest.TheVariants as no_request
use Rattle.er_slips.specs.{declared.request.Next.Next, declared.request.Next.TheVariants.{Get, Body}}
use Rattle.er_slips.specs.declared.request.wanted.Fault.TheVariants.{BadRequest}
use Rattle.er_slips.specs.{declared.serve.ServeEnd.ServeEnd, declared.serve.ServeEnd.TheVariants.{Answered, ReadFault, WriteFault}}
use Rattle.er_slips.specs.{Request.{IsRequest, headed, headless, IsWholeRequest, next_of, asked_with, report_request}}
use Rattle.er_slips.specs.{inside.Telling.TellsRequest}
use Rattle.er_slips.specs.declared.response.Response.{Response}
use Rattle.er_slips.specs.Response.{ResponseValue, IsResponse, response_value, fault_response, refusal_response}
use Rattle.er_slips.specs.Whole.{IsAnswered, submitted_command, IsAnswerUnless503, question_of}
use Rattle.er_slips.specs.Serving.{AnswersRequest, IsServed, IsUnserved, Writes, EndsServing, IsWritten}

-- a request moves no tables: it asks its session of the file
pub asks_session : {S : Type 0} (g : Ghosts S) (old : Desk S g) (asked : Request) (told : Answer) (new : Desk S g)
    → AsksFor g old (question_of asked) told new
    → desk.Asks g old (session_at (question_of asked) told (desk_state new).needs_reopen) new
asks_session g old Standings told new it = it
asks_session g old (Pairings round) told new it = it
asks_session g old (Slip round table) told new it = it
asks_session g old (Report round table score) told new it = it

-- an answer that was made, or that memory ran out
pub made_is : (made : Result Response AllocError) (answer due : ResponseValue) → IfOk made (λ a. response_value a ≡ due)
    → MatchResult made (λ a. answer ≡ response_value a) (λ _. answer ≡ refusal_response Memory)
    → (answer ≡ due) ⊎ (answer ≡ refusal_response Memory)
made_is (Ok made) answer due of is = inl (is ∙ of)
made_is (Err error) answer due of is = inr is

-- ---- how serving ends

module _ (Represented : Type 0) (input : Option (List ℕ)) (old : DeskState) (session : Session) (new : DeskState)
    (before after : Option (List ℕ))
    (answer : ResponseValue) where
  ends : (served : ServeEnd) → Writes before after served answer → IsServed Represented input old answer session new
      ⊎ IsUnserved input old answer session new
      → EndsServing Represented input old session new before after served
  ends h1 wrote due = grind (arith, common_steps)

  asks : (i : Option (List ℕ)) (asked : Request) → IfSome i (λ xs. TellsRequest xs (Ok asked)) → IfSome i (λ xs. IsRequest xs (Ok asked))
  asks h1 asked told = grind (arith, common_steps)

  asks-fault : (i : Option (List ℕ)) (fault : Fault) → IfSome i (λ xs. TellsRequest xs (Err (Refused fault)))
      → IfSome i (λ xs. IsRequest xs (Err fault))
  asks-fault h1 fault told = grind (arith, common_steps)

  pub ends-asked : (served : ServeEnd) (asked : Request) → IfSome input (λ xs. TellsRequest xs (Ok asked))
      → AnswersRequest Represented old (Ok asked) answer session new
      → Writes before after served answer → EndsServing Represented input old session new before after served
  ends-asked served asked told answers wrote = ends served wrote (inl (Ok asked, asks input asked told, answers))

  pub ends-refused : (served : ServeEnd) (why : NoRequest) (fault : Fault) → why ≡ Refused fault
      → IfSome input (λ xs. TellsRequest xs (Err why))
      → answer ≡ fault_response fault → session ≡ no_session → new ≡ old
      → Writes before after served answer → EndsServing Represented input old session new before after served
  ends-refused served why fault of told is nothing same wrote =
      ends served wrote (inl (
        Err fault,
        asks-fault input fault (subst (λ u. IfSome input (λ xs. TellsRequest xs (Err u))) of told),
        (is, nothing, same),
      ))

pub keeps : (known : Option (List ℕ)) → Keeps known known
keeps h1 = grind (arith, common_steps)

pub ends-unserved : (Represented : Type 0) (input : Option (List ℕ)) (old : DeskState) (before after : Option (List ℕ))
    (answer : ResponseValue)
    (served : ServeEnd) (why : NoRequest) → why ≡ no_request.Memory → IfSome input (λ xs. TellsRequest xs (Err why))
    → answer ≡ refusal_response Memory → Writes before after served answer
    → EndsServing Represented input old no_session old before after served
ends-unserved Represented input old before after answer served why of told is wrote =
    ends Represented input old no_session old before after answer served wrote
    (inr (is, subst (λ u. IfSome input (λ xs. TellsRequest xs (Err u))) of told, refl, refl))

-- ---- the answer of a desk that runs, over tables that stand

-- a body that is too short asks for nothing
there : (round table n : ℕ) (rest : List ℕ) (asked : Request) → Ok asked ≡ asked_with (Ok (Body round table n)) rest → n ≤ length rest
there round table n rest asked e = by (nat_lt (length rest) n) refl e
  where
    by : (short : Bool) → nat_lt (length rest) n ≡ short
        → ◌≡◌ {A = Result Request Fault} (Ok asked)
        (if short then Err BadRequest else report_request round table (slip_games (take n rest))) → n
        ≤ length rest
    by true is e = absurd (true≢false (ap is_ok e))
    by false is e = grind (arith, nat_tests)

module _ (old : DeskState) (session : Session) (new : DeskState) (input : List ℕ) (answer : ResponseValue)
    (runs : IsFalse old.needs_reopen) where
  exact : (asked : Result Request Fault) → IsRequest input asked → IsAnswered old.event old.serial asked answer
      → IsAnswerUnless503 old.event old.serial input answer
  exact asked is answered = inl (submitted_command asked, record { asked = asked; asks = is; answered = answered; command = refl })

  -- only a whole request asks for something
  whole : (asked : Request) → IsRequest input (Ok asked) → (next : Next) × IsWholeRequest input next
  whole asked (headed head rest is e) = by (next_of head) refl e
    where
      by : (due : Result Next Fault) → next_of head ≡ due → Ok asked ≡ asked_with due rest → (next : Next) × IsWholeRequest input next
      by (Err fault) of e = absurd (true≢false (ap is_ok e))
      by (Ok (Get it)) of e = (Get it, record { head = head; rest = rest; heads = is; passes = of; body = tt })
      by (Ok (Body round table n)) of e = (
        Body round table n,
        record {
          head = head;
          rest = rest;
          heads = is;
          passes = of;
          body = there round table n rest asked e;
        },
      )
  whole asked (headless so e) = absurd (true≢false (ap is_ok e))

  module _ (asked : Request) (of : IsRequest input (Ok asked)) where
    faulty : (why : Refusal) → IsFault why → answer ≡ refusal_response why → IsAnswerUnless503 old.event old.serial input answer
    faulty why fault same = (let request = whole asked of in inr (why, fault, same, request.0, request.1))

    -- what is due, or no memory for its message
    due_told : (told : Answer) → IsDueAt 2 (point_of old) (question_of asked) told → IsResponse told answer
        → IsAnswerUnless503 old.event old.serial input answer
    due_told (Accepted receipt) due is = exact (Ok asked) of (Accepted receipt, due, is)
    due_told (Text text) due (inl is) = exact (Ok asked) of (Text text, due, is)
    due_told (Text text) due (inr full) = faulty Memory (inl refl) full
    due_told (SlipText slip) due (inl is) = exact (Ok asked) of (SlipText slip, due, is)
    due_told (SlipText slip) due (inr full) = faulty Memory (inl refl) full
    due_told (Declined why) due is = exact (Ok asked) of (Declined why, due, is)

    fault_told : (told : Answer) (why : Refusal) → IsFault why → told ≡ Declined why → IsResponse told answer
        → IsAnswerUnless503 old.event old.serial input answer
    fault_told told why fault is message = faulty why fault (subst (λ (t : Answer). IsResponse t answer) is message)

    told_or_fault : (told : Answer) → OrFault (IsDueAt 2 (point_of old) (question_of asked) told) told → IsResponse told answer
        → IsAnswerUnless503 old.event old.serial input answer
    told_or_fault told (inl due) message = due_told told due message
    told_or_fault told (inr (why, fault, is)) message = fault_told told why fault is message

  module _ (round table : ℕ) (score : Games) (of : IsRequest input (Ok (Report round table score))) where
    -- a score is never late
    in_time : (reply : Reply) → IsDue old.version old.event old.serial (ReportResult round table score) reply
        → IsDue 2 old.event old.serial (ReportResult round table score) reply
    in_time reply (Ok next, taken, same) = (Ok next, taken, same)
    in_time reply (Err why, refused, same) = (Err why, refused, same)

    reply_by : (told : Answer) (reply : Reply) → IsLawfulReply old.version old.event old.serial (ReportResult round table score) reply
        → told ≡ reply_told reply → IsResponse told answer → IsAnswerUnless503 old.event old.serial input answer
    reply_by told reply (inl due) is message =
        due_told (Report round table score) of told (reply, in_time reply due, is) message
    reply_by told reply (inr (inl full)) is message =
        fault_told (Report round table score) of told Memory (inl refl) (is ∙ ap reply_told full) message
    reply_by told reply (inr (inr (due, why, fault, failed))) is message =
        fault_told (Report round table score) of told why fault (is ∙ ap reply_told failed) message

  answered_at : (asked : Request) → IsRequest input (Ok asked) → (told : Answer)
      → IsAnswerAt old.version (point_of old) (question_of asked) told → IsResponse told answer
      → IsAnswerUnless503 old.event old.serial input answer
  answered_at Standings of told it message = told_or_fault Standings of told it message
  answered_at (Pairings round) of told it message = told_or_fault (Pairings round) of told it message
  answered_at (Slip round table) of told it message = told_or_fault (Slip round table) of told it message
  answered_at (Report round table score) of told (reply, lawful, is) message = reply_by round table score of told reply lawful is message

  answered-by : (Represented : Type 0) → Represented → (asked : Result Request Fault) → IsRequest input asked
      → AnswersRequest Represented old asked answer session new
      → IsAnswerUnless503 old.event old.serial input answer
  answered-by Represented represented (Err fault) is answers = exact (Err fault) is answers.0
  answered-by Represented represented (Ok asked) is (told, answers, message, asks) =
      answered_at asked is told (answers.due represented runs) message

  due-by : (Represented : Type 0) → Represented → IsServed Represented (Some input) old answer session new
      ⊎ IsUnserved (Some input) old answer session new
      → IsAnswerUnless503 old.event old.serial input answer
  due-by Represented represented (inl (asked, is, answers)) = answered-by Represented represented asked is answers
  due-by Represented represented (inr unserved) = (let body = unserved.1 in inr (Memory, inl refl, unserved.0, _, body.3))

pub written : (Represented : Type 0) (input : Option (List ℕ)) (old : DeskState) (session : Session) (new : DeskState)
    (before after : Option (List ℕ)) (served : ServeEnd)
    → EndsServing Represented input old session new before after served
    → IfSome input (λ xs. IsFalse old.needs_reopen → Represented → IsWritten old xs before after served)
written Represented None old session new before after served e = tt
written Represented (Some xs) old session new before after ReadFault e = λ runs represented. e.0
written Represented (Some xs) old session new before after (Answered status) (answer, wrote, due) =
    λ runs represented. (answer, wrote, due-by old session new xs answer runs Represented represented due)
written Represented (Some xs) old session new before after (WriteFault sent) (answer, wrote, due) =
    λ runs represented. (answer, wrote, due-by old session new xs answer runs Represented represented due)
