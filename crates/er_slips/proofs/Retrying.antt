-- What a retry is answered.
use Rattle.std.proofs.{Common.{arith, ◌≡◌, ◌⊎◌, inl, inr, ℕ, Option, Some, Result, Ok, Err, ap, subst, ◌∙◌}, lemmas.Grind.common_steps}
use Rattle.er_event.specs.{declared.refusals.Refusal.Refusal, declared.refusals.Refusal.TheVariants.{AlreadyReported, NotSwiss}}
use Rattle.er_event.specs.{declared.scores.Games.Games, Event.EventValue}
use Rattle.er_rules.specs.Retry.{IsRetryRefusal, NoDoubleEffect}
use Rattle.er_desk.specs.Reply.{reply_to}
use Rattle.er_slips.specs.{declared.request.wanted.Request.TheVariants.Report, Response.{ResponseValue, response_to, refusal_response}}
use Rattle.er_answers.specs.Question.{reply_told}
use Rattle.er_slips.specs.{Whole.IsAnswered, Retry.{HasScore, Retries}}
use Rattle.er_slips.proofs.Unique.{one_asked}
use Rattle.er_event.specs.declared.commands.Command.TheVariants.{Result as ReportResult}
use Rattle.er_rules.specs.Step as step

-- `AlreadyReported` has the score that is stored
module _ (handed stored : Games) where
  abbrev Reported : Option Refusal → Type 0
  Reported why = why ≡ Some (AlreadyReported stored)

  pub stored_score : (event : EventValue) (round table : ℕ) (result : Result EventValue Refusal)
      → step.Steps event (ReportResult round table handed) result → result ≡ Err (AlreadyReported stored)
      → HasScore event round table stored
  stored_score event round table result steps refused = grind (arith, common_steps)

-- the refusal of a step is what is answered
module _ (later : EventValue) (round table : ℕ) (handed : Games) where
  abbrev IsRefused : Type 0
  IsRefused = (result : Result EventValue Refusal) → step.Steps later (ReportResult round table handed) result
      → (why : Refusal) × (result ≡ Err why) × IsRetryRefusal (ReportResult round table handed) why

  abbrev IsToldAgain : ResponseValue → Type 0
  IsToldAgain answer = ((stored : Games) × HasScore later round table stored × (answer ≡ refusal_response (AlreadyReported stored)))
      ⊎ (answer ≡ refusal_response NotSwiss)

  refusal_for : (answer : ResponseValue) (why : Refusal) (result : Result EventValue Refusal)
      → step.Steps later (ReportResult round table handed) result → result ≡ Err why → answer ≡ refusal_response why
      → IsRetryRefusal (ReportResult round table handed) why → IsToldAgain answer
  refusal_for answer why result steps refused is (inl (stored, same)) =
      inl (stored, stored_score handed stored later round table result steps (refused ∙ ap Err same), is ∙ ap refusal_response same)
  refusal_for answer why result steps refused is (inr same) = inr (is ∙ ap refusal_response same)

  answered : IsRefused → (serial : ℕ) (answer : ResponseValue) → IsAnswered later serial (Ok (Report round table handed)) answer
      → IsToldAgain answer
  answered refused serial answer (told, (reply, (result, inl (steps, few), due), tells), same) =
      let it = refused result steps in
      refusal_for answer it.0 result steps it.1 (same ∙ ap response_to (tells ∙ ap reply_told
      (due ∙ ap (reply_to 2 later serial (ReportResult round table handed)) it.1))) it.2
  answered refused serial answer (told, (reply, (result, inr (over, needs), due), tells), same) = absurd needs

pub retries : NoDoubleEffect → Retries
retries law event next later more round table handed taken folds serial input answer submits asks it =
    answered later round table handed (law.0 event next later (ReportResult round table handed) more taken (λ no. no) folds) serial answer
    (subst (λ asked. IsAnswered later serial asked answer) (one_asked input it.asked (Ok (Report round table handed)) it.asks asks)
    it.answered)
