-- A whole input asks for one thing, and has one answer.
use Rattle.std.proofs.Common.{◌≡◌, inl, inr, List, ℕ, Result, Ok, Err, sym, ap, ap₂, subst, ◌∙◌}
use Rattle.httparse.proofs.GrammarLemmas.{request_unique}
use Rattle.er_slips.specs.declared.request.wanted.{Request.Request, Fault.Fault}
use Rattle.er_slips.specs.Request.{IsRequest, headed, headless}
use Rattle.er_slips.specs.Request.{asked_of}
use Rattle.er_event.specs.declared.commands.Command.{Command}
use Rattle.er_event.specs.declared.commands.Command.TheVariants.{Result as ReportResult}
use Rattle.er_event.specs.{declared.refusals.Refusal.Refusal, declared.scores.Games.Games, Event.EventValue, Sound.IsSoundButForSeeds}
use Rattle.er_rank.specs.Standings.{HasOneStandings}
use Rattle.er_rules.specs.Step.{Steps}
use Rattle.er_paper.specs.Texts.{rows_text}
use Rattle.er_desk.specs.Reply.{Reply, IsDue, reply_to}
use Rattle.er_slips.specs.declared.request.wanted.Request.TheVariants.{Standings, Pairings, Slip, Report}
use Rattle.er_rank.specs.declared.rows.Row.{Row}
use Rattle.er_answers.specs.{Due.IsDueAt, Question.reply_told, declared.question.{Answer.Answer, Answer.TheVariants.Text}}
use Rattle.er_slips.specs.{Response.{ResponseValue, response_to}, Whole.{IsAnswered, OneAnswer, question_of, submitted_command}}

pub one_asked : (input : List ℕ) (r q : Result Request Fault) → IsRequest input r → IsRequest input q → r ≡ q
one_asked input r q (headed h rest is e) (headed k more also f) =
    let same = request_unique input h k rest more is.0 also.0 in
    e ∙ ap₂ asked_of same.0 same.1 ∙ sym f
one_asked input r q (headed h rest is e) (headless none f) = absurd (none h rest is)
one_asked input r q (headless none e) (headed h rest is f) = absurd (none h rest is)
one_asked input r q (headless none e) (headless also f) = e ∙ sym f

-- ---- the answer

abbrev OneStep : Type 0
OneStep = (event : EventValue) (command : Command) (one other : Result EventValue Refusal) → IsSoundButForSeeds event
    → Steps event command one → Steps event command other → one ≡ other

module _ (standings : HasOneStandings) (step : OneStep) (event : EventValue) (serial : ℕ) (sound : IsSoundButForSeeds event) where
  one_reply : (round table : ℕ) (score : Games) (r q : Reply) → IsDue 2 event serial (ReportResult round table score) r
      → IsDue 2 event serial (ReportResult round table score) q → r ≡ q
  one_reply round table score r q (result, inl (steps, few), due) (other, inl (also, least), same) =
      due ∙ ap (reply_to 2 event serial (ReportResult round table score))
      (step event (ReportResult round table score) result other sound steps also)
      ∙ sym same
  one_reply round table score r q (result, inr (over, needs), due) (other, answers, same) = absurd needs
  one_reply round table score r q (result, inl (steps, few), due) (other, inr (over, needs), same) = absurd needs

  one_told : (asked : Request) (a b : Answer) → IsDueAt 2 (record { event = event; serial = serial }) (question_of asked) a
      → IsDueAt 2 (record { event = event; serial = serial }) (question_of asked) b → a ≡ b
  one_told Standings a b (rows, are, is) (other, also, it) =
      is ∙ ap (λ (list : List Row). Text (rows_text event list)) (sym (standings event rows sound are.0 other also.0)) ∙ sym it
  one_told (Pairings round) a b is also = is ∙ sym also
  one_told (Slip round table) a b is also = is ∙ sym also
  one_told (Report round table score) a b (reply, due, is) (other, same, also) =
      is ∙ ap reply_told (one_reply round table score reply other due same) ∙ sym also

  one_answered : (asked : Result Request Fault) (a b : ResponseValue) → IsAnswered event serial asked a
      → IsAnswered event serial asked b → a ≡ b
  one_answered (Err fault) a b is also = is ∙ sym also
  one_answered (Ok asked) a b (told, due, is) (other, same, also) = is ∙ ap response_to (one_told asked told other due same) ∙ sym also

pub one_answer : HasOneStandings → OneStep → OneAnswer
one_answer standings step event serial input one other submits also sound is it =
    let asked = one_asked input is.asked it.asked is.asks it.asks in (
      one_answered standings step event serial sound it.asked one other
          (subst (λ (r : Result Request Fault). IsAnswered event serial r one) asked is.answered) it.answered,
      is.command ∙ ap submitted_command asked ∙ sym it.command,
    )
