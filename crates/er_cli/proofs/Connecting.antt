-- One connection after the other.
use Rattle.std.proofs.Common.{◌≡◌, ◌⊎◌, inl, inr, ℕ, suc, ◌+◌, Bool, List, [], ◌∷◌, Option, Some, None, IfSome, Result, Ok, Err, refl, ap, subst, ◌∙◌, arith}
use Rattle.std.specs.Io.KnownBytes.{Appends}
use Rattle.sqlite_trees.specs.declared.store.Store.{Ghosts}
use Rattle.sqlite.specs.State.{HasCleanDisk}
use Rattle.er_desk.specs.{declared.desk.Desk.Desk, Asking.join_sessions, Desk.{HoldsOwnEvent, DeskState, desk_state, state}, Run.Session}
use Rattle.er_event.specs.declared.{commands.Command.TheVariants.{Result as ReportResult}, scores.Games.Games}
use Rattle.er_desk.specs.{Reply.Reply, Run.session_of}
use Rattle.er_answers.specs.{Answers.{replies_of, session_at}, Question.reply_told}
use Rattle.er_answers.specs.declared.question.{Question.TheVariants.Submit, Answer.Answer}
use Rattle.er_slips.specs.{Response.ResponseValue, Serving.{AnswersRequest, EndsServing, IsServed, IsUnserved, Serves}}
use Rattle.er_slips.specs.{declared.request.wanted.Request.Request}
use Rattle.er_slips.specs.{declared.request.wanted.Request.TheVariants.{Standings, Pairings, Slip, Report}}
use Rattle.er_slips.specs.declared.request.wanted.Fault.{Fault}
use Rattle.er_slips.specs.{declared.serve.ServeEnd.ServeEnd, declared.serve.ServeEnd.TheVariants.{Answered, ReadFault, WriteFault}}
use Rattle.er_cli.specs.{declared.TheConstants.{DEVICE}, Serving.{Connects, ConnectsAll, ConnectsNext, SendsNext, PrintsServed}}
use Rattle.er_slips.specs.Request.{IsRequest}
use Rattle.er_desk.specs.Run.{no_session}
use Rattle.er_cli.specs.Clients.{IsNextClient}
use Rattle.er_cli.specs.{Help.stream, inside.Serving.{listening_text, served_text}, Texts.AppendsPart}
use Rattle.er_cli.proofs.Sending.{part_after, part_first, whole_part}

-- the session of a score that was handed in
one_reply : (round table : ℕ) (score : Games) (told : Answer) (reply : Reply) → told ≡ reply_told reply → (stopped : Bool)
    → session_at (Submit (ReportResult round table score)) told stopped ≡ session_of (ReportResult round table score ∷ [])
    (reply ∷ []) stopped
one_reply round table score told (Ok receipt) is stopped =
    ap (λ (t : Answer). session_of (ReportResult round table score ∷ []) (replies_of t) stopped) is
one_reply round table score told (Err why) is stopped =
    ap (λ (t : Answer). session_of (ReportResult round table score ∷ []) (replies_of t) stopped) is

-- what serving a request does to the desk
module _ (Represented : Type 0) (old : DeskState) (session : Session) (new : DeskState) where
  asked_connects : (input : Option (List ℕ)) (asked : Result Request Fault) (answer : ResponseValue)
      → IfSome input (λ xs. IsRequest xs asked) → AnswersRequest Represented old asked answer session new → Connects input old session new
  asked_connects input (Err fault) answer asks it = inl (it.2, it.1)
  asked_connects input (Ok Standings) answer wanted (told, it, message, nothing) = inr (inl (it.does.0, it.does.1, nothing))
  asked_connects input (Ok (Pairings round)) answer wanted (told, it, message, nothing) = inl (it.does.1, nothing)
  asked_connects input (Ok (Slip round table)) answer wanted (told, it, message, nothing) = inr (inr (inl (it.does.0, it.does.1, nothing)))
  asked_connects input (Ok (Report round table score)) answer wanted (told, it, message, asks) =
      let (reply, turn, is) = it.does in
      inr (inr (inr (round, table, score, reply, wanted, turn, asks ∙ one_reply round table score told reply is new.needs_reopen)))

  served_connects : (input : Option (List ℕ)) (answer : ResponseValue)
      → IsServed Represented input old answer session new ⊎ IsUnserved input old answer session new → Connects input old session new
  served_connects input answer (inl (asked, is, answers)) = asked_connects input asked answer is answers
  served_connects input answer (inr it) = inl (it.3, it.2)

  pub ends_connecting : (input before after : Option (List ℕ)) (served : ServeEnd)
      → EndsServing Represented input old session new before after served → Connects input old session new
  ends_connecting input before after ReadFault it = inl (it.2, it.1)
  ends_connecting input before after (Answered status) (answer, wrote, due) = served_connects input answer due
  ends_connecting input before after (WriteFault sent) (answer, wrote, due) = served_connects input answer due

module _ {S : Type 0} (g : Ghosts S) (input : Option (List ℕ)) (old new : Desk S g) (before after : Option (List ℕ))
    (served : ServeEnd) where
  pub serves_connecting : (it : Serves g input old new before after served) → Connects input (desk_state old) it.session (desk_state new)
  serves_connecting it = ends_connecting (HasCleanDisk (state g new) × HoldsOwnEvent g old) (desk_state old) it.session (desk_state new)
      input before after served it.ends

one_more : (count : ℕ) → suc count ≡ count + 1
one_more count = omega arith

-- one connection more
pub connects_more : (count : ℕ) (coming mid then : Option (List (List ℕ))) (first : DeskState) (before : Session) (old : DeskState)
    (one : Session) (new : DeskState)
    → ConnectsAll count coming mid first before old → ConnectsNext mid then old one new
    → ConnectsAll (count + 1) coming then first (join_sessions before one) new
connects_more count coming mid then first before old one new all more =
    subst (λ (n : ℕ). ConnectsAll n coming then first (join_sessions before one) new) (one_more count)
    (mid, old, before, one, all, more, refl)

-- nobody came, and the desk was asked nothing
pub comes_nobody : (coming then : Option (List (List ℕ))) (old : DeskState) → IfSome coming (λ inputs. then ≡ coming)
    → ConnectsNext coming then old no_session old
comes_nobody None then old same = (None, tt, inl (refl, refl))
comes_nobody (Some inputs) then old same = (Some [], inr (refl, same), inl (refl, refl))

-- one who came
pub comes_next : (coming mid then : Option (List (List ℕ))) (reads wrote : Option (List ℕ)) (was : Bool)
    → IfSome coming (λ inputs. IsNextClient inputs reads wrote was mid) → then ≡ mid → SendsNext coming reads then
comes_next None mid then reads wrote was it same = tt
comes_next (Some inputs) mid then reads wrote was (input, rest, is, sends, nothing, fine, others) same =
    inl (input, rest, is, sends, same ∙ others)

-- ---- what is printed if serving ends early

module _ (port count : ℕ) (before after : Option (List ℕ)) (line : List ℕ) (is : line ≡ listening_text port) where
  pub port_in_part : AppendsPart before after line → PrintsServed port count (stream before after) DEVICE
  port_in_part part = inr (
    refl,
    part_first before after (listening_text port) (served_text count)
        (subst (λ t. AppendsPart before after t) is part),
  )

  pub port_alone : Appends before after line → PrintsServed port count (stream before after) DEVICE
  port_alone whole = port_in_part (whole_part before after line whole)

  pub count_in_part : (mid : Option (List ℕ)) (last : List ℕ) → last ≡ served_text count → Appends before mid line
      → AppendsPart mid after last
      → PrintsServed port count (stream before after) DEVICE
  count_in_part mid last ends whole part = inr (
    refl,
    part_after before mid after (listening_text port) (served_text count) (subst (λ t. Appends before mid t) is whole)
        (subst (λ t. AppendsPart mid after t) ends part),
  )
