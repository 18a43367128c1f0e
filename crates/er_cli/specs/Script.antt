-- The answers to the lines of a script.
use Rattle.std.specs.Prelude.{◌≡◌, ◌⊎◌, ⊤, ℕ, List, [], ◌∷◌, take, flat_map, Option, Some, None, MatchOption, is_some}
use Rattle.std.specs.Io.KnownBytes.{Appends}
use Rattle.er_event.specs.declared.refusals.Refusal.{Refusal}
use Rattle.er_event.specs.declared.refusals.Refusal.TheVariants.{Memory, NoEvent}
use Rattle.er_rules.specs.Commands.{first_refusal}
use Rattle.er_store.specs.Fault.{IsFault}
use Rattle.er_desk.specs.Desk.{DeskState, running_at}
use Rattle.er_desk.specs.History.{new_point}
use Rattle.er_answers.specs.Answers.{AnswersDesk}
use Rattle.er_answers.specs.declared.question.Answer.{Answer}
use Rattle.er_answers.specs.declared.question.Answer.TheVariants.{Accepted, Refused}
use Rattle.er_cli.specs.Action.{script_action}
use Rattle.er_cli.specs.declared.action.Action.{Action}
use Rattle.er_cli.specs.declared.action.Action.TheVariants.{Init, Open}
use Rattle.er_cli.specs.declared.action.Task.TheVariants.{Ask, Import, Serve}
use Rattle.er_cli.specs.declared.texts.LineAnswer.{LineAnswer}
use Rattle.er_cli.specs.declared.texts.LineAnswer.TheVariants.{Asked, Usage}
use Rattle.er_cli.specs.Setup.{init_checks}
use Rattle.er_cli.specs.Texts.{answer_text, AppendsPart}

-- an event is made, or memory or the store fails, and all stays as it is
abbrev pub CreatesEvent : Option DeskState → List ℕ → ℕ → ℕ → Answer → Option DeskState → Type 0
CreatesEvent old name rounds cut told new =
    ((told ≡ Accepted (record { serial = 0 })) × (new ≡ Some (running_at (new_point name rounds cut) 2)))
    ⊎ ((why : Refusal) × IsFault why × (told ≡ Refused why) × (new ≡ old))

-- the answer to setting up an event
abbrev pub SetsUp : Option DeskState → List ℕ → ℕ → ℕ → Answer → Option DeskState → Type 0
SetsUp old name rounds cut told new =
    MatchOption (first_refusal (init_checks (is_some old) name rounds cut))
    (CreatesEvent old name rounds cut told new)
    (λ why. ((told ≡ Refused why) ⊎ (told ≡ Refused Memory)) × (new ≡ old))

-- The answer to an action, and the desk's state then. The tables in memory represent its event. All but `init`
-- need an event. A script imports no list, and serves no clients.
abbrev pub Acts : Option DeskState → Action → LineAnswer → Option DeskState → Type 0
Acts old (Init name rounds cut) answer new = (told : Answer) × SetsUp old name rounds cut told new × (answer ≡ Asked told)
Acts old (Open (Import list)) answer new = (answer ≡ Usage) × (new ≡ old)
Acts None (Open (Ask question)) answer new = (answer ≡ Asked (Refused NoEvent)) × (new ≡ None)
Acts (Some old) (Open (Ask question)) answer new =
    (told : Answer) × (next : DeskState) × AnswersDesk ⊤ old question told next × (answer ≡ Asked told) × (new ≡ Some next)
Acts old (Open (Serve port count)) answer new = (answer ≡ Usage) × (new ≡ old)

-- The answer to a line. Memory may run out as it is read.
abbrev pub LineAnswers : Option DeskState → Option Action → LineAnswer → Option DeskState → Type 0
LineAnswers old None answer new = ((answer ≡ Usage) ⊎ (answer ≡ Asked (Refused Memory))) × (new ≡ old)
LineAnswers old (Some action) answer new = Acts old action answer new ⊎ ((answer ≡ Asked (Refused Memory)) × (new ≡ old))

-- the answers to these lines, in order
abbrev pub RunsLines : Option DeskState → List (List ℕ) → List LineAnswer → Option DeskState → Type 0
RunsLines old [] [] new = new ≡ old
RunsLines old (line ∷ lines) (answer ∷ answers) new =
    (next : Option DeskState) × LineAnswers old (script_action line) answer next × RunsLines next lines answers new
RunsLines old [] (answer ∷ answers) new = ⊥
RunsLines old (line ∷ lines) [] new = ⊥

-- what a writer held, and holds when the answers to the lines are printed
pub record Prints (lines : List (List ℕ)) (before after : Option (List ℕ)) : Type 0 where
  pub answers : List LineAnswer
  pub last : Option DeskState
  pub runs : RunsLines None lines answers last
  pub printed : Appends before after (flat_map answer_text answers)

-- what a writer holds if a write failed: the answers to the first lines, of which the last may be cut
pub record PrintsPart (lines : List (List ℕ)) (before after : Option (List ℕ)) : Type 0 where
  pub count : ℕ
  pub answers : List LineAnswer
  pub last : Option DeskState
  pub runs : RunsLines None (take count lines) answers last
  pub printed : AppendsPart before after (flat_map answer_text answers)
