-- A score that is handed in again.
use Rattle.std.specs.Prelude.{◌≡◌, ◌⊎◌, ℕ, List, Option, Some, Ok}
use Rattle.er_event.specs.declared.commands.Command.{Command}
use Rattle.er_event.specs.declared.commands.Command.TheVariants.{Result as ReportResult}
use Rattle.er_event.specs.declared.refusals.Refusal.TheVariants.{AlreadyReported, NotSwiss}
use Rattle.er_event.specs.declared.scores.Games.{Games}
use Rattle.er_event.specs.declared.matches.Match.{Match}
use Rattle.er_event.specs.Event.{EventValue}
use Rattle.er_event.specs.Round.{match_at}
use Rattle.er_rules.specs.Step.{Steps}
use Rattle.er_rules.specs.Fold.{Folds}
use Rattle.er_slips.specs.declared.request.wanted.Request.TheVariants.{Report}
use Rattle.er_slips.specs.Response.{ResponseValue, refusal_response}
use Rattle.er_slips.specs.Request.{IsRequest}
use Rattle.er_slips.specs.Whole.{IsAnswer}

-- the match of this table is stored with this score
abbrev pub HasScore : EventValue → ℕ → ℕ → Games → Type 0
HasScore event round table score = (stored : Match) × (match_at event round table ≡ Some stored) × (stored.score ≡ Some score)

-- A score that was taken once, and is handed in again by the same input after any more commands, is answered with the
-- score that is stored then, or that the event is no longer in its Swiss rounds.
abbrev pub Retries : Type 0
Retries = (event next later : EventValue) (more : List Command) (round table : ℕ) (handed : Games)
    → Steps event (ReportResult round table handed) (Ok next) → Folds next more later
    → (serial : ℕ) (input : List ℕ) (answer : ResponseValue) (submits : Option Command)
    → IsRequest input (Ok (Report round table handed)) → IsAnswer later serial input answer submits
    → ((stored : Games) × HasScore later round table stored × (answer ≡ refusal_response (AlreadyReported stored)))
    ⊎ (answer ≡ refusal_response NotSwiss)
