-- The command that was in doubt when a session was stopped, sent again in the next one.
use Rattle.std.specs.Prelude.{◌≡◌, ◌⊎◌, ℕ, List, Some, Result, Ok, Err}
use Rattle.sqlite.specs.Tree.{Trees}
use Rattle.er_event.specs.declared.commands.Command.{Command}
use Rattle.er_event.specs.declared.refusals.Refusal.{Refusal}
use Rattle.er_event.specs.Event.{EventValue}
use Rattle.er_rules.specs.Retry.{IsCorrection, IsRetryRefusal}
use Rattle.er_rules.specs.Step.{Steps}
use Rattle.er_desk.specs.Desk.{Point}
use Rattle.er_desk.specs.Run.{Session}
use Rattle.er_desk.specs.History.{Ended}
use Rattle.er_desk.specs.Headline.{NextBegins}

-- It was stored: it is refused as one that was taken once. So a score is answered with the score that the match has.
abbrev pub IsFoundStored : EventValue → Command → Type 0
IsFoundStored event command =
    (result : Result EventValue Refusal) → Steps event command result → (why : Refusal) × (result ≡ Err why) × IsRetryRefusal command why

-- It was not: it is taken.
abbrev pub IsFoundNew : EventValue → Command → Type 0
IsFoundNew event command = (next : EventValue) × Steps event command (Ok next)

-- Where the next session begins, the command in doubt is found stored or new. A correction that was stored is taken once more, and gives
-- the same event.
abbrev pub DoubtsAreAnswered : Type 0
DoubtsAreAnswered =
    (new : Point) (ends : List Ended) (session : Session) (version : ℕ) (trees : Trees) (next : NextBegins new ends session version trees)
    (doubt : Command) → session.in_doubt ≡ Some doubt → (IsCorrection doubt → ⊥)
    → IsFoundStored next.last.event doubt ⊎ IsFoundNew next.last.event doubt
