-- A command that is sent again does nothing a second time.
use Rattle.std.specs.Prelude.{◌≡◌, ◌⊎◌, ℕ, IsTrue, List, Result, Ok, Err}
use Rattle.er_event.specs.declared.scores.Games.{Games}
use Rattle.er_event.specs.declared.commands.Command.{Command}
use Rattle.er_event.specs.declared.commands.Command.TheVariants.{Enrol, Start, Pair, Result as ReportResult, Correct, Drop, Cut}
use Rattle.er_event.specs.declared.commands.Command.TheVariants.{Playoff as PlayOff}
use Rattle.er_event.specs.declared.refusals.Refusal.{Refusal}
use Rattle.er_event.specs.declared.refusals.Refusal.TheVariants.{NameTaken, AllRoundsPaired, NotEnrolling, NotSwiss, WrongRound}
use Rattle.er_event.specs.declared.refusals.Refusal.TheVariants.{AlreadyReported}
use Rattle.er_event.specs.declared.refusals.Refusal.TheVariants.{AlreadyDropped, NotPlayoff}
use Rattle.er_event.specs.Event.{EventValue}
use Rattle.er_event.specs.Change.{has_name}
use Rattle.er_rules.specs.Step.{Steps}
use Rattle.er_rules.specs.Fold.{Folds}

-- how a command that was accepted once is refused later
abbrev pub IsRetryRefusal : Command → Refusal → Type 0
IsRetryRefusal (Enrol name) why = (why ≡ NameTaken) ⊎ (why ≡ AllRoundsPaired) ⊎ (why ≡ NotEnrolling)
IsRetryRefusal Start why = why ≡ NotEnrolling
IsRetryRefusal (Pair round seed) why = ((next : ℕ) × (why ≡ WrongRound next)) ⊎ (why ≡ NotSwiss)
IsRetryRefusal (ReportResult round table score) why = ((stored : Games) × (why ≡ AlreadyReported stored)) ⊎ (why ≡ NotSwiss)
IsRetryRefusal (Correct round table score) why = ⊥
IsRetryRefusal (Drop player) why = (why ≡ AlreadyDropped) ⊎ (why ≡ NotSwiss)
IsRetryRefusal Cut why = why ≡ NotSwiss
IsRetryRefusal (PlayOff stage slot score) why = ((stored : Games) × (why ≡ AlreadyReported stored)) ⊎ (why ≡ NotPlayoff)

abbrev pub IsCorrection : Command → Type 0
IsCorrection (Correct round table score) = Unit {0}
IsCorrection _ = ⊥

-- at every later point of a run the step refuses a command that it took once, and no correction
abbrev pub IsRefusedLater : Type 0
IsRefusedLater =
    (event next later : EventValue) (command : Command) (more : List Command) → Steps event command (Ok next)
    → (IsCorrection command → ⊥) → Folds next more later
    → (result : Result EventValue Refusal) → Steps later command result → (why : Refusal) × (result ≡ Err why) × IsRetryRefusal command why

-- a correction that is sent again at once is taken, and gives the same event
abbrev pub RepeatsCorrection : Type 0
RepeatsCorrection = (event next : EventValue) (round table : ℕ) (score : Games) → Steps event (Correct round table score) (Ok next)
    → Steps next (Correct round table score) (Ok next)

abbrev pub NoDoubleEffect : Type 0
NoDoubleEffect = IsRefusedLater × RepeatsCorrection

-- a name is enrolled once: at no later point of a run does the step take it again
abbrev pub NamesStay : Type 0
NamesStay = (event later next : EventValue) (name : List ℕ) (more : List Command) → IsTrue (has_name event.players name)
    → Folds event more later → Steps later (Enrol name) (Ok next) → ⊥
