-- `Budget` isn't a refusal of the step: it says that the search for a pairing has too few steps.
use Rattle.std.proofs.Common.{arith, ◌≡◌, ℕ, Bool, true, false, List, [], ◌∷◌, ◌++◌, Option, Some, None, Result, Ok, Err}
use Rattle.std.proofs.{Common.{refl, subst}, lemmas.Grind.common_steps, lemmas.Option.{none-some, same_Some}}
use Rattle.er_event.specs.{declared.scores.Games.Games, declared.matches.Match.Match, declared.commands.Command.Command}
use Rattle.er_event.specs.declared.commands.Command.TheVariants.{Enrol, Start, Pair, Correct, Drop, Cut}
use Rattle.er_event.specs.{declared.refusals.Refusal.Refusal, declared.refusals.Refusal.TheVariants.Budget, Event.EventValue}
use Rattle.er_event.specs.{Round.match_at, Bracket.slot_at}
use Rattle.er_rules.specs.Commands.{Check, first_refusal, checks_at, already_reported}
use Rattle.er_rules.specs.Step.{Answers, Steps, StepsBy, NeedsMoreSteps, checks}
use Rattle.er_event.specs.declared.commands.Command.TheVariants.{Enrol, Start, Pair, Result as ReportResult, Correct, Drop, Cut}
use Rattle.er_event.specs.declared.commands.Command.TheVariants.{Playoff as PlayOff}

abbrev is_budget : Refusal → Bool
is_budget (Budget steps) = true
is_budget _ = false

abbrev NoBudget : List Check → Type 0
NoBudget [] = Unit {0}
NoBudget (c ∷ cs) = (is_budget c.1 ≡ false) × NoBudget cs

first_of : (cs : List Check) (why : Refusal) → NoBudget cs → first_refusal cs ≡ Some why → is_budget why ≡ false
first_of [] why all is = absurd (none-some why is)
first_of ((true, w) ∷ cs) why all is = subst (λ (x : Refusal). is_budget x ≡ false) (same_Some w why is) all.0
first_of ((false, w) ∷ cs) why all is = first_of cs why all.1 is

scored_already : (score : Option Games) (rest : List Check) → NoBudget rest → NoBudget (already_reported score ++ rest)
scored_already h1 rest all = grind (arith, common_steps)

at_match : (m : Option Match) (more : Match → List Check) → ((x : Match) → NoBudget (more x)) → NoBudget (checks_at m more)
at_match h1 more all = grind (arith, common_steps)

no_check : (e : EventValue) (c : Command) → NoBudget (checks e c)
no_check e (Enrol name) = (refl, (refl, (refl, (refl, (refl, tt)))))
no_check e Start = (refl, (refl, tt))
no_check e (Pair round seed) = (refl, (refl, (refl, (refl, (refl, tt)))))
no_check e (ReportResult round table score) = (refl, at_match (match_at e round table) _ (λ m. (refl, scored_already m.score _ (refl, tt))))
no_check e (Correct round table score) = (refl, at_match (match_at e round table) _ (λ m. (refl, (refl, (refl, tt)))))
no_check e (Drop player) = grind (arith, common_steps)
no_check e Cut = (refl, (refl, (refl, (refl, tt))))
no_check e (PlayOff stage slot score) = (refl, at_match (slot_at e stage slot) _ (λ m. scored_already m.score _ (refl, tt)))

not_made : (why : Refusal) (next : EventValue) → ◌≡◌ {A = Result EventValue Refusal} (Err why) (Ok next) → ⊥
not_made why next is = cc

same_Err : (why w : Refusal) → ◌≡◌ {A = Result EventValue Refusal} (Err why) (Err w) → w ≡ why
same_Err why w is = cc

no_step : (e : EventValue) (c : Command) (why : Refusal) → Steps e c (Err why) → is_budget why ≡ false
no_step e c why steps = by_check (first_refusal (checks e c)) refl steps
  where
    by_check : (o : Option Refusal) → first_refusal (checks e c) ≡ o → StepsBy o e c (Err why) → is_budget why ≡ false
    by_check None is made = grind (arith, common_steps)
    by_check (Some w) is refuses = subst (λ (x : Refusal). is_budget x ≡ false) (same_Err why w refuses)
        (first_of (checks e c) w (no_check e c) is)

pub budget_searches : (e : EventValue) (c : Command) (steps : ℕ) → Answers e c (Err (Budget steps)) → NeedsMoreSteps e c
budget_searches e c steps h1 = grind (arith, common_steps, no_step)
