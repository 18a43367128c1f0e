-- What a command does to an event: it is taken, or refused by the first check that fails.
use Rattle.std.specs.Prelude.{◌≡◌, ◌⊎◌, ℕ, List, [], ◌∷◌, ◌++◌, Option, Some, None, Result, Ok, Err}
use Rattle.er_event.specs.declared.scores.Games.{Games}
use Rattle.er_event.specs.declared.commands.Command.{Command}
use Rattle.er_event.specs.declared.commands.Command.TheVariants.{Enrol, Start, Pair, Result as ReportResult, Correct, Drop, Cut}
use Rattle.er_event.specs.declared.commands.Command.TheVariants.{Playoff as PlayOff}
use Rattle.er_event.specs.declared.refusals.Refusal.{Refusal}
use Rattle.er_event.specs.declared.refusals.Refusal.TheVariants.{NoPairing, Budget}
use Rattle.er_event.specs.declared.events.Phase.TheVariants.{Swiss, Playoff}
use Rattle.er_event.specs.declared.matches.Match.{Match}
use Rattle.er_event.specs.Event.{EventValue}
use Rattle.er_event.specs.Change.{with_player, with_dropped, with_phase, with_score, stage_of, scored_slot, with_bracket_score}
use Rattle.er_rank.specs.Standings.{IsTop}
use Rattle.er_event.specs.Bracket.{stage_after, is_over}
use Rattle.er_bracket.specs.Seeds.{first_stage}
use Rattle.er_pair.specs.Met.{have_met}
use Rattle.er_pair.specs.Order.{seed_words, IsOrder}
use Rattle.er_pair.specs.Pairing.{IsLegal, IsEarliest, round_of}
use Rattle.er_pair.specs.Pairing as pairing
use Rattle.er_pair.specs.Steps.{NeedsMore}
use Rattle.er_pair.specs.declared.pairings.TheConstants.{MAX_STEPS}
use Rattle.er_rules.specs.Commands.{first_refusal, enrol_checks, start_checks, pair_checks, result_checks, correct_checks, drop_checks}
use Rattle.er_rules.specs.Commands.{cut_checks, playoff_checks, Check}

-- ---- the events after

-- the stage with the score in this slot
abbrev pub scored_at : EventValue → ℕ → ℕ → Games → List Match
scored_at event stage slot score = scored_slot (stage_of event.bracket.stages stage) slot score

-- The score is stored. A stage that ends with it is followed by that of its winners, or the playoff is over.
abbrev pub with_stage_score : EventValue → ℕ → ℕ → Games → EventValue
with_stage_score event stage slot score =
    with_bracket_score event stage slot score
    (stage_after (scored_at event stage slot score)) (is_over (scored_at event stage slot score))

-- ---- the step

-- the earliest legal pairing is stored, or there is none
abbrev pub Pairs : EventValue → List ℕ → Result EventValue Refusal → Type 0
Pairs event order (Ok next) =
    (pairs : List pairing.Pair) × IsEarliest (have_met event) order pairs
    × (next ≡ record event { stored = event.stored ++ record { matches = round_of order pairs } ∷ [] })
Pairs event order (Err why) = (why ≡ NoPairing) × ((pairs : List pairing.Pair) → IsLegal (have_met event) order pairs → ⊥)

-- what becomes of the event, if no check fails
abbrev pub Makes : EventValue → Command → Result EventValue Refusal → Type 0
Makes event (Enrol name) result = result ≡ Ok (with_player event name)
Makes event Start result = result ≡ Ok (with_phase event Swiss)
Makes event (Pair round seed) result = (order : List ℕ) × IsOrder event (seed_words seed) order × Pairs event order result
Makes event (ReportResult round table score) result = result ≡ Ok (with_score event round table score)
Makes event (Correct round table score) result = result ≡ Ok (with_score event round table score)
Makes event (Drop player) result = result ≡ Ok (with_dropped event player)
Makes event Cut result =
    (seeds : List ℕ) × IsTop event event.cut seeds
    × (result ≡ Ok (record event { phase = Playoff; bracket = record { stages = first_stage seeds ∷ [] } }))
Makes event (PlayOff stage slot score) result = result ≡ Ok (with_stage_score event stage slot score)

-- the checks of a command on an event, in their order
abbrev pub checks : EventValue → Command → List Check
checks event (Enrol name) = enrol_checks event name
checks event Start = start_checks event
checks event (Pair round seed) = pair_checks event round
checks event (ReportResult round table score) = result_checks event round table score
checks event (Correct round table score) = correct_checks event round table score
checks event (Drop player) = drop_checks event player
checks event Cut = cut_checks event
checks event (PlayOff stage slot score) = playoff_checks event stage slot score

-- no check fails, and the command is done, or a check fails, and its refusal is the answer
abbrev pub StepsBy : Option Refusal → EventValue → Command → Result EventValue Refusal → Type 0
StepsBy None event command result = Makes event command result
StepsBy (Some why) event command result = result ≡ Err why

-- the step of the machine
abbrev pub Steps : EventValue → Command → Result EventValue Refusal → Type 0
Steps event command result = StepsBy (first_refusal (checks event command)) event command result

-- no check fails, and the search for the round's pairing needs more steps than it may make
abbrev pub NeedsMoreSteps : EventValue → Command → Type 0
NeedsMoreSteps event (Pair round seed) =
    (first_refusal (pair_checks event round) ≡ None) × (order : List ℕ) × IsOrder event (seed_words seed) order
    × NeedsMore (have_met event) order MAX_STEPS
NeedsMoreSteps event command = ⊥

-- the answer to a command, if memory lasts: the step, unless the search that it asks for has too few steps
abbrev pub Answers : EventValue → Command → Result EventValue Refusal → Type 0
Answers event command result =
    (Steps event command result × (NeedsMoreSteps event command → ⊥))
    ⊎ ((result ≡ Err (Budget MAX_STEPS)) × NeedsMoreSteps event command)
