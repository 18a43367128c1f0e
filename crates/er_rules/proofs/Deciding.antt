-- The answer to those who ask for a pairing.
use Rattle.std.proofs.Common.{arith, ◌≡◌, ◌⊎◌, ◌↔◌, inl, inr, ℕ, Bool, List, None, Result, Ok, Err, IsErrAnd, refl, sym, ap, ◌∙◌}
use Rattle.std.proofs.lemmas.Grind.{common_steps}
use Rattle.er_event.specs.{declared.commands.Command.TheVariants.Pair, Event.EventValue, Change.with_round}
use Rattle.er_pair.specs.{declared.pairings.PairFault.PairFault, declared.pairings.PairFault.TheVariants.{NoPairing, Budget, Memory}}
use Rattle.er_pair.specs.{declared.pairings.TheConstants.MAX_STEPS, Fault.pair_refusal, Met.have_met, Order.{seed_words, IsOrder}}
use Rattle.er_pair.specs.{Pairing.IsLegal, Steps.NeedsMore}
use Rattle.er_event.specs.Round.{tables_of}
use Rattle.er_rules.specs.{Commands.{first_refusal, pair_checks}, Step.{Steps, NeedsMoreSteps, Answers}}
use Rattle.er_rules.proofs.Rounds.{IsPairing}
use Rattle.er_event.specs.declared.refusals.Refusal.TheVariants as refusal
use Rattle.er_pair.specs.Pairing as pairing

pub err_is : {T F : Type 0} (r : Result T F) (x : F) → IsErrAnd r (λ y. y ≡ x) → r ≡ Err x
err_is h1 x h = grind (arith, common_steps)

-- memory didn't last, or the search has too few steps exactly if the order needs more
abbrev pub IsExact : {T : Type 0} → (ℕ → ℕ → Bool) → List ℕ → Result T PairFault → Type 0
IsExact met order found = (found ≡ Err Memory) ⊎ ((found ≡ Err (Budget MAX_STEPS)) ↔ NeedsMore met order MAX_STEPS)

module _ (e : EventValue) (round : ℕ) (seed : List ℕ) (free : first_refusal (pair_checks e round) ≡ None) (order : List ℕ)
    (ordered : IsOrder e (seed_words seed) order)
    (one : (key : ℕ → ℕ) (a b : List ℕ) → IsOrder e key a → IsOrder e key b → a ≡ b) where
  none_steps : ((pairs : List pairing.Pair) → IsLegal (have_met e) order pairs → ⊥) → Steps e (Pair round seed) (Err refusal.NoPairing)
  none_steps none = rw free (order, ordered, (refl, none))

  steps : (ps : List pairing.Pair) → IsPairing (have_met e) order ps → Steps e (Pair round seed) (Ok (with_round e (tables_of ps)))
  steps ps it = rw free (order, ordered, (it.pairs, it.earliest, ap (with_round e) (ap tables_of it.are)))

  needs_more : NeedsMoreSteps e (Pair round seed) → NeedsMore (have_met e) order MAX_STEPS
  needs_more needs = rw (one (seed_words seed) needs.1 order needs.2 ordered) at needs.3

  module _ {T : Type 0} (found : Result T PairFault) (exact : IsExact (have_met e) order found) where
    -- another answer than the budget's tells that the steps suffice
    enough : (found ≡ Err Memory → ⊥) → (found ≡ Err (Budget MAX_STEPS) → ⊥) → NeedsMoreSteps e (Pair round seed) → ⊥
    enough lasts within needs = elim exact [ inl memory ↦ lasts memory | inr iff ↦ within (iff.1 (needs_more needs)) ]

    pub refused_by : (fault : PairFault) → found ≡ Err fault
        → (found ≡ Err NoPairing → (pairs : List pairing.Pair) → IsLegal (have_met e) order pairs → ⊥)
        → ((steps : ℕ) → found ≡ Err (Budget steps) → steps ≡ 1000000)
        → (pair_refusal fault ≡ refusal.Memory) ⊎ Answers e (Pair round seed) (Err (pair_refusal fault))
    refused_by NoPairing is none count =
        inr (inl (none_steps (none is), enough (λ h. let never = sym is ∙ h in cc) (λ h. let never = sym is ∙ h in cc)))
    refused_by (Budget n) is none count = grind (arith, common_steps)
    refused_by Memory is none count = inl refl

    pub taken_by : (pairs : T) → found ≡ Ok pairs → (ps : List pairing.Pair) → IsPairing (have_met e) order ps
        → Answers e (Pair round seed) (Ok (with_round e (tables_of ps)))
    taken_by pairs is ps it = inl (steps ps it, enough (λ h. let never = sym is ∙ h in cc) (λ h. let never = sym is ∙ h in cc))
