-- A command does one thing to a sound event.
use Rattle.std.proofs.Common.{◌≡◌, ℕ, List, [], ◌∷◌, ◌++◌, Option, Some, None, Result, Ok, Err, sym, ap, subst, ◌∙◌}
use Rattle.er_event.specs.{declared.commands.Command.Command, declared.commands.Command.TheVariants.{Pair, Cut}}
use Rattle.er_event.specs.{declared.refusals.Refusal.Refusal, declared.events.Phase.TheVariants.Playoff, Event.EventValue}
use Rattle.er_event.specs.Sound.{IsSoundButForSeeds}
use Rattle.er_rank.specs.Standings.{HasOneTop}
use Rattle.er_bracket.specs.Seeds.{first_stage}
use Rattle.er_pair.specs.{Met.have_met, Order.seed_words, Pairing.round_of, Laws.{OneOrder, OneEarliest}}
use Rattle.er_rules.specs.{Commands.first_refusal, Step.{Pairs, Makes, StepsBy, Steps, checks}}
use Rattle.er_pair.specs.Pairing as pairing

module _ (one_order : OneOrder) (one_earliest : OneEarliest) (one_top : HasOneTop) (e : EventValue) (sound : IsSoundButForSeeds e) where
  pairs_once : (order : List ℕ) (one other : Result EventValue Refusal) → Pairs e order one → Pairs e order other → one ≡ other
  pairs_once order (Ok a) (Ok b) p q =
      let next : List pairing.Pair → EventValue = λ ps. record e { stored = e.stored ++ record { matches = round_of order ps } ∷ [] } in
      ap Ok (p.2 ∙ (ap next (one_earliest (have_met e) order p.0 q.0 p.1 q.1) ∙ sym q.2))
  pairs_once order (Ok a) (Err w) p q = absurd (q.1 p.0 p.1.legal)
  pairs_once order (Err v) (Ok b) p q = absurd (p.1 q.0 q.1.legal)
  pairs_once order (Err v) (Err w) p q = ap Err (p.0 ∙ sym q.0)

  made_once : (c : Command) (one other : Result EventValue Refusal) → Makes e c one → Makes e c other → one ≡ other
  made_once (Pair round seed) one other p q =
      let same = one_order e (seed_words seed) p.0 q.0 p.1 q.1 in
      pairs_once q.0 one other (subst (λ (order : List ℕ). Pairs e order one) same p.2) q.2
  made_once Cut one other p q =
      let same = one_top e e.cut q.0 sound q.1 p.0 p.1 in
      let begun : List ℕ → Result EventValue Refusal = λ seeds.
      Ok (record e { phase = Playoff; bracket = record { stages = first_stage seeds ∷ [] } }) in
      p.2 ∙ (ap begun same ∙ sym q.2)
  made_once c one other p q = p ∙ sym q

  pub steps_once : (c : Command) (one other : Result EventValue Refusal) → Steps e c one → Steps e c other → one ≡ other
  steps_once c one other p q = by_check (first_refusal (checks e c)) p q
    where
      by_check : (o : Option Refusal) → StepsBy o e c one → StepsBy o e c other → one ≡ other
      by_check None a b = made_once c one other a b
      by_check (Some why) a b = a ∙ sym b
