use Rattle.er_event.proofs.Prelude.{arith, sym, ◌∙◌, nat_tests, common_steps}
use Rattle.er_event.proofs.RoundLemmas.{is_round, round_last, round_lawful}
use Rattle.er_event.proofs.rounds.is_round.Goals as goal

pub returns-then-is_empty : goal.returns-then-is_empty
returns-then-is_empty c = grind (arith, common_steps, nat_tests, round_lawful)

pub returns : goal.returns
returns c =
    let ms = c.args.matches.now in (
      λ last. is_round c.args.count ms (sym c.is_empty.ensures ∙ c.if-is_empty.false) (sym c.are_lawful.ensures ∙ c.if-not-are_lawful.false)
          (c.are_seated_once.ensures.0 c.if-not-are_seated_once.false) (sym c.is_bye_last.ensures ∙ last),
      λ round. c.is_bye_last.ensures ∙ round_last c.args.count ms round,
    )
