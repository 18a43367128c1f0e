use Rattle.std.proofs.{lemmas.Grind.common_steps, Common.{◌≡◌, ◌∷◌, [], length, sym, ◌∙◌, arith}}
use Rattle.er_pair.specs.inside.Search.{free_ahead}
use Rattle.er_pair.proofs.Trying.{two_ahead, none_of_two, one_of_two, last_met, last_without_step, last_new}
use Rattle.er_pair.proofs.search.last_pair.Goals.{In-Some-next}
use Rattle.er_pair.proofs.search.last_pair.Goals as goal

two : (c : In-Some-next) → free_ahead c.args.used.now c.args.ahead (length c.args.rows.now) ≡ c.in-Some.first ∷ c.in-Some-next.partner ∷ []
two c = two_ahead c.args.used.now c.args.ahead c.next.new.self c.next-2.new.self c.in-Some.first c.in-Some-next.partner
    (length c.args.rows.now) c.requires.two c.in-Some.ensures.found c.in-Some-next.ensures.found

pub returns-in_default : goal.returns-in_default
returns-in_default c = absurd (none_of_two c.args.used.now c.args.ahead (length c.args.rows.now) c.requires.two c.in_default.ensures.found)

pub returns-in_default-next : goal.returns-in_default-next
returns-in_default-next c =
    absurd (one_of_two c.args.used.now c.args.ahead c.next.new.self c.in-Some.first (length c.args.rows.now) c.requires.two
    c.in-Some.ensures.found c.in_default-next.ensures.found)

pub returns-then-has : goal.returns-then-has
returns-then-has c = record {
  answer = last_met c.args.rows.now _ c.in-Some.first c.in-Some-next.partner c.args.steps.now
      (two (goal.at.returns-then-has c).In-Some-next) c.args.pairs.now (sym c.has.ensures ∙ c.if-has.true);
}

pub returns-then-steps-eq0 : goal.returns-then-steps-eq0
returns-then-steps-eq0 c = grind (arith, common_steps, In-Some-next, last_without_step, two)

pub returns : goal.returns
returns c = record {
  answer = last_new c.args.rows.now _ c.in-Some.first c.in-Some-next.partner c.args.steps.now (two (goal.at.returns c).In-Some-next)
      c.args.pairs.now (sym c.has.ensures ∙ c.if-has.false) (omega arith) c.requires.one;
}
