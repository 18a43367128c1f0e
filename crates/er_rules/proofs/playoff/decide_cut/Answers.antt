use Rattle.std.proofs.{Common.{arith, ◌∙◌}, lemmas.Grind.common_steps}
use Rattle.er_rank.specs.Standings.{IsTop}
use Rattle.er_rules.proofs.{Seeding.{top_length, top_opens, begins}, Opening.{IsCut, is_cut}, playoff.decide_cut.Goals.After-as_slice}
use Rattle.er_rules.proofs.playoff.decide_cut.Goals as goal

-- the first players of the standings
top : (c : After-as_slice) → IsTop c.args.event.now c.args.event.now.cut c.in_ok-seeds.seeds.items
top c = rw (c.from.ensures ∙ c.cut.ensures.value) at c.in_ok-seeds.ensures.value

cut : (c : After-as_slice) → IsCut c.args.event.now.cut
cut c = is_cut c.args.event.now.cut c.check_cut.ensures.sound.set_up.cut c.in_ok-check_cut.ensures.cut

pub first_stage-requires : goal.first_stage-requires
first_stage-requires c = grind (arith, common_steps, After-as_slice, cut, top, top_length)

pub returns-clause-taken : goal.returns-clause-taken
returns-clause-taken c = grind (arith, common_steps, After-as_slice, begins, cut, top, top_opens)
