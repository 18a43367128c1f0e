use Rattle.er_event.proofs.Prelude.{names, Player, AllPairs, List, arith, refl, subst, ◌≢◌, common_steps, take_all}
use Rattle.er_event.proofs.PartsLemmas.{names-more, names-new}
use Rattle.er_event.proofs.players.are_distinct.Goals as goal

pub returns-then-has_name : goal.returns-then-has_name
returns-then-has_name c = grind (arith, common_steps, names-new)

pub loop-place-preserved : goal.loop-place-preserved
loop-place-preserved c = grind (arith, common_steps, names-more)

pub returns : goal.returns
returns c =
    let whole = take_all c.loop-place.place c.args.players.now c.loop-place-test.false in
    (λ _. subst (λ (ps : List Player). AllPairs (λ a b. a ≢ b) (names ps)) whole c.loop-place.invariant, λ _. refl)
