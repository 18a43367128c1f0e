use Rattle.er_store.proofs.Prelude.{◌≤◌, length, List, ap, subst, sym, ◌∙◌, arith, Match}
use Rattle.er_store.proofs.Sizes.{sound_few}
use Rattle.er_store.proofs.transactions.next_number.Goals as goal

few : (c : goal.After-as_slice) → length c.as_slice.result.now ≤ 3
few c =
    let is = c.as_slice.ensures ∙ ap (λ b. b.stages) c.bracket.ensures.value in
    subst (λ (ss : List (List Match)). length ss ≤ 3) (sym is) (sound_few c.args.event.now c.bracket.ensures.sound)

pub overflow_cast-result : goal.overflow_cast-result
overflow_cast-result c = let low = few c in omega (arith, low)

pub overflow_add-result : goal.overflow_add-result
overflow_add-result c = let low = few c in omega (arith, low)
