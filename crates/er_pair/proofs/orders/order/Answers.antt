use Rattle.std.proofs.{Common.{ℕ, Vec, Global, get_or, refl, arith}, lemmas.Grind.common_steps, lemmas.Result.IfOk-weaker}
use Rattle.er_pair.proofs.Ordering.{ordered, few, stands_once}
use Rattle.er_pair.proofs.orders.order.Goals as goal

pub returns : goal.returns
returns c =
    let event = c.args.event.now in
    let keys = c.args.keys.now in
    let sorted = c.sort_entrants.new.entrants in
    let sound = c.entrants.ensures.sound in
    let moved = rw (c.as_mut_slice-list.ensures.value, c.in_ok-entrants.ensures.entrants) at c.sort_entrants.ensures.same in
    let own : ℕ → ℕ = λ place. get_or keys place 0 in
    let is = λ (seats : Vec ℕ Global). ordered event keys sorted seats.items sound c.requires moved c.sort_entrants.ensures.sorted in
    record {
      ordered = IfOk-weaker _ _ _ (λ (seats : Vec ℕ Global) seated. is seats seated) c.seats.ensures;
      distinct = IfOk-weaker _ _ _
          (λ (seats : Vec ℕ Global) seated. stands_once event own seats.items sound (is seats seated own (λ _ _. refl))) c.seats.ensures;
      few = IfOk-weaker _ _ _
          (λ (seats : Vec ℕ Global) seated. few event own seats.items sound (is seats seated own (λ _ _. refl))) c.seats.ensures;
      even = grind (arith, common_steps);
    }
