use Rattle.er_store.proofs.Prelude.{nat_lt, is_swapped, ◌≡◌, ◌∙◌, sym, ap, Some, true, false, arith, nat_tests, none-some, same_Some, Match}
use Rattle.er_store.proofs.Prelude.{match_of_slip}
use Rattle.er_store.proofs.{SlipLemmas.{match_row, low_of, high_of, named_first, same_slip, reads_slip}, slips.slip_of.Goals.then-played}
use Rattle.er_store.proofs.slips.slip_of.Goals.{else-played}
use Rattle.er_store.proofs.slips.slip_of.Goals as goal

pub returns-in_err-played-clause-exact : goal.returns-in_err-played-clause-exact
returns-in_err-played-clause-exact c slip lawful round table is =
    let it = match_row slip c.args.round c.args.table c.args.row.now lawful round table is in
    absurd (none-some (match_of_slip slip) (sym c.in_err-played.was ∙ c.match_at_table.ensures.exact (match_of_slip slip) it.0 it.1))

pub returns-in_err-low-clause-exact : goal.returns-in_err-low-clause-exact
returns-in_err-low-clause-exact c slip lawful round table is =
    let low = (reads_slip lawful round table is c.in_ok-played.was c.match_at_table.ensures.exact).low in
    absurd (none-some (low_of slip)
    (sym c.in_err-low.was ∙ c.side.ensures.exact (low_of slip) low.player (c.min.ensures ∙ low.number_is) low.name_is))

pub returns-in_err-high-clause-exact : goal.returns-in_err-high-clause-exact
returns-in_err-high-clause-exact c slip lawful round table is =
    let high = (reads_slip lawful round table is c.in_ok-played.was c.match_at_table.ensures.exact).high in
    absurd (none-some (high_of slip)
    (sym c.in_err-high.was ∙ c.side-2.ensures.exact (high_of slip) high.player (c.max.ensures ∙ high.number_is) high.name_is))

pub returns-clause-exact : goal.returns-clause-exact
returns-clause-exact c slip lawful round table is =
    let played = c.in_ok-played.played in
    let it = reads_slip lawful round table is c.in_ok-played.was c.match_at_table.ensures.exact in
    let low_is = same_Some c.in_ok-low.low (low_of slip)
    (sym c.in_ok-low.was ∙ c.side.ensures.exact (low_of slip) it.low.player (c.min.ensures ∙ it.low.number_is) it.low.name_is) in
    let high_is = same_Some c.in_ok-high.high (high_of slip)
    (sym c.in_ok-high.was ∙ c.side-2.ensures.exact (high_of slip) it.high.player (c.max.ensures ∙ it.high.number_is) it.high.name_is) in
    let order : is_swapped slip ≡ nat_lt played.b played.a = ap (λ (n : Match). nat_lt n.b n.a) (sym it.is) in
    let named : (c.if-played.first.0 ≡ Some slip.first) × (c.if-played.first.1 ≡ slip.second) = elim c.if-played.branch [
      | then-played w ↦ (let lower = w.if-played.true in let is : nat_lt played.b played.a ≡ true = grind (arith, nat_tests) in
          named_first slip true _ _ c.if-played.first (order ∙ is) low_is high_is w.first-is)
      | else-played w ↦ (let lower = w.if-played.false in let is : nat_lt played.b played.a ≡ false = grind (arith, nat_tests) in
          named_first slip false _ _ c.if-played.first (order ∙ is) low_is high_is w.first-is)
    ] in
    ap Some (same_slip slip c.args.round c.args.table c.if-played.first c.in_ok-first.field-0 played round table it.is c.in_ok-first.was
    named)
