use Rattle.er_event.proofs.Prelude.{Round, rounds_with_score, [], arith, get_or, length, ap, cond, rules, true, false, Bool, ℕ, ◌≤◌, ◌+◌}
use Rattle.er_event.proofs.Prelude.{◌<◌, ◌∙◌}
use Rattle.er_event.proofs.Prelude.{◌≡◌}
use Rattle.er_event.proofs.Prelude.{get_or_default}
use Rattle.er_event.proofs.{MissedLemmas.complete-more, TotalLemmas.rescored-length}
use Rattle.er_event.proofs.totals.complete_with.Goals as goal

at_most : (b : Bool) → cond b 1 0 ≤ 1
at_most true = omega arith
at_most false = omega arith

pub loop-at-preserved : goal.loop-at-preserved
loop-at-preserved c =
    let new = c.args.new.now in
    let rounds = rounds_with_score c.args.rounds.now new.place new.table new.score in
    let i = c.loop-at.at in
    let r : Round = get_or rounds i (record { matches = [] }) in
    let size = rescored-length c.args.rounds.now new.place new.table new.score in
    let below : i < length rounds = omega (arith, size, c.loop-at-test.true, c.requires.few) in
    let is : r ≡ get_or rounds i r = get_or_default rounds i (record { matches = [] }) r below in
    let counted = c.is_complete_at.ensures r is in
    let more = complete-more rounds i c.loop-at.count r c.is_complete_at.result below is counted c.loop-at.invariant.value in
    let from : c.from-count.result ≡ cond c.is_complete_at.result 1 0 = search (rules, c.from-count.ensures) in
    let one = at_most c.is_complete_at.result in
    let few = c.loop-at.invariant.few in
    record {
      value = ap (λ (n : ℕ). c.loop-at.count + n) from ∙ more;
      few = omega (arith, from, one, few);
    }
