use Rattle.er_event.proofs.Prelude.{complete_results, totals_of, rounds_with_score, Round, [], arith, ap, get_or, get_or_default, length}
use Rattle.er_event.proofs.Prelude.{take, ◌+◌, ◌<◌, ◌∙◌, ◌≡◌}
use Rattle.er_event.proofs.{PlayedLemmas.results-more, TotalLemmas.rescored-length}
use Rattle.er_event.specs.{Totals.plus, declared.totals.Totals.Totals}
use Rattle.er_event.proofs.totals.all.played_with.Goals as goal

pub loop-at-preserved : goal.loop-at-preserved
loop-at-preserved c =
    let new = c.args.new.now in
    let rounds = rounds_with_score c.args.rounds.now new.place new.table new.score in
    let i = c.loop-at.at in
    let r : Round = get_or rounds i (record { matches = [] }) in
    let size = rescored-length c.args.rounds.now new.place new.table new.score in
    let below : i < length rounds = omega (arith, size, c.loop-at-test.true) in
    let is : r ≡ get_or rounds i r = get_or_default rounds i (record { matches = [] }) r below in
    let n = 1 + length (take i rounds) in
    record {
      played = λ player low within. c.count_at.ensures.value r is n player low (omega arith)
          ∙ (ap (λ (t : Totals). plus t (totals_of (complete_results player (n, r))))
          (c.loop-at.invariant.played player low (omega arith))
          ∙ results-more player rounds i r below is);
      over = λ k d below. c.count_at.ensures.over i c.loop-at.invariant.over k d below;
      long = omega arith;
    }
