use Rattle.er_event.proofs.Prelude.{complete_results, totals_of, arith, ap, length, take, ◌+◌, ◌∙◌}
use Rattle.er_event.proofs.PlayedLemmas.{results-more}
use Rattle.er_event.specs.{Totals.plus, declared.totals.Totals.Totals}
use Rattle.er_event.proofs.totals.all.played_in.Goals as goal

pub loop-round-preserved : goal.loop-round-preserved
loop-round-preserved c =
    let rounds = c.args.rounds.now in
    let i = c.loop-round.round-index in
    let r = c.round-item.result in
    let n = 1 + length (take i rounds) in
    record {
      played = λ player low within.
          let more = rw c.as_slice.ensures at (c.count_round.ensures.value n player low (omega arith)) in
          let before = c.loop-round.invariant.played player low (omega arith) in
          let now = results-more player rounds i r c.loop-round-test.true c.round-item.is in
          more ∙ (ap (λ (t : Totals). plus t (totals_of (complete_results player (n, r)))) before ∙ now);
      over = λ k d below. c.count_round.ensures.over i c.loop-round.invariant.over k d below;
      long = omega arith;
    }
