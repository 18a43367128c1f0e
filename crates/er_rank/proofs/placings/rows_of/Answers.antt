use Rattle.std.proofs.Common.{◌≡◌, ◌++◌, ◌∷◌, [], sym, ap, ◌∙◌, arith}
use Rattle.er_rank.specs.inside.Placing.{rank_in, row_of}
use Rattle.er_rank.proofs.PlacingLemmas.{row_in, map-pushed, rank-at_first, rank-at_next, rank-at_level, rank-kept}
use Rattle.er_rank.proofs.placings.rows_of.Goals.{then-above-gt0+then-not-is_level_with, else-above-gt0}
use Rattle.er_rank.proofs.placings.rows_of.Goals.{else-above-gt0-via-then-above-gt0+else-not-is_level_with}
use Rattle.er_rank.proofs.placings.rows_of.Goals.{else-above-gt0-via-else-above-gt0}
use Rattle.er_rank.proofs.placings.rows_of.Goals as goal

pub loop-above-preserved : goal.loop-above-preserved
loop-above-preserved c =
    let placings = c.args.placings.now in
    let at = c.loop-above.above in
    let here = c.index-placings-above.result in
    let is = c.index-placings-above.is in
    let rank : c.if-above-gt0.rank ≡ rank_in placings here =
    elim c.if-above-gt0.branch [
      | then-above-gt0+then-not-is_level_with w ↦
          let last = w.index-placings-above-then-above-gt0 in
          let differ = sym w.is_level_with.ensures ∙ w.if-not-is_level_with.true in
          rank-at_next placings c.requires.sorted at here c.loop-above-test.true is last.result c.if-above-gt0.rank w.if-above-gt0.true
          last.is differ w.rank-is
      | else-above-gt0 w ↦ elim w.else-above-gt0.branch [
        | else-above-gt0-via-then-above-gt0+else-not-is_level_with v ↦
            let last = v.index-placings-above-then-above-gt0 in
            let level = sym v.is_level_with.ensures ∙ v.if-not-is_level_with.false in
            rank-at_level placings at here last.result c.if-above-gt0.rank last.is level
            (w.rank-is ∙ c.loop-above.invariant.last last.result v.if-above-gt0.true)
        | else-above-gt0-via-else-above-gt0 v ↦
            let first : at ≡ 0 = omega (arith, v.if-above-gt0.false) in
            rank-at_first placings c.requires.sorted at here c.loop-above-test.true is c.if-above-gt0.rank first
            (w.rank-is ∙ c.loop-above.invariant.first first)
      ]
    ] in
    let pushed = c.in_ok-push.ensures.items ∙ ap (λ r. c.loop-above.rows.items ++ r ∷ []) c.row.ensures in
    record {
      rows = map-pushed (row_in placings) placings at here c.loop-above.rows.items c.push.new.self.items _ c.loop-above-test.true is
          c.loop-above.invariant.rows (ap (λ r. row_of r here) rank) pushed;
      first = λ none. absurd (omega arith);
      last = λ d some. rank-kept placings c.requires.sorted at here c.loop-above-test.true is d c.if-above-gt0.rank rank;
    }
