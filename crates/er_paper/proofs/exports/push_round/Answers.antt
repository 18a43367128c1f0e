use Rattle.std.specs.List.{enumerate_from}
use Rattle.std.proofs.{lemmas.Grind.common_steps, Common.{◌++◌, flat_map, take, sym, ap, ◌∙◌, arith, append_assoc, ◌+◌}}
use Rattle.std.proofs.lemmas.List.{take_all}
use Rattle.er_paper.proofs.{PairingLemmas.lines-more, Rows.{result_row, rows-of-round}}
use Rattle.er_paper.specs.inside.Writer.{written_bytes}
use Rattle.er_paper.proofs.exports.push_round.Goals as goal

pub loop-place-preserved : goal.loop-place-preserved
loop-place-preserved c =
    let row = result_row c.args.round in
    let place = c.loop-place.place in
    let matches = c.args.matches.now in
    let m = c.index-matches-place.result in
    let before = written_bytes c.args.table.now in
    let rows = flat_map row (enumerate_from 1 (take place matches)) in
    record {
      plain = c.in_ok-push_result.ensures.plain;
      text = c.in_ok-push_result.ensures.text
          ∙ (ap (λ t. t ++ row (1 + place, m)) c.loop-place.invariant.text
          ∙ (append_assoc before rows (row (1 + place, m))
          ∙ ap (λ t. before ++ t) (sym (lines-more row matches place m c.loop-place-test.true c.index-matches-place.is))));
    }

pub returns-clause-text : goal.returns-clause-text
returns-clause-text c = grind (arith, common_steps, result_row, rows-of-round, take_all)
