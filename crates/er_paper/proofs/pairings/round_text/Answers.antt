use Rattle.std.specs.List.{enumerate_from}
use Rattle.std.proofs.Common.{◌∷◌, ◌++◌, codes, flat_map, take, sym, ap, ◌∙◌}
use Rattle.er_paper.specs.Texts.{pairing_line, table_line}
use Rattle.er_paper.proofs.PairingLemmas.{lines-more}
use Rattle.er_paper.proofs.pairings.round_text.Goals as goal

pub loop-place-preserved : goal.loop-place-preserved
loop-place-preserved c =
    let event = c.args.event.now in
    let matches = c.args.matches.now in
    let place = c.loop-place.place in
    let m = c.index-matches-place.result in
    let pushed = c.in_ok-push_pairing.ensures in
    let more = lines-more (table_line event) matches place m c.loop-place-test.true c.index-matches-place.is in
    pushed ∙ (ap (λ text. text ++ pairing_line event c.table_at.result m) c.loop-place.invariant
    ∙ (ap (λ table. (codes " Tab    A    B Score Names" ++ (10 ∷ flat_map (table_line event) (enumerate_from 1 (take place matches))))
    ++ pairing_line event table m) c.table_at.ensures
    ∙ ap (λ lines. codes " Tab    A    B Score Names" ++ (10 ∷ lines)) (sym more)))
