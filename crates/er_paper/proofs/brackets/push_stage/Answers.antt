use Rattle.std.specs.List.{enumerate_from}
use Rattle.std.proofs.Common.{◌≡◌, ℕ, ◌+◌, ◌++◌, string_bytes, flat_map, take, sym, ap, ◌∙◌, arith, append_assoc}
use Rattle.er_paper.specs.Texts.{slot_line}
use Rattle.er_paper.proofs.PairingLemmas.{lines-more}
use Rattle.er_paper.proofs.brackets.push_stage.Goals as goal

pub loop-place-preserved : goal.loop-place-preserved
loop-place-preserved c =
    let place = c.loop-place.place in
    let matches = c.args.matches.now in
    let m = c.index-matches-place.result in
    let line = slot_line c.args.event.now c.args.stage in
    let before = string_bytes c.args.text.now in
    let lines = flat_map line (enumerate_from 1 (take place matches)) in
    let slot : place + 1 ≡ 1 + place = omega arith in
    c.in_ok-push_slot.ensures
    ∙ (ap (λ text. text ++ line (place + 1, m)) c.loop-place.invariant
    ∙ (ap (λ (k : ℕ). (before ++ lines) ++ line (k, m)) slot
    ∙ (append_assoc before lines (line (1 + place, m))
    ∙ ap (λ l. before ++ l) (sym (lines-more line matches place m c.loop-place-test.true c.index-matches-place.is)))))
