use Rattle.std.proofs.Common.{◌≡◌, ℕ, ◌+◌, ◌++◌, string_bytes, take, sym, ap, ◌∙◌, arith, append_assoc}
use Rattle.er_paper.specs.Texts.{stage_lines, stages_lines}
use Rattle.er_paper.proofs.StageLemmas.{stages-more}
use Rattle.er_paper.proofs.brackets.push_stages.Goals as goal

pub loop-place-preserved : goal.loop-place-preserved
loop-place-preserved c =
    let e = c.args.event.now in
    let place = c.loop-place.place in
    let stages = c.args.stages.now in
    let stage = c.index-stages-place.result in
    let before = string_bytes c.args.text.now in
    let lines = stages_lines e 1 (take place stages) in
    let number : place + 1 ≡ 1 + place = omega arith in
    c.in_ok-push_stage.ensures
    ∙ (ap (λ text. text ++ stage_lines e (place + 1) c.as_slice.result.now) c.loop-place.invariant
    ∙ (ap (λ matches. (before ++ lines) ++ stage_lines e (place + 1) matches) c.as_slice.ensures
    ∙ (ap (λ (k : ℕ). (before ++ lines) ++ stage_lines e k stage) number
    ∙ (append_assoc before lines (stage_lines e (1 + place) stage)
    ∙ ap (λ l. before ++ l) (sym (stages-more e stages place stage c.loop-place-test.true c.index-stages-place.is))))))
