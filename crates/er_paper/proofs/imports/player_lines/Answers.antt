use Rattle.std.proofs.{Common.{◌≡◌, ◌+◌, ℕ, Some, List, [], ◌∷◌, ◌++◌, refl, sym, ◌∙◌, ap, subst, arith}, lemmas.Grind.common_steps}
use Rattle.csv.specs.Records.{fields_of}
use Rattle.er_paper.specs.{inside.Lines.chosen_line, declared.imports.PlayerLine.PlayerLine}
use Rattle.er_paper.proofs.Lines.{Reached, reached-more}
use Rattle.er_paper.proofs.imports.player_lines.Goals as goal

pub loop-at-preserved : goal.loop-at-preserved
loop-at-preserved c =
    let line = chosen_line c.args.heading in
    let at = c.loop-at.at in
    let row = c.index-rows-at.result in
    let items : c.push.new.self.items ≡ c.loop-at.lines.items ++ c.in_ok-line.line ∷ [] = grind (arith, common_steps) in
    let number : 1 + at ≡ at + 1 = omega arith in
    let read : line (1 + at) (fields_of row) ≡ Some c.in_ok-line.line = ap (λ (k : ℕ). line k (fields_of row)) number
    ∙ sym c.line_under.ensures ∙ c.in_ok-line.ensures.ok_part in
    subst (λ (ls : List PlayerLine). Reached line c.args.rows.now ls (at + 1)) (sym items)
    (reached-more line c.args.rows.now c.loop-at.lines.items at row c.loop-at-test.true c.index-rows-at.is c.loop-at.invariant
    c.in_ok-line.line (at + 1) read refl)
