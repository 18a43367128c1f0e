use Rattle.std.proofs.Common.{ℕ}
use Rattle.er_paper.specs.Reading.{result_of}
use Rattle.er_paper.proofs.Lines.{Reached}
use Rattle.er_paper.proofs.imports.result_lines.Given as goal

abbrev pub invariant-loop-at : goal.invariant-loop-at
invariant-loop-at l = Reached (λ (k : ℕ). result_of) l.rows l.lines.items l.at
