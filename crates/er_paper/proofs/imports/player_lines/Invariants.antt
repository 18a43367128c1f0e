use Rattle.er_paper.specs.inside.Lines.{chosen_line}
use Rattle.er_paper.proofs.Lines.{Reached}
use Rattle.er_paper.proofs.imports.player_lines.Given as goal

abbrev pub invariant-loop-at : goal.invariant-loop-at
invariant-loop-at l = Reached (chosen_line l.heading) l.rows l.lines.items l.at
