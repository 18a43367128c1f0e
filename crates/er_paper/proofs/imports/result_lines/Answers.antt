use Rattle.std.proofs.{Common.arith, lemmas.Grind.common_steps}
use Rattle.er_paper.proofs.Lines.{reached-more}
use Rattle.er_paper.proofs.imports.result_lines.Goals as goal

pub loop-at-preserved : goal.loop-at-preserved
loop-at-preserved c = grind (arith, common_steps, reached-more)
