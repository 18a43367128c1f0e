use Rattle.std.proofs.{Common.arith, lemmas.Grind.common_steps}
use Rattle.er_paper.proofs.ColumnLemmas.{right_3, two_digits_is, at_hole}
use Rattle.er_paper.proofs.standings.push_percent.Goals as goal

pub returns : goal.returns
returns c = grind (arith, common_steps, at_hole, right_3, two_digits_is)
