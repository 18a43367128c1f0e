use Rattle.std.proofs.{Common.arith, lemmas.Grind.common_steps, lemmas.Result.IfOk-weaker}
use Rattle.er_paper.proofs.ColumnLemmas.{right_4, at_hole}
use Rattle.er_paper.proofs.brackets.push_slot.Goals as goal

pub returns : goal.returns
returns c = grind (arith, common_steps, IfOk-weaker, at_hole, right_4)
