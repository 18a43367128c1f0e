use Rattle.std.proofs.{Common.arith, lemmas.Grind.common_steps, lemmas.Result.IfOk-weaker}
use Rattle.er_paper.proofs.ColumnLemmas.{right_3, right_4, at_hole, five_pieces}
use Rattle.er_paper.proofs.standings.push_row.Goals as goal

pub returns : goal.returns
returns c = grind (arith, common_steps, IfOk-weaker, at_hole, five_pieces, right_3, right_4)
