use Rattle.std.proofs.{Common.arith, lemmas.Grind.common_steps, lemmas.Result.IfOk-weaker}
use Rattle.er_paper.proofs.ColumnLemmas.{right_4, at_hole, three_pieces}
use Rattle.er_paper.proofs.pairings.push_pairing.Goals as goal

pub returns : goal.returns
returns c = grind (arith, common_steps, IfOk-weaker, at_hole, right_4, three_pieces)
