use Rattle.std.proofs.{lemmas.Grind.common_steps, Common.arith}
use Rattle.er_paper.proofs.columns.push_left.Goals as goal

pub returns : goal.returns
returns c = grind (arith, common_steps)
