use Rattle.std.proofs.{Common.arith, lemmas.Grind.common_steps}
use Rattle.er_paper.proofs.ColumnLemmas.{right_4, at_hole}
use Rattle.er_paper.proofs.players.push_player.Goals as goal

pub returns : goal.returns
returns c = grind (arith, common_steps, at_hole, right_4)
