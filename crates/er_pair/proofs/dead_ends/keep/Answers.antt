use Rattle.std.proofs.{lemmas.Grind.common_steps, Common.{length-set, arith}, lemmas.List.Elements.All-set}
use Rattle.er_pair.proofs.Ends.{dead_whatever}
use Rattle.er_pair.proofs.dead_ends.keep.Goals as goal

pub returns : goal.returns
returns c = grind (arith, common_steps, All-set, dead_whatever, length-set)
