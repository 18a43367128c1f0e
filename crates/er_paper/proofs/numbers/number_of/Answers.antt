use Rattle.std.proofs.{Common.arith, lemmas.Grind.common_steps}
use Rattle.er_paper.proofs.Fields.{number_of-parsed}
use Rattle.er_paper.proofs.numbers.number_of.Goals as goal

pub returns : goal.returns
returns c = grind (arith, common_steps, number_of-parsed)
