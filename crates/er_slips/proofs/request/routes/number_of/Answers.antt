use Rattle.std.proofs.{Common.arith, lemmas.Grind.common_steps}
use Rattle.er_slips.proofs.Digits.{number_of-parsed}
use Rattle.er_slips.proofs.request.routes.number_of.Goals as goal

pub returns : goal.returns
returns c = grind (arith, common_steps, number_of-parsed)
