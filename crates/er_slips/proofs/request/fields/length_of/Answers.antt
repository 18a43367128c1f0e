use Rattle.std.proofs.{lemmas.Grind.common_steps, Common.arith}
use Rattle.er_slips.proofs.Digits.{length_of-large}
use Rattle.er_slips.proofs.request.fields.length_of.Goals as goal

pub returns-in_default-clause-value : goal.returns-in_default-clause-value
returns-in_default-clause-value c = grind (arith, common_steps, length_of-large)

pub returns-in_default-2-clause-value : goal.returns-in_default-2-clause-value
returns-in_default-2-clause-value c = grind (arith, common_steps, length_of-large)
