use Rattle.std.proofs.{Common.arith, lemmas.Grind.common_steps}
use Rattle.er_paper.proofs.Fields.{text-of-digits}
use Rattle.er_paper.proofs.numbers.digits.Goals as goal

pub returns-then-are_digits : goal.returns-then-are_digits
returns-then-are_digits c = grind (arith, common_steps, text-of-digits)
