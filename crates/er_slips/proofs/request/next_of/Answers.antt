use Rattle.std.proofs.{Common.arith, lemmas.Grind.common_steps}
use Rattle.er_slips.proofs.Asking.{path-is-text}
use Rattle.er_slips.proofs.request.next_of.Goals as goal

pub returns-in_default-clause-value : goal.returns-in_default-clause-value
returns-in_default-clause-value c = grind (arith, common_steps, path-is-text)
