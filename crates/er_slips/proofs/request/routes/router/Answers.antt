use Rattle.std.proofs.{Common.arith, lemmas.Grind.common_steps}
use Rattle.matchit.proofs.OnLiterals.{matchit_on_literals}
use Rattle.er_slips.proofs.request.routes.router.Goals as goal

pub returns : goal.returns
unfolding matchit_on_literals
returns c = grind (arith, common_steps)
