use Rattle.std.proofs.{lemmas.Grind.common_steps, Common.arith}
use Rattle.er_pair.proofs.Bits.{complemented}
use Rattle.er_pair.proofs.places.Places.complement.Goals as goal

pub returns : goal.returns
returns c = grind (arith, common_steps, complemented)
