use Rattle.std.proofs.Common.{arith}
use Rattle.er_pair.proofs.Bits.{removed}
use Rattle.er_pair.proofs.places.Places.remove.Goals as goal

pub returns : goal.returns
returns c = removed c.args.self.now c.args.place (omega arith)
