use Rattle.std.proofs.Common.{arith}
use Rattle.er_pair.proofs.Bits.{inserted}
use Rattle.er_pair.proofs.places.Places.insert.Goals as goal

pub returns : goal.returns
returns c = inserted c.args.self.now c.args.place (omega arith)
