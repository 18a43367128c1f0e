use Rattle.er_pair.proofs.Bits.{no_place}
use Rattle.er_pair.proofs.places.Places.empty.Goals as goal

pub returns : goal.returns
returns c = no_place
