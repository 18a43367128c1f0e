use Rattle.std.proofs.Common.{refl}
use Rattle.er_pair.specs.Pairing.{entries}
use Rattle.er_pair.proofs.Seating.{first_before_second, each_sits, none_has_met}
use Rattle.er_pair.proofs.laws.legal_seats.Goals as goal

pub returns : goal.returns
returns c met order pairs legal = record {
  each_once = each_sits met order pairs (entries order pairs) legal refl;
  new_opponents = none_has_met met order pairs (entries order pairs) legal refl;
  in_order = first_before_second met order pairs legal;
}
