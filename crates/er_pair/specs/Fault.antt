-- The refusal that each fault of a search for a pairing means.
use Rattle.er_event.specs.declared.refusals.Refusal.{Refusal}
use Rattle.er_event.specs.declared.refusals.Refusal.TheVariants as refusal
use Rattle.er_pair.specs.declared.pairings.PairFault.{PairFault}
use Rattle.er_pair.specs.declared.pairings.PairFault.TheVariants.{NoPairing, Budget, Memory}

abbrev pub pair_refusal : PairFault → Refusal
pair_refusal NoPairing = refusal.NoPairing
pair_refusal (Budget steps) = refusal.Budget steps
pair_refusal Memory = refusal.Memory
