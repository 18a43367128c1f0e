use Rattle.std.proofs.Common.{List}
use Rattle.er_rank.specs.{Meeting.Encounter, inside.Opponents.AreOpponentsOf}
use Rattle.er_rank.proofs.PlacingLemmas.{AreFirst}
use Rattle.er_rank.proofs.placings.placings_by_number.Given as goal

abbrev pub invariant-loop-at : goal.invariant-loop-at
invariant-loop-at l = (met : List Encounter) → AreOpponentsOf met l.opponents → AreFirst met l.tallies l.at l.placings.items
