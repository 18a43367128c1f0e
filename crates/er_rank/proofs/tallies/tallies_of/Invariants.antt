use Rattle.std.proofs.Common.{◌≡◌, map, take}
use Rattle.er_event.specs.{Tallies.tally_by, Totals.totals}
use Rattle.er_rank.proofs.tallies.tallies_of.Given as goal

abbrev pub invariant-loop-player : goal.invariant-loop-player
invariant-loop-player l = l.tallies.items ≡ map (tally_by (totals l.event)) (take l.player-index l.players)
