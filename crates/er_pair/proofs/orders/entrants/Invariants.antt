use Rattle.std.proofs.Common.{◌≡◌, length, take}
use Rattle.er_pair.specs.inside.Entrant.{entrants_of}
use Rattle.er_pair.proofs.Placing.{active_in}
use Rattle.er_pair.proofs.orders.entrants.Given as goal

abbrev pub invariant-loop-player : goal.invariant-loop-player
invariant-loop-player l = record {
  value : l.entrants.items ≡ entrants_of l.event (active_in (take l.player-index l.players)) l.keys;
  count : length l.entrants.items ≡ length (active_in (take l.player-index l.players));
}
