use Rattle.std.proofs.Common.{◌≡◌, map, take}
use Rattle.er_pair.proofs.orders.seats.Given as goal

abbrev pub invariant-loop-entrant : goal.invariant-loop-entrant
invariant-loop-entrant l = l.seats.items ≡ map (λ p. p.number) (take l.entrant-index l.entrants)
