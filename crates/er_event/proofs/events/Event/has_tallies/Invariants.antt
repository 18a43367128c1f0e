use Rattle.er_event.proofs.Prelude.{tally_row, totals, Player, map, take, ◌≡◌}
use Rattle.er_event.proofs.events.Event.has_tallies.Given as goal

abbrev pub invariant-loop-at : goal.invariant-loop-at
invariant-loop-at l = take l.at l.rows ≡ map (λ (p : Player). tally_row p.no (totals l.self p.no)) (take l.at l.players)
