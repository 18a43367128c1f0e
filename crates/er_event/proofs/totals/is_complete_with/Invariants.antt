use Rattle.er_event.proofs.Prelude.{scored_slot, is_complete, take, true, ◌≡◌}
use Rattle.er_event.proofs.totals.is_complete_with.Given as goal

abbrev pub invariant-loop-at : goal.invariant-loop-at
invariant-loop-at l = is_complete (take l.at (scored_slot l.matches l.table l.score)) ≡ true
