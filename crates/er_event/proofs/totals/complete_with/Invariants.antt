use Rattle.er_event.proofs.Prelude.{Round, is_complete, length, rounds_with_score, take, ◌≡◌, ◌≤◌}
use Rattle.std.proofs.Common.{filter}
use Rattle.er_event.proofs.totals.complete_with.Given as goal

abbrev pub invariant-loop-at : goal.invariant-loop-at
invariant-loop-at l = record {
  value : l.count
      ≡ length (filter (λ (r : Round). is_complete r.matches) (take l.at (rounds_with_score l.rounds l.new.place l.new.table l.new.score)));
  few : l.count ≤ l.at;
}
