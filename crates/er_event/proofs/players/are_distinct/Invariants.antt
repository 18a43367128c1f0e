use Rattle.er_event.proofs.Prelude.{names, AllPairs, take, ◌≢◌}
use Rattle.er_event.proofs.players.are_distinct.Given as goal

abbrev pub invariant-loop-place : goal.invariant-loop-place
invariant-loop-place l = AllPairs (λ a b. a ≢ b) (names (take l.place l.players))
