use Rattle.er_event.proofs.Prelude.{FollowOn, drop, ◌↔◌}
use Rattle.er_event.proofs.brackets.follow_on.Given as goal

abbrev pub invariant-loop-place : goal.invariant-loop-place
invariant-loop-place l = FollowOn l.stages ↔ FollowOn (drop l.place l.stages)
