use Rattle.er_event.proofs.Prelude.{numbers, take, ◌≡◌, range_with_len}
use Rattle.er_event.proofs.players.are_numbered.Given as goal

abbrev pub invariant-loop-place : goal.invariant-loop-place
invariant-loop-place l = numbers (take l.place l.players) ≡ range_with_len 1 l.place
