use Rattle.er_event.proofs.Prelude.{AreRounds, Swiss, take, range_with_len}
use Rattle.er_event.proofs.rounds.are_rounds.Given as goal

abbrev pub invariant-loop-place : goal.invariant-loop-place
invariant-loop-place l = AreRounds Swiss l.place (range_with_len 1 l.count) (take l.place l.rounds)
