use Rattle.er_event.proofs.Prelude.{take, ◌≡◌}
use Rattle.er_event.proofs.events.copy.copy_rounds.Given as goal

abbrev pub invariant-loop-round : goal.invariant-loop-round
invariant-loop-round l = l.copies.items ≡ take l.round-index l.rounds
