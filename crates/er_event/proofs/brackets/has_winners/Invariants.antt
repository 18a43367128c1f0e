use Rattle.er_event.proofs.Prelude.{◌↔◌}
use Rattle.er_event.proofs.SlotLemmas.{Winners}
use Rattle.er_event.proofs.brackets.has_winners.Given as goal

abbrev pub invariant-loop-place : goal.invariant-loop-place
invariant-loop-place l = Winners l.stage l.next 0 ↔ Winners l.stage l.next l.place
