use Rattle.er_event.proofs.Prelude.{arith, nat_tests, common_steps, slice_get_past, slice_get_read, slice_get}
use Rattle.er_event.proofs.brackets.follow_on.Goals.{in-None, in-Some}
use Rattle.er_event.proofs.brackets.follow_on.Goals as goal

pub loop-place-preserved : goal.loop-place-preserved
loop-place-preserved c = grind (arith, common_steps, in-None, in-Some, nat_tests, slice_get, slice_get_past, slice_get_read)
