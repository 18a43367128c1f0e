use Rattle.er_cli.proofs.Leaving.{put_held}
use Rattle.er_cli.proofs.closing.clear_fault.Goals as goal
use Rattle.er_cli.proofs.closing.clear_fault.Goals.{in-Unopened, in-Refused}

pub returns-clause-held : goal.returns-clause-held
returns-clause-held g c = elim c.match-fault.branch [
  | in-Unopened w ↦ rw (w.left-is, w.host-is) w.clear_unopened-left.ensures.held
  | in-Refused w ↦ rw w.left-is (put_held _ w.clear_refused-left.result _ _ w.clear_refused-left.ensures)
]
