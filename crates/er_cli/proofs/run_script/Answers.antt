use Rattle.er_cli.proofs.Ending.{Ends-device}
use Rattle.er_cli.proofs.run_script.Goals as goal

pub returns-in-Err : goal.returns-in-Err
returns-in-Err g c = Ends-device _ _ _ c.in-Err.ensures.part
