use Rattle.er_cli.proofs.Stopping.{stops_are_exits}
use Rattle.er_cli.proofs.laws.stops_are_exits.Goals as goal

pub returns : goal.returns
returns c = stops_are_exits
