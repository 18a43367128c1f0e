use Rattle.std.proofs.Common.{subst}
use Rattle.sqlite.specs.Files.{file_state}
use Rattle.er_cli.specs.Remains.{RemainsOf}
use Rattle.er_sessions.proofs.Holding.{closed_cut}
use Rattle.er_sessions.proofs.let_go.Goals as goal

pub returns-in-Closed : goal.returns-in-Closed
returns-in-Closed g c = closed_cut _ c.in-Closed.files (subst (RemainsOf (file_state c.args.conn)) c.in-Closed.is c.close.ensures)
