use Rattle.std.proofs.Common.{◌≡◌}
use Rattle.er_cli.proofs.client.Client.read_rest.Given as goal

-- nothing is written
abbrev pub invariant-loop-left : goal.invariant-loop-left
invariant-loop-left g l = g.T.Connection.contents l.self.connection ≡ g.T.Connection.contents l.initial.self.connection

abbrev pub decreases-loop-left : goal.decreases-loop-left
decreases-loop-left g l = l.left
