use Rattle.std.proofs.Common.{◌≡◌}
use Rattle.er_cli.proofs.client.Client.end.Given as goal

-- nothing is written
abbrev pub invariant-loop : goal.invariant-loop
invariant-loop g l = g.T.Connection.contents l.self.connection ≡ g.T.Connection.contents l.fn.self.connection
