use Rattle.std.proofs.Common.{◌≡◌, length}
use Rattle.std.specs.Io.KnownBytes.{Keeps}
use Rattle.er_cli.proofs.client.ClientRead.read.Given as goal

-- interrupted reads change nothing
abbrev pub invariant-loop : goal.invariant-loop
invariant-loop g l = record {
  room : length l.buf ≡ length l.initial.buf;
  unread : Keeps (g.T.Connection.remaining l.initial.self.connection) (g.T.Connection.remaining l.self.connection);
  written : g.T.Connection.contents l.self.connection ≡ g.T.Connection.contents l.initial.self.connection;
  time : l.self ≡ record l.initial.self { connection = l.self.connection };
}
