use Rattle.std.proofs.Common.{◌≡◌, IsTrue}
use Rattle.std.specs.Io.KnownBytes.{Keeps}
use Rattle.er_cli.proofs.client.ClientWrite.write.Given as goal

-- interrupted writes change nothing
abbrev pub invariant-loop : goal.invariant-loop
invariant-loop g l = record {
  written : Keeps (g.T.Connection.contents l.initial.self.connection) (g.T.Connection.contents l.self.connection);
  unread : g.T.Connection.remaining l.self.connection ≡ g.T.Connection.remaining l.initial.self.connection;
  time : l.self ≡ record l.initial.self { connection = l.self.connection; is_late = l.self.is_late };
  late : IsTrue l.initial.self.is_late → l.self ≡ l.initial.self;
}
