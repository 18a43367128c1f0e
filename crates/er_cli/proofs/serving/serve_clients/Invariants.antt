use Rattle.std.proofs.Common.{◌≤◌}
use Rattle.er_desk.specs.{Asking.Asks, Desk.desk_state, Run.Session}
use Rattle.er_cli.specs.{Serving.ConnectsAll, Clients.{KnewBefore, ServesKnown}}
use Rattle.er_cli.proofs.serving.serve_clients.Given as goal

abbrev pub invariant-loop : goal.invariant-loop
invariant-loop g l = record {
  within : l.counter ≤ l.count;
  turns : (session : Session) × ConnectsAll l.counter (g.C.Clients.coming l.fn.clients) (g.C.Clients.coming l.clients) (desk_state l.fn.desk) session (desk_state l.desk)
      × Asks g.S.Store l.fn.desk session l.desk;
  served : ServesKnown g.S.Store l.counter (g.C.Clients.coming l.fn.clients) (g.C.Clients.got l.fn.clients) l.fn.desk
      (g.C.Clients.coming l.clients) (g.C.Clients.got l.clients) l.desk;
  knew : KnewBefore (g.C.Clients.got l.fn.clients) (g.C.Clients.got l.clients);
}
