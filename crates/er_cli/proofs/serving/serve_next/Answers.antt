use Rattle.std.proofs.Common.{◌||◌, rules}
use Rattle.er_desk.specs.{Desk.desk_state, Run.no_session}
use Rattle.er_cli.proofs.{Connecting.{comes_next, comes_nobody, serves_connecting}, Visiting.{knew_next, known_next}}
use Rattle.er_cli.proofs.serving.serve_next.Goals as goal

-- nobody came
pub returns-in_err-visit-clause-turns : goal.returns-in_err-visit-clause-turns
returns-in_err-visit-clause-turns g c = (
  no_session,
  comes_nobody (g.C.Clients.coming c.args.clients.now) (g.C.Clients.coming c.accept.new.self) (desk_state c.args.desk.now)
      c.in_err-visit.ensures.comes,
  c.asks_nothing.ensures,
)

pub returns-then-is_told-clause-turns : goal.returns-then-is_told-clause-turns
returns-then-is_told-clause-turns g c =
    let it = c.serve_one-served.ensures.serves in
    let came = c.in_ok-visit.ensures.comes in
    let next = comes_next (g.C.Clients.coming c.args.clients.now) (g.C.Clients.coming c.accept.new.self)
    (g.C.Clients.coming c.let_go.new.self) _ _ _ came c.let_go.ensures.coming in
    (it.session, (_, next, serves_connecting g.S.Store _ _ _ _ _ _ it), it.asks)

pub returns-else-is_told-clause-turns : goal.returns-else-is_told-clause-turns
returns-else-is_told-clause-turns g c =
    let it = c.serve_one-served.ensures.serves in
    let came = c.in_ok-visit.ensures.comes in
    let next = comes_next (g.C.Clients.coming c.args.clients.now) (g.C.Clients.coming c.accept.new.self)
    (g.C.Clients.coming c.let_go.new.self) _ _ _ came c.let_go.ensures.coming in
    (it.session, (_, next, serves_connecting g.S.Store _ _ _ _ _ _ it), it.asks)

pub returns-then-is_told-clause-served : goal.returns-then-is_told-clause-served
returns-then-is_told-clause-served g c =
    let it = c.serve_one-served.ensures.serves in
    let visit = c.in_ok-visit.visit in
    let left = c.serve_one-served.new in
    let came = c.in_ok-visit.ensures.comes in
    known_next g.S.Store c.args.desk.now left.desk (g.C.Clients.coming c.args.clients.now)
    (g.C.Clients.got c.args.clients.now) (g.C.Reader.Read.remaining visit.reader.stream) (g.C.Writer.Write.contents visit.writer.stream)
    (g.C.Writer.Write.contents left.writer.stream) (visit.reader.has_failed || visit.writer.has_failed) left.reader.has_failed
    left.writer.has_failed c.serve_one-served.result (g.C.Clients.coming c.accept.new.self) (g.C.Clients.coming c.let_go.new.self)
    (g.C.Clients.got c.let_go.new.self) came it (search rules) c.let_go.ensures.coming (search rules)

pub returns-then-is_told-clause-knew : goal.returns-then-is_told-clause-knew
returns-then-is_told-clause-knew g c =
    let left = c.serve_one-served.new in
    knew_next (g.C.Clients.got c.args.clients.now) (g.C.Writer.Write.contents left.writer.stream)
    (left.reader.has_failed || left.writer.has_failed) (g.C.Clients.got c.let_go.new.self) (search rules)
