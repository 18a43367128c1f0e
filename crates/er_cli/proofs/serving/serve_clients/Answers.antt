use Rattle.std.proofs.Common.{◌≡◌, ℕ, ◌+◌, arith, refl, subst}
use Rattle.er_desk.specs.{Asking.join_sessions, Desk.desk_state}
use Rattle.er_cli.specs.{Serving.ConnectsAll, Clients.ServesKnown}
use Rattle.er_cli.proofs.{Connecting.connects_more, Visiting.{knew_same, knew_then, known_none, known_then}}
use Rattle.er_cli.proofs.serving.serve_clients.Goals as goal

pub loop-init : goal.loop-init
loop-init g c = record {
  within = omega arith;
  turns = (_, (refl, refl, refl), c.asks_nothing.ensures);
  served = known_none g.S.Store c.args.desk.now (g.C.Clients.coming c.args.clients.now) (g.C.Clients.got c.args.clients.now)
      c.asks_nothing.ensures;
  knew = knew_same (g.C.Clients.got c.args.clients.now);
}

pub loop-preserved : goal.loop-preserved
loop-preserved g c =
    let first = c.args.desk.now in
    let old = c.loop.desk in
    let new = c.serve_next.new.desk in
    let before = c.loop.invariant.turns in
    let one = c.in-Ok.ensures.turns in
    record {
      within = omega (arith, c.loop-test.true);
      turns = (
        join_sessions before.0 one.0,
        connects_more c.loop.counter (g.C.Clients.coming c.args.clients.now) (g.C.Clients.coming c.loop.clients)
            (g.C.Clients.coming c.serve_next.new.clients) (desk_state first) before.0 (desk_state old) one.0 (desk_state new) before.1 one.1,
        c.asks_then.ensures first old new before.0 one.0 before.2 one.2,
      );
      served = known_then g.S.Store c.asks_then.ensures first old new c.loop.counter (g.C.Clients.coming c.args.clients.now)
          (g.C.Clients.coming c.loop.clients) (g.C.Clients.coming c.serve_next.new.clients) (g.C.Clients.got c.args.clients.now)
          (g.C.Clients.got c.loop.clients) (g.C.Clients.got c.serve_next.new.clients) c.loop.invariant.served c.in-Ok.ensures.knew
          c.in-Ok.ensures.served;
      knew = knew_then (g.C.Clients.got c.args.clients.now) (g.C.Clients.got c.loop.clients) (g.C.Clients.got c.serve_next.new.clients)
          c.loop.invariant.knew c.in-Ok.ensures.knew;
    }

-- a client that was not served is the last
pub returns-in_default-clause-turns : goal.returns-in_default-clause-turns
returns-in_default-clause-turns g c =
    let first = c.args.desk.now in
    let old = c.loop.desk in
    let new = c.serve_next.new.desk in
    let before = c.loop.invariant.turns in
    let one = c.in_default.ensures.turns in (
      join_sessions before.0 one.0,
      (
        c.loop.counter + 1,
        omega (arith, c.loop-test.true),
        (
          _,
          connects_more c.loop.counter (g.C.Clients.coming c.args.clients.now) (g.C.Clients.coming c.loop.clients)
              (g.C.Clients.coming c.serve_next.new.clients) (desk_state first) before.0 (desk_state old) one.0 (desk_state new) before.1
              one.1,
        ),
      ),
      c.asks_then.ensures first old new before.0 one.0 before.2 one.2,
    )

pub returns-clause-turns : goal.returns-clause-turns
returns-clause-turns g c =
    let it = c.loop.invariant.turns in
    let all : c.loop.counter ≡ c.args.count = omega (arith, c.loop.invariant.within, c.loop-test.false) in (
      it.0,
      (
        _,
        subst (λ (n : ℕ). ConnectsAll n (g.C.Clients.coming c.args.clients.now) (g.C.Clients.coming c.loop.clients)
            (desk_state c.args.desk.now) it.0 (desk_state c.loop.desk)) all it.1,
      ),
      it.2,
    )

pub returns-clause-served : goal.returns-clause-served
returns-clause-served g c =
    let all : c.loop.counter ≡ c.args.count = omega (arith, c.loop.invariant.within, c.loop-test.false) in
    subst (λ (n : ℕ). ServesKnown g.S.Store n (g.C.Clients.coming c.args.clients.now) (g.C.Clients.got c.args.clients.now)
    c.args.desk.now (g.C.Clients.coming c.loop.clients) (g.C.Clients.got c.loop.clients) c.loop.desk) all c.loop.invariant.served

pub returns-in_default-clause-knew : goal.returns-in_default-clause-knew
returns-in_default-clause-knew g c = knew_then (g.C.Clients.got c.args.clients.now) (g.C.Clients.got c.loop.clients)
    (g.C.Clients.got c.serve_next.new.clients) c.loop.invariant.knew c.in_default.ensures.knew
