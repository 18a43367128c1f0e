use Rattle.std.proofs.Common.{arith, rules}
use Rattle.er_pair.specs.inside.Places.{is_ahead}
use Rattle.er_pair.proofs.Ahead.{next_word, no_next, found_beyond, found_place, found_after}
use Rattle.er_pair.proofs.places.Cursor.next.Goals as goal

pub returns-then-self-end-clause-found : goal.returns-then-self-end-clause-found
returns-then-self-end-clause-found c =
    no_next c.args.one.now c.args.other.now c.loop-self.self.index c.loop-self.self.left
    (is_ahead c.args.one.now c.args.other.now c.args.self.now.index c.args.self.now.left)
    c.loop-self.invariant.same c.args.end (omega arith) (omega arith)

pub loop-self-preserved : goal.loop-self-preserved
loop-self-preserved c = record {
  word = omega arith;
  same = next_word c.args.one.now c.args.other.now c.loop-self.self.index c.loop-self.self.left
      (is_ahead c.args.one.now c.args.other.now c.args.self.now.index c.args.self.now.left)
      c.loop-self.invariant.same (omega arith) (search rules) (search rules);
}

pub returns-then-place-end-clause-found : goal.returns-then-place-end-clause-found
returns-then-place-end-clause-found c = (
  c.if-place-end.true,
  found_place c.args.one.now c.args.other.now c.loop-self.self.index c.loop-self.self.left
      (is_ahead c.args.one.now c.args.other.now c.args.self.now.index c.args.self.now.left)
      c.loop-self.invariant.same (omega arith) (search rules) c.args.end c.if-place-end.true,
  found_after c.args.one.now c.args.other.now c.loop-self.self.index c.loop-self.self.left
      (is_ahead c.args.one.now c.args.other.now c.args.self.now.index c.args.self.now.left)
      c.loop-self.invariant.same (omega arith) (search rules),
)

pub returns-else-place-end-clause-found : goal.returns-else-place-end-clause-found
returns-else-place-end-clause-found c =
    found_beyond c.args.one.now c.args.other.now c.loop-self.self.index c.loop-self.self.left
    (is_ahead c.args.one.now c.args.other.now c.args.self.now.index c.args.self.now.left)
    c.loop-self.invariant.same (omega arith) (search rules) c.args.end c.if-place-end.false
