use Rattle.std.proofs.{lemmas.Grind.common_steps, Common.arith}
use Rattle.er_pair.proofs.Ahead.{but_elsewhere, but_here}
use Rattle.er_pair.proofs.places.Cursor.but.Goals as goal

pub returns-then-place-self-clause-ahead : goal.returns-then-place-self-clause-ahead
returns-then-place-self-clause-ahead c = grind (arith, common_steps, but_elsewhere)

pub returns-clause-ahead : goal.returns-clause-ahead
returns-clause-ahead c = λ p. but_here c.args.used.now c.args.self.index c.args.self.left c.args.place p (omega arith)
