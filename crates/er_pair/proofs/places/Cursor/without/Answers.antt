use Rattle.std.proofs.Common.{rules}
use Rattle.er_pair.proofs.Ahead.{without_row}
use Rattle.er_pair.proofs.places.Cursor.without.Goals as goal

pub returns-clause-ahead : goal.returns-clause-ahead
returns-clause-ahead c = λ other p. without_row c.args.taken.now other c.args.self.index c.args.self.left p (search rules)
