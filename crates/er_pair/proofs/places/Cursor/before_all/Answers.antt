use Rattle.std.proofs.Common.{rules}
use Rattle.er_pair.proofs.Ahead.{starts_all}
use Rattle.er_pair.proofs.places.Cursor.before_all.Goals as goal

pub returns-clause-ahead : goal.returns-clause-ahead
returns-clause-ahead c = λ place. starts_all c.args.taken.now place (search rules)
