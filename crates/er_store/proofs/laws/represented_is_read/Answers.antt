use Rattle.er_store.proofs.Layouts.{can_read}
use Rattle.er_store.proofs.laws.represented_is_read.Goals as goal

pub returns : goal.returns
returns c v db e s it = can_read db.schema (it.layout, it.is, it.represents.has.tables)
