use Rattle.er_store.proofs.Loaded.{represents_again}
use Rattle.er_store.proofs.laws.stored_represents.Goals as goal

pub returns : goal.returns
returns c = represents_again
