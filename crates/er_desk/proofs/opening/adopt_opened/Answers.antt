use Rattle.er_desk.proofs.Opened.{opens}
use Rattle.er_desk.proofs.opening.adopt_opened.Goals as goal

pub returns-clause-opens : goal.returns-clause-opens
returns-clause-opens g c image it = opens image c.stored_represents.ensures c.args.opened c.take_over.result it c.take_over.ensures
