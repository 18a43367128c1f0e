use Rattle.er_desk.proofs.Opened.{makes}
use Rattle.er_desk.proofs.opening.create_in_opened.Goals as goal

pub returns-clause-makes : goal.returns-clause-makes
returns-clause-makes g c image it =
    makes image c.args.name c.args.rounds c.args.cut c.requires.limits c.stored_represents.ensures c.represented_is_read.ensures
    c.args.opened c.create_over.result it c.create_over.ensures
