use Rattle.er_cli.proofs.Helping.{exactly, no_line}
use Rattle.er_cli.proofs.laws.texts_are_asked.Goals as goal

pub returns-clause-exactly : goal.returns-clause-exactly
returns-clause-exactly c = exactly

pub returns-clause-no_line : goal.returns-clause-no_line
returns-clause-no_line c = no_line
