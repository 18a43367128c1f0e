use Rattle.er_cli.proofs.Repeating.{adds_nobody, gives_one_import}
use Rattle.er_cli.proofs.laws.imports_again.Goals as goal

pub returns : goal.returns
returns c = (adds_nobody c.names_stay.ensures, gives_one_import)
