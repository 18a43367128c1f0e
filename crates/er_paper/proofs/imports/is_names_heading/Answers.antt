use Rattle.std.proofs.Common.{◌∷◌, [], codes, sym}
use Rattle.csv.specs.Records.{fields_of}
use Rattle.er_paper.proofs.Fields.{not_same}
use Rattle.er_paper.proofs.imports.is_names_heading.Goals as goal

pub returns-in-None : goal.returns-in-None
returns-in-None c = sym (not_same (fields_of c.args.row.now) (codes "name" ∷ []) c.in-None.ensures)
