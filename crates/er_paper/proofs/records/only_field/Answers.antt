use Rattle.std.proofs.Common.{sym, ◌∙◌}
use Rattle.csv.specs.Records.{fields_of}
use Rattle.er_paper.proofs.Fields.{only_there}
use Rattle.er_paper.proofs.records.only_field.Goals as goal

pub returns : goal.returns
returns c = only_there (fields_of c.args.row.now) c.get.result (sym c.len.ensures ∙ c.if-len-ne1.false) c.get.ensures.value
