use Rattle.std.proofs.{lemmas.Grind.common_steps, Common.arith}
use Rattle.er_paper.proofs.Fields.{three_fields, missing}
use Rattle.er_paper.proofs.records.three_fields.Goals as goal

pub returns-in_err-get : goal.returns-in_err-get
returns-in_err-get c = grind (arith, common_steps, missing)

pub returns-in_err-get-2 : goal.returns-in_err-get-2
returns-in_err-get-2 c = grind (arith, common_steps, missing)

pub returns-in_err-get-3 : goal.returns-in_err-get-3
returns-in_err-get-3 c = grind (arith, common_steps, missing)

pub returns : goal.returns
returns c = grind (arith, common_steps, three_fields)
