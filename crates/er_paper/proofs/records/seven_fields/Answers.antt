use Rattle.std.proofs.{lemmas.Grind.common_steps, Common.arith}
use Rattle.er_paper.proofs.Fields.{seven_fields, missing}
use Rattle.er_paper.proofs.records.seven_fields.Goals as goal

pub returns-in_err-get : goal.returns-in_err-get
returns-in_err-get c = grind (arith, common_steps, missing)

pub returns-in_err-get-2 : goal.returns-in_err-get-2
returns-in_err-get-2 c = grind (arith, common_steps, missing)

pub returns-in_err-get-3 : goal.returns-in_err-get-3
returns-in_err-get-3 c = grind (arith, common_steps, missing)

pub returns-in_err-get-4 : goal.returns-in_err-get-4
returns-in_err-get-4 c = grind (arith, common_steps, missing)

pub returns-in_err-get-5 : goal.returns-in_err-get-5
returns-in_err-get-5 c = grind (arith, common_steps, missing)

pub returns-in_err-get-6 : goal.returns-in_err-get-6
returns-in_err-get-6 c = grind (arith, common_steps, missing)

pub returns-in_err-get-7 : goal.returns-in_err-get-7
returns-in_err-get-7 c = grind (arith, common_steps, missing)

pub returns : goal.returns
returns c = grind (arith, common_steps, seven_fields)
