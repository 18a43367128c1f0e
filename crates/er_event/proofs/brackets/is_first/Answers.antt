use Rattle.er_event.proofs.Prelude.{arith, common_steps}
use Rattle.er_event.proofs.BracketLemmas.{Known-of, of-Known}
use Rattle.er_event.proofs.brackets.is_first.Goals as goal

pub returns-then-first-from : goal.returns-then-first-from
returns-then-first-from c = grind (arith, common_steps, of-Known c.args.count c.args.first.now)

pub returns : goal.returns
returns c = grind (arith, common_steps, Known-of c.args.count c.args.first.now)
