use Rattle.er_slips.proofs.Unique.{one_answer}
use Rattle.er_slips.proofs.laws.one_answer.Goals as goal

pub returns : goal.returns
returns c = one_answer c.one_standings.ensures c.one_step.ensures
