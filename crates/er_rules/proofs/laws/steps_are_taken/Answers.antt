use Rattle.er_rules.proofs.Late.{steps_are_taken}
use Rattle.er_rules.proofs.laws.steps_are_taken.Goals as goal

pub returns : goal.returns
returns c = steps_are_taken
