use Rattle.std.proofs.Common.{◌∙◌}
use Rattle.er_rank.proofs.PlacingLemmas.{merit-eq}
use Rattle.er_rank.proofs.placings.Placing.is_level_with.Goals as goal

pub returns : goal.returns
returns c = c.eq.ensures ∙ merit-eq c.args.self.now.merit c.args.other.now.merit
