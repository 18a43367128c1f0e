use Rattle.std.proofs.{Common.arith, lemmas.Grind.common_steps}
use Rattle.er_rank.proofs.meetings.meetings_of.Goals.{then-is_complete+in_ok-push_meetings, else-is_complete}
use Rattle.er_rank.proofs.meetings.meetings_of.Goals as goal

pub loop-round-init : goal.loop-round-init
loop-round-init c = c.new-meetings.ensures.items

pub loop-round-preserved : goal.loop-round-preserved
loop-round-preserved c = grind (arith, common_steps)

pub returns : goal.returns
returns c = grind (arith, common_steps)
