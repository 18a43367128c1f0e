use Rattle.std.proofs.{Common.{arith, sym, append-nil}, lemmas.Grind.common_steps}
use Rattle.er_rank.proofs.meetings.push_meetings.Goals.{then-not-is_bye+in_ok-push, else-not-is_bye}
use Rattle.er_rank.proofs.meetings.push_meetings.Goals as goal

pub loop-played-init : goal.loop-played-init
loop-played-init c = sym (append-nil c.args.meetings.now.items)

pub loop-played-preserved : goal.loop-played-preserved
loop-played-preserved c = grind (arith, common_steps)

pub returns : goal.returns
returns c = grind (arith, common_steps)
