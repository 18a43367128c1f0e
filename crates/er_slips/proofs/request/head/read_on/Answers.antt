use Rattle.std.proofs.{lemmas.Grind.common_steps, Common.{◌∙◌, arith}}
use Rattle.er_slips.proofs.Bytes.{shorter, came_more, none_came}
use Rattle.er_slips.proofs.request.head.read_on.Goals as goal

pub loop-count-preserved : goal.loop-count-preserved
loop-count-preserved g c = grind (arith, common_steps, came_more, shorter)

pub returns-then-came-eq0-clause-kept : goal.returns-then-came-eq0-clause-kept
returns-then-came-eq0-clause-kept g c = grind (arith, common_steps, shorter)

pub returns-in_err-came-clause-kept : goal.returns-in_err-came-clause-kept
returns-in_err-came-clause-kept g c =
    let inv = c.loop-count.invariant in
    shorter c.loop-count.buf c.read_more.new.buf c.args.filled c.loop-count.count inv.after c.read_more.ensures.kept ∙ inv.kept

pub returns-then-came-eq0-clause-read : goal.returns-then-came-eq0-clause-read
returns-then-came-eq0-clause-read g c start before =
    none_came start _ _ c.loop-count.buf c.read_more.new.buf c.loop-count.count c.in_ok-came.came c.if-came-eq0.true
    c.in_ok-came.ensures.kept (c.loop-count.invariant.read start before) c.in_ok-came.ensures.came
