use Rattle.er_event.proofs.Prelude.{Swiss, arith, length, common_steps, take_all, range_with_len}
use Rattle.er_event.proofs.PrefixLemmas.{next_follows, next_rounds, no_rounds}
use Rattle.er_event.proofs.rounds.are_rounds.Goals as goal

pub returns-then-not-may_follow : goal.returns-then-not-may_follow
returns-then-not-may_follow c =
    grind (arith, common_steps, next_follows Swiss (length c.args.rounds.now) (range_with_len 1 c.args.count) c.args.rounds.now)

pub loop-place-init : goal.loop-place-init
loop-place-init c = no_rounds (range_with_len 1 c.args.count)

pub loop-place-preserved : goal.loop-place-preserved
loop-place-preserved c =
    let follows = rw (c.as_slice.ensures) at (c.may_follow.ensures.0 c.if-not-may_follow.false) in
    next_rounds (range_with_len 1 c.args.count) c.args.rounds.now c.loop-place.place c.index-rounds-place.result c.loop-place-test.true
    c.index-rounds-place.is c.loop-place.invariant follows

pub returns : goal.returns
returns c = grind (arith, common_steps, range_with_len, take_all)
