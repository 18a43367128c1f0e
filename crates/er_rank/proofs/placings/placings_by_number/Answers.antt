use Rattle.std.proofs.Common.{◌<◌, length, arith, refl}
use Rattle.er_rank.specs.{Meeting.opponents_of, inside.Merit.AreOpponents}
use Rattle.er_rank.proofs.PlacingLemmas.{AreFirst-none, AreFirst-more, ArePlacings-first, number-here, totals-here}
use Rattle.er_rank.proofs.placings.placings_by_number.Goals as goal

pub loop-at-init : goal.loop-at-init
loop-at-init c = λ met are. AreFirst-none met c.args.tallies.now _ c.in_ok-placings.ensures.items

pub loop-at-preserved : goal.loop-at-preserved
loop-at-preserved c = λ met are.
    let tallies = c.args.tallies.now in
    let at = c.loop-at.at in
    let tally = c.index-tallies-at.result in
    let opponents = c.index-opponents-at in
    let below = c.loop-at-test.true in
    let number = number-here tallies at tally c.requires.tallies.numbered below c.index-tallies-at.is in
    let own = totals-here tallies at tally.no tally (omega (arith, number)) below c.index-tallies-at.is in
    let place : at < length c.args.opponents.now = omega (arith, c.requires.each, below) in
    let here : AreOpponents opponents.result (opponents_of met tally.no) = rw (number, opponents.is) (are at opponents.result place) in
    let merit = rw own at (c.merit_of.ensures (opponents_of met tally.no) here) in
    AreFirst-more met tallies at tally c.loop-at.placings.items c.push.new.self.items _ below c.index-tallies-at.is
    (c.loop-at.invariant met are) refl refl merit c.in_ok-push.ensures.items

pub returns : goal.returns
returns c = λ met are.
    ArePlacings-first met c.args.tallies.now c.loop-at.at c.loop-at.placings.items c.loop-at-test.false (c.loop-at.invariant met are)
