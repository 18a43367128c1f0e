use Rattle.std.proofs.Common.{◌≡◌, ◌+◌, ◌-◌, ◌<◌, length, arith}
use Rattle.er_rank.specs.{Meeting.opponents_of, inside.Merit.AreOpponents}
use Rattle.er_rank.proofs.OpponentLemmas.{AreOpponentsOf-met}
use Rattle.er_rank.proofs.opponents.meet.Goals as goal

pub returns : goal.returns
returns c = λ before are.
    let list = c.args.opponents.now in
    let at = c.from-at.result - 1 in
    let here = c.index-opponents-at in
    let number : 1 + at ≡ c.args.player = omega (arith, c.from-at.ensures, c.get.ensures.value, c.requires.known.0) in
    let within : at < length list = omega (arith, number, c.requires.known.1) in
    let met = opponents_of before (1 + at) in
    let own : AreOpponents here.result met = rw here.is (are at here.result within) in
    AreOpponentsOf-met before (record { player = c.args.player; opponent = c.args.totals }) list at c.with.result number within are
    (c.with.ensures met own)
