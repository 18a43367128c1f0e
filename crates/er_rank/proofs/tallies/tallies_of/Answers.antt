use Rattle.std.proofs.{Common.{arith, subst, sym, ◌≡◌}, lemmas.Grind.common_steps}
use Rattle.er_event.specs.{declared.players.Player.Player, Totals.{gathered_of, totals, AreTotals}}
use Rattle.er_rank.proofs.tallies.tallies_of.Goals as goal

pub loop-player-init : goal.loop-player-init
loop-player-init c = c.in_ok-tallies.ensures.items

pub loop-player-preserved : goal.loop-player-preserved
loop-player-preserved c =
    let e = c.args.event.now in
    let all = c.all_totals-all.result in
    let player = c.player-item.result in
    let listed : AreTotals e c.players-players.result.now all = rw c.players-players.ensures.value c.all_totals-all.ensures in
    let due : gathered_of all player ≡ totals e player.no = subst (λ (p : Player). gathered_of all p ≡ totals e p.no) (sym c.player-item.is)
    (listed c.loop-player.player-index player c.loop-player-test.true) in
    grind (arith, common_steps, due)

pub returns : goal.returns
returns c = grind (arith, common_steps)
