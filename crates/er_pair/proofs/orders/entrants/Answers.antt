use Rattle.std.proofs.{lemmas.Grind.common_steps, Common.{rules, ◌≡◌, ◌∙◌, ◌<◌, length, ap, arith, subst, sym}}
use Rattle.er_event.specs.{declared.players.Player.Player, declared.totals.Totals.Totals, Totals.{gathered_of, totals, AreTotals}}
use Rattle.er_pair.proofs.{Placing.{active_in, active_below, placed_more}, orders.entrants.Goals.Else-player}
use Rattle.er_pair.proofs.orders.entrants.Goals as goal

-- there is a key for one more
key_left : (c : Else-player) → length c.loop-player.entrants.items < length c.args.keys.now
key_left c = grind (arith, common_steps, active_below, active_in)

pub offset_bounds-keys-len : goal.offset_bounds-keys-len
offset_bounds-keys-len c =
    let few = key_left (goal.at.offset_bounds-keys-len c).Else-player in
    let left : c.len.result < length c.args.keys.now = omega arith in
    search rules

pub bounds-keys-len : goal.bounds-keys-len
bounds-keys-len c = omega (arith, key_left (goal.at.bounds-keys-len c).Else-player)

pub loop-player-preserved : goal.loop-player-preserved
loop-player-preserved c =
    let e = c.args.event.now in
    let all = c.all_totals-all.result in
    let player = c.player-item.result in
    let listed : AreTotals e c.players-players.result.now all = rw c.players-players.ensures.value c.all_totals-all.ensures in
    let due : gathered_of all player ≡ totals e player.no = subst (λ (p : Player). gathered_of all p ≡ totals e p.no) (sym c.player-item.is)
    (listed c.loop-player.player-index player c.loop-player-test.true) in
    let few = key_left (goal.at.loop-player-preserved c).Else-player in
    let count : c.len.result ≡ length c.loop-player.entrants.items = omega arith in
    let more = placed_more c.args.event.now c.players-players.result.now c.args.keys.now c.loop-player.player-index c.player-item.result
    c.loop-player.entrants.items c.push.new.self.items c.get.result c.of.result.points c.len.result
    c.loop-player-test.true c.player-item.is c.if-player.false c.get.ensures.value (ap (λ (t : Totals). t.points) (c.of.ensures ∙ due))
    c.loop-player.invariant.value c.loop-player.invariant.count count (omega arith) c.in_ok-push.ensures.items in
    record { value = more.0; count = more.1 }
