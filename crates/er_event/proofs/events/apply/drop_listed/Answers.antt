use Rattle.er_event.proofs.Prelude.{dropped_at, Player, ap, arith, length, map, subst, sym, true, ◌+◌, ◌-◌, ◌<◌, ◌∙◌, ◌≡◌, set}
use Rattle.er_event.proofs.DropLemmas.{set-dropped}
use Rattle.er_event.proofs.events.apply.drop_listed.Goals as goal

pub returns : goal.returns
returns c =
    let players = c.args.players.now.items in
    let at = c.from.result - 1 in
    let is = c.from.ensures ∙ c.get.ensures.value in
    let low = c.get.ensures.within in
    let high = c.requires.listed in
    let below : at < length players = omega arith in
    let number : 1 + at ≡ c.args.player = omega arith in
    let dropped = set-dropped players 1 at c.index_mut-listed.result.now below c.requires.numbered in
    subst (λ (p : Player). set players at (record p { dropped = true }) ≡ map (dropped_at c.args.player) players)
    (sym c.index_mut-listed.ensures.value)
    (dropped ∙ ap (λ k. map (dropped_at k) players) number)
