use Rattle.er_store.proofs.Prelude.{◌≡◌, ◌+◌, [], ◌∷◌, ◌++◌, take, take_more, take_all, sym, ap, ◌∙◌, Player, PlayerTable}
use Rattle.er_store.proofs.{Lending.{lends_self, lends_then}, Crash.was_clean, Migrating.{moving_then, moving_here, player2_added}}
use Rattle.er_store.proofs.Layouts.{found}
use Rattle.er_store.specs.inside.Moving.{layout_after}
use Rattle.er_store.proofs.migration.copy_players.Goals as goal

pub loop-player-init : goal.loop-player-init
loop-player-init g c = (lends_self g.S.Store c.args.tx.now, λ clean move former here. here)

pub loop-player-preserved : goal.loop-player-preserved
loop-player-preserved g c =
    let items = c.players-player-items.result.now in
    let at = c.loop-player.player-index in
    let p = c.player-item.result in
    let so_far = c.loop-player.invariant in
    let more : take (at + 1) items ≡ take at items ++ p ∷ [] = take_more items at p c.loop-player-test.true
    ∙ ap (λ (x : Player). take at items ++ x ∷ []) (sym c.player-item.is) in (
      lends_then so_far.0 c.insert_player2.ensures.lends,
      λ clean move former here.
          let was = so_far.1 (was_clean c.insert_player2.ensures.lends.stays.survives clean) move former here in
          let put = rw (c.from-number.ensures, c.from-joined.ensures, c.get.ensures.value, c.as_str.ensures.value) at
          (c.in_ok-insert_player2.ensures.puts _ move.players (found (layout_after move) was.has.tables PlayerTable) clean) in
          rw more (moving_then was (player2_added (moving_here was) p put)),
    )

pub returns-clause-copies : goal.returns-clause-copies
returns-clause-copies g c move former here clean =
    rw (← c.players-player-items.ensures.value)
    (rw (take_all c.loop-player.player-index c.players-player-items.result.now c.loop-player-test.false) at
    (c.loop-player.invariant.1 clean move former here))
