use Rattle.er_store.proofs.Prelude.{List, [], take, HasCleanDisk, state, Row}
use Rattle.er_store.specs.inside.{Moving.{Move, IsMoving}, Within.Lends}
use Rattle.er_store.proofs.migration.copy_players.Given as goal

abbrev pub invariant-loop-player : goal.invariant-loop-player
invariant-loop-player g l =
    let old = state g.S.Store l.fn.tx.conn.now in
    let now = state g.S.Store l.tx.conn.now in
    Lends g.S.Store l.fn.tx l.tx
    × (HasCleanDisk now → (move : Move) (former : List Row) → IsMoving move old old 1 [] former
    → IsMoving move old now 1 (take l.player-index l.player-items) former)
