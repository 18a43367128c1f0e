use Rattle.er_store.proofs.Prelude.{◌≡◌, ℕ, HasCleanDisk, state, EventValue, after, tally_rows_by, numbers, totals, RepresentsWith}
use Rattle.er_store.proofs.Prelude.{LeavesOthers, BringsToWith, set_up_to, Layout}
use Rattle.er_store.specs.inside.Within.{Lends}
use Rattle.er_store.proofs.transactions.recount.Given as goal

abbrev pub invariant-loop-player : goal.invariant-loop-player
invariant-loop-player g l =
    let old = state g.S.Store l.fn.tx.conn.now in
    let now = state g.S.Store l.tx.conn.now in
    Lends g.S.Store l.fn.tx l.tx
    × (HasCleanDisk now → (at : Layout) (e : EventValue) (s : ℕ) → numbers e.players ≡ numbers l.event.players → LeavesOthers at old old
    → RepresentsWith at old.now e s (tally_rows_by (totals l.event) e.players) → BringsToWith at old now e s (tally_rows_by
    (set_up_to l.player-index (totals (after l.event l.change)) (totals l.event)) e.players))
