use Rattle.er_store.proofs.Prelude.{◌≡◌, ◌+◌, ℕ, List, take, length, HasCleanDisk, state, TallyRow, EventValue, with_stage, RepresentsWith}
use Rattle.er_store.proofs.Prelude.{Layout}
use Rattle.er_store.proofs.Adding.{Adds}
use Rattle.er_store.specs.inside.Within.{Lends}
use Rattle.er_store.proofs.transactions.insert_stage.Given as goal

abbrev pub invariant-loop-place : goal.invariant-loop-place
invariant-loop-place g l =
    let old = state g.S.Store l.fn.tx.conn.now in
    let now = state g.S.Store l.tx.conn.now in
    Lends g.S.Store l.fn.tx l.tx
    × (HasCleanDisk now → (at : Layout) (e : EventValue) (s : ℕ) (rows : List TallyRow) → RepresentsWith at old.now e s rows
    → l.stage ≡ length e.bracket.stages + 1 → Adds at (with_stage e) l.place (take l.place l.matches) s rows old now)
