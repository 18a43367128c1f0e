use Rattle.er_store.proofs.Prelude.{ℕ, List, take, HasCleanDisk, state, TallyRow, with_round, RepresentsWith, Layout}
use Rattle.er_store.proofs.Adding.{Adds}
use Rattle.er_store.specs.inside.Within.{Lends}
use Rattle.er_store.proofs.transactions.insert_round.Given as goal

abbrev pub invariant-loop-place : goal.invariant-loop-place
invariant-loop-place g l =
    let old = state g.S.Store l.fn.tx.conn.now in
    let now = state g.S.Store l.tx.conn.now in
    Lends g.S.Store l.fn.tx l.tx
    × (HasCleanDisk now → (at : Layout) (s : ℕ) (rows : List TallyRow) → RepresentsWith at old.now l.event s rows
    → Adds at (with_round l.event) l.place (take l.place l.matches) s rows old now)
