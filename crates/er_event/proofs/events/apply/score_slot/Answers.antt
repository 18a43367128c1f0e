use Rattle.er_event.proofs.Prelude.{List, Match, Some, [], arith, ap, get_or, gets, length, slot_in, ℕ, ◌-◌, ◌<◌, ◌≡◌, common_steps}
use Rattle.er_event.proofs.Prelude.{get_or_from_slice_get, slice_get, slice_get_within}
use Rattle.er_event.proofs.events.apply.score_slot.Goals as goal

module _ (stages : List (List Match)) (stage slot : ℕ) (m : Match) (is : slot_in stages stage slot ≡ Some m) (i : ℕ) (row : i ≡ stage) where
  found : (ms : List Match) × (slice_get stages (i - 1) ≡ Some ms) × (slice_get ms (slot - 1) ≡ Some m)
  found = grind (arith, common_steps, gets)

  row-within : i - 1 < length stages
  row-within = slice_get_within stages (i - 1) found.0 found.1

  at-within : (j : ℕ) → j ≡ slot → (d : List Match) → j - 1 < length (get_or stages (i - 1) d)
  at-within j at d =
      let within = slice_get_within found.0 (slot - 1) m found.2 in
      let same = ap length (get_or_from_slice_get stages (i - 1) found.0 d found.1) in omega arith

pub bounds-as_slice-row : goal.bounds-as_slice-row
bounds-as_slice-row c =
    rw c.as_slice.ensures
    (row-within c.args.stages.now c.args.stage c.args.slot c.requires.0 c.requires.1 c.from-row.result c.from-row.ensures)

pub bounds-as_slice-at : goal.bounds-as_slice-at
bounds-as_slice-at c =
    rw (c.as_slice-2.ensures, c.index-as_slice-row.is, c.as_slice.ensures)
    (at-within c.args.stages.now c.args.stage c.args.slot c.requires.0 c.requires.1 c.from-row.result c.from-row.ensures c.from-at.result
    c.from-at.ensures _)

pub set_in-requires-clause-row : goal.set_in-requires-clause-row
set_in-requires-clause-row c =
    row-within c.args.stages.now c.args.stage c.args.slot c.requires.0 c.requires.1 c.from-row.result c.from-row.ensures

pub set_in-requires-clause-at : goal.set_in-requires-clause-at
set_in-requires-clause-at c =
    at-within c.args.stages.now c.args.stage c.args.slot c.requires.0 c.requires.1 c.from-row.result c.from-row.ensures c.from-at.result
    c.from-at.ensures []
