use Rattle.er_store.proofs.Prelude.{bracket_row, ◌≡◌, ◌+◌, length, take, sym, ap, ◌∙◌, arith, length-take-le, state, with_stage}
use Rattle.er_store.proofs.{Lending.{lends_self, lends_then}, Crash.{was_clean}, Adding.{adds_none, adds_all, adds_next, no_slot_added}}
use Rattle.er_store.proofs.transactions.insert_stage.Goals as goal

pub loop-place-init : goal.loop-place-init
loop-place-init g c =
    let old = state g.S.Store c.args.tx.now.conn.now in
    (lends_self g.S.Store c.args.tx.now, λ clean l e s rows represents stage. adds_none old (with_stage e) s (no_slot_added e represents))

pub of-row-requires : goal.of-row-requires
of-row-requires g c =
    let few = c.requires.1 in
    let below = c.loop-place-test.true in
    omega arith

pub loop-place-preserved : goal.loop-place-preserved
loop-place-preserved g c =
    let matches = c.args.matches.now in
    let at = c.loop-place.place in
    let m = c.index-matches-place.result in
    let kept = c.loop-place.invariant in
    let stored = length-take-le at matches c.loop-place.auto.place-end in (
      lends_then kept.0 c.insert_slot.ensures.lends,
      λ clean l e s rows represents stage.
          let was = kept.1 (was_clean c.insert_slot.ensures.lends.stays.survives clean) l e s rows represents stage in
          let row : c.of-row.result ≡ bracket_row (length e.bracket.stages + 1) (length (take at matches) + 1, m) =
          c.of-row.ensures ∙ (ap (λ n. bracket_row n (at + 1, m)) stage
          ∙ ap (λ n. bracket_row (length e.bracket.stages + 1) (n + 1, m)) (sym stored)) in
          adds_next at matches m c.loop-place-test.true c.index-matches-place.is was
          (c.in_ok-insert_slot.ensures.makes l e (take at matches) m row s rows was.represents clean),
    )

pub returns-clause-makes : goal.returns-clause-makes
returns-clause-makes g c l e stage s rows represents clean =
    adds_all c.loop-place.place c.args.matches.now c.requires.0 c.loop-place-test.false
    (c.loop-place.invariant.1 clean l e s rows represents stage)

pub returns-clause-lends : goal.returns-clause-lends
returns-clause-lends g c = c.loop-place.invariant.0

pub returns-in_err-insert_slot-clause-lends : goal.returns-in_err-insert_slot-clause-lends
returns-in_err-insert_slot-clause-lends g c = lends_then c.loop-place.invariant.0 c.insert_slot.ensures.lends
