use Rattle.er_store.proofs.Prelude.{pairing_row, ◌≡◌, ◌+◌, length, take, sym, ap, ◌∙◌, arith, length-take-le, state, with_round}
use Rattle.er_store.proofs.{Lending.{lends_self, lends_then}, Crash.{was_clean}, Adding.{none_added, adds_none, adds_all, adds_next}}
use Rattle.er_store.proofs.Sizes.{few_matches, some_matches}
use Rattle.er_store.proofs.transactions.insert_round.Goals as goal

pub loop-place-init : goal.loop-place-init
loop-place-init g c =
    let old = state g.S.Store c.args.tx.now.conn.now in (
      lends_self g.S.Store c.args.tx.now,
      λ clean l s rows represents. adds_none old (with_round c.args.event.now) s
          (none_added c.args.event.now represents),
    )

pub of-row-requires : goal.of-row-requires
of-row-requires g c =
    let few = few_matches c.args.event.now c.args.matches.now c.requires.fits.sound in
    let below = c.loop-place-test.true in
    omega arith

pub loop-place-preserved : goal.loop-place-preserved
loop-place-preserved g c =
    let e = c.args.event.now in
    let matches = c.args.matches.now in
    let at = c.loop-place.place in
    let m = c.index-matches-place.result in
    let kept = c.loop-place.invariant in
    let stored = length-take-le at matches c.loop-place.auto.place-end in (
      lends_then kept.0 c.insert_pairing.ensures.lends,
      λ clean l s rows represents.
          let was = kept.1 (was_clean c.insert_pairing.ensures.lends.stays.survives clean) l s rows represents in
          let row : c.of-row.result ≡ pairing_row (length e.stored + 1) (length (take at matches) + 1, m) =
          c.of-row.ensures ∙ (ap (λ rounds. pairing_row (length rounds + 1) (at + 1, m)) c.stored.ensures.value
          ∙ ap (λ n. pairing_row (length e.stored + 1) (n + 1, m)) (sym stored)) in
          adds_next at matches m c.loop-place-test.true c.index-matches-place.is was
          (c.in_ok-insert_pairing.ensures.makes l e (take at matches) m row s rows was.represents clean),
    )

pub returns-clause-makes : goal.returns-clause-makes
returns-clause-makes g c l s rows represents clean =
    let some = some_matches c.args.event.now c.args.matches.now c.requires.fits.sound in
    adds_all c.loop-place.place c.args.matches.now some c.loop-place-test.false (c.loop-place.invariant.1 clean l s rows represents)

pub returns-clause-lends : goal.returns-clause-lends
returns-clause-lends g c = c.loop-place.invariant.0

pub returns-in_err-insert_pairing-clause-lends : goal.returns-in_err-insert_pairing-clause-lends
returns-in_err-insert_pairing-clause-lends g c = lends_then c.loop-place.invariant.0 c.insert_pairing.ensures.lends
