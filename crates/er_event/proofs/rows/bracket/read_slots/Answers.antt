use Rattle.er_event.proofs.Prelude.{open_match, bracket_row, slot_rows, [], ap, ap₂, arith, get_or, sym, ◌++◌, ◌∙◌, ◌∷◌, ◌≡◌}
use Rattle.er_event.proofs.Prelude.{common_steps, take_more, same_Some}
use Rattle.er_event.proofs.{PairingLemmas.never_none, RowLemmas.{all_shown, here_shown, rows_more}, StageLemmas.nothing}
use Rattle.er_event.proofs.rows.bracket.read_slots.Goals as goal

pub returns-in_default-clause-exact : goal.returns-in_default-clause-exact
returns-in_default-clause-exact c ms shown are =
    let here = here_shown (bracket_row c.args.stage) nothing c.args.rows.now c.loop-place.place c.loop-place-test.true ms (open_match 0 0)
    are in
    never_none c.read_match.result _ c.in_default.is (c.read_match.ensures.exact (get_or ms c.loop-place.place (open_match 0 0))
    (shown c.loop-place.place (open_match 0 0) here.0) here.1)

pub loop-place-preserved : goal.loop-place-preserved
loop-place-preserved c =
    let at = c.loop-place.place in
    let rows = c.args.rows.now in
    let items = c.loop-place.matches in
    let m = c.in-Some.played in
    let pushed = c.in_ok-push.ensures.ok in (
      grind (arith, common_steps),
      rows_more (bracket_row c.args.stage) nothing rows at c.loop-place-test.true items m c.loop-place.invariant.0 c.loop-place.invariant.1
          c.in-Some.ensures.value
          ∙ ap (slot_rows c.args.stage 1) (sym pushed),
      λ ms shown are.
          let here = here_shown (bracket_row c.args.stage) nothing rows at c.loop-place-test.true ms m are in
          let found : m ≡ get_or ms at m =
          same_Some m _ (sym c.in-Some.is ∙ c.read_match.ensures.exact _ (shown at m here.0) here.1) in
          pushed ∙ (ap₂ (λ xs k. xs ++ k ∷ []) (c.loop-place.invariant.2 ms shown are) found ∙ sym (take_more ms at m here.0)),
    )

pub returns-clause-exact : goal.returns-clause-exact
returns-clause-exact c ms shown are = c.loop-place.invariant.2 ms shown are
    ∙ all_shown (bracket_row c.args.stage) nothing c.args.rows.now c.loop-place.place ms c.loop-place-test.false are
