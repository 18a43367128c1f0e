use Rattle.er_event.proofs.Prelude.{open_match, AreTables, table_rows, is_bye, pairing_row, Match, IsFalse, [], ap, ap₂, arith}
use Rattle.er_event.proofs.Prelude.{get_or, subst, sym, ◌++◌, ◌∙◌, ◌∷◌, ◌≡◌, common_steps, All-push, take_more, same_Some}
use Rattle.er_event.proofs.{PairingLemmas.{never_none, nothing}, RowLemmas.{all_shown, here_shown, rows_more}}
use Rattle.er_event.proofs.rows.pairing.read_tables.Goals as goal

pub returns-in_default-clause-exact : goal.returns-in_default-clause-exact
returns-in_default-clause-exact c ms shown tables are =
    let here = here_shown (pairing_row c.args.round) nothing c.args.rows.now c.loop-place.place c.loop-place-test.true ms (open_match 0 0)
    are in
    never_none c.read_table.result _ c.in_default.is (c.read_table.ensures.exact (get_or ms c.loop-place.place (open_match 0 0))
    (shown c.loop-place.place (open_match 0 0) here.0) (tables c.loop-place.place (open_match 0 0) here.0) here.1)

pub loop-place-preserved : goal.loop-place-preserved
loop-place-preserved c =
    let at = c.loop-place.place in
    let rows = c.args.rows.now in
    let items = c.loop-place.matches in
    let m = c.in-Some.played in
    let pushed = c.in_ok-push.ensures.ok in (
      grind (arith, common_steps),
      subst AreTables (sym pushed)
          (All-push (λ (k : Match). IsFalse (is_bye k)) items m c.loop-place.invariant.1 c.in-Some.ensures.value.1),
      rows_more (pairing_row c.args.round) nothing rows at c.loop-place-test.true items m c.loop-place.invariant.0 c.loop-place.invariant.2
          c.in-Some.ensures.value.0
          ∙ ap (table_rows c.args.round 1) (sym pushed),
      λ ms shown tables are.
          let here = here_shown (pairing_row c.args.round) nothing rows at c.loop-place-test.true ms m are in
          let found : m ≡ get_or ms at m =
          same_Some m _ (sym c.in-Some.is ∙ c.read_table.ensures.exact _ (shown at m here.0) (tables at m here.0) here.1) in
          pushed ∙ (ap₂ (λ xs k. xs ++ k ∷ []) (c.loop-place.invariant.3 ms shown tables are) found ∙ sym (take_more ms at m here.0)),
    )

pub returns-clause-exact : goal.returns-clause-exact
returns-clause-exact c ms shown tables are = c.loop-place.invariant.3 ms shown tables are
    ∙ all_shown (pairing_row c.args.round) nothing c.args.rows.now c.loop-place.place ms c.loop-place-test.false are
