use Rattle.er_event.proofs.Prelude.{PairingRow, List, ap, arith, drop, get_or, inl, inr, sym, true≢false, ◌∙◌}
use Rattle.er_event.proofs.Prelude.{common_steps, take_rest}
use Rattle.er_event.proofs.PairingLemmas.{bye_or_tables, first_is_bye, first_is_table, found_as, keyed-tables, none_first, nothing}
use Rattle.er_event.proofs.PairingLemmas.{some_rows, with_bye_rows}
use Rattle.er_event.proofs.rows.pairing.read_round.Goals.{then-is_empty-via-else-is_empty+then-not-is_bye_row}
use Rattle.er_event.proofs.rows.pairing.read_round.Goals.{then-is_empty-via-then-is_empty}
use Rattle.er_event.proofs.rows.pairing.read_round.Goals as goal

pub returns-then-is_empty-clause-value : goal.returns-then-is_empty-clause-value
returns-then-is_empty-clause-value c = grind (arith, common_steps, keyed-tables)

pub returns-then-is_empty-clause-exact : goal.returns-then-is_empty-clause-exact
returns-then-is_empty-clause-exact c ms shown are =
    let r = c.args.round in
    let rows = c.args.rows.now in
    elim (bye_or_tables ms shown) [
      | inl tables ↦ c.read_tables.ensures.exact ms shown.each tables (are ∙ keyed-tables r ms tables)
      | inr w ↦ absurd (elim c.then-is_empty.branch [
        | then-is_empty-via-then-is_empty v ↦ none_first r rows ms w are (sym c.is_empty.ensures ∙ v.if-is_empty.true)
        | then-is_empty-via-else-is_empty+then-not-is_bye_row v ↦ true≢false
            (sym w.is_bye ∙ (sym (v.is_bye_row.ensures r 0 w.bye (first_is_bye r rows ms w are)) ∙ v.if-not-is_bye_row.true))
      ])
    ]

pub returns-clause-exact : goal.returns-clause-exact
returns-clause-exact c ms shown are =
    let r = c.args.round in
    let rows = c.args.rows.now in
    elim (bye_or_tables ms shown) [
      | inl tables ↦ absurd (let first = first_is_table r rows ms tables are (some_rows rows (sym c.is_empty.ensures ∙ c.if-is_empty.false))
          in true≢false (sym c.if-not-is_bye_row.false ∙ (c.is_bye_row.ensures r 0 first.0 first.2 ∙ first.1)))
      | inr w ↦ found_as _ c.read_with_bye.result w.are (c.read_with_bye.ensures.exact w.tables w.bye w.shown w.no_byes w.bye_shown w.is_bye
          (ap (λ (rs : List PairingRow). get_or rs 0 nothing) (with_bye_rows r rows ms w are))
          (take_rest rows 1 ∙ ap (drop 1) (with_bye_rows r rows ms w are)))
    ]
