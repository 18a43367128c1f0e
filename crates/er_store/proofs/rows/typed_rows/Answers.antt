use Rattle.er_store.proofs.Prelude.{rules}
use Rattle.er_store.proofs.LoadLemmas.{not_typed}
use Rattle.er_store.proofs.rows.typed_rows.Goals as goal

pub returns-in_err-from_row-clause-refused : goal.returns-in_err-from_row-clause-refused
returns-in_err-from_row-clause-refused g c =
    let never = not_typed g.T.FromRow.form.columns c.args.rows.now c.loop-row.row-index c.row-item.result
    c.in_err-from_row.field-0.0 c.loop-row-test.true c.row-item.is c.in_err-from_row.ensures.refused in
    search (rules, never)
