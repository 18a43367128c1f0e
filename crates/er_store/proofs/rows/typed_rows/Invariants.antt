use Rattle.er_store.proofs.Prelude.{◌≡◌, map, take, first_columns}
use Rattle.er_store.proofs.rows.typed_rows.Given as goal

abbrev pub invariant-loop-row : goal.invariant-loop-row
invariant-loop-row g l = map g.T.FromRow.form.columns l.typed.items ≡ map (first_columns g.T.FromRow.form.width) (take l.row-index l.rows)
