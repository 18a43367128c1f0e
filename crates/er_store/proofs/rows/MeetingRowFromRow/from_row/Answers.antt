use Rattle.std.proofs.lemmas.Result.{err_from_is_err_and}
use Rattle.er_store.proofs.Prelude.{arith, refl}
use Rattle.er_store.proofs.rows.MeetingRowFromRow.from_row.Goals as goal

pub returns-in_err-tally_at-clause-refused : goal.returns-in_err-tally_at-clause-refused
returns-in_err-tally_at-clause-refused c =
    let p = err_from_is_err_and c.from_residual-in_err-tally_at.result c.from_residual-in_err-tally_at.ensures.1 in
    rw (p.1, p.2) (λ other r is. c.in_err-tally_at.ensures.refused other (rw is (omega arith)) r.lo (rw is refl))
