use Rattle.std.proofs.lemmas.Result.{err_from_is_err_and}
use Rattle.er_store.proofs.Prelude.{◌≡◌, ◌+◌, ◌∙◌, ℕ, map, arith, ap, range_with_len, Row, Int, column, TallyRow, tally_columns}
use Rattle.er_store.proofs.rows.tally_at.Goals as goal

-- what the five columns show of a tally
shown : (row : Row) (at : ℕ) (r : TallyRow) → map (column row) (range_with_len at 5) ≡ tally_columns r
    → (column row at ≡ Int r.no) × (column row (at + 1) ≡ Int r.points) × (column row (at + 2) ≡ Int r.rounds)
    × (column row (at + 3) ≡ Int r.gamepoints) × (column row (at + 4) ≡ Int r.games)
shown row at r is =
    let nth = λ (k : ℕ). ap (λ (cs : Row). column cs k) is in
    let place = λ (n m : ℕ) (same : n ≡ m). ap (column row) same in
    (nth 0, nth 1, place _ _ (omega arith) ∙ nth 2, place _ _ (omega arith) ∙ nth 3, place _ _ (omega arith) ∙ nth 4)

-- if one of them isn't a number, they are of no tally
pub returns-in_err-get-clause-refused : goal.returns-in_err-get-clause-refused
returns-in_err-get-clause-refused c =
    let p = err_from_is_err_and c.from_residual.result c.from_residual.ensures.1 in
    let it = shown c.args.row.now c.args.at in
    rw (p.1, p.2) (λ other fits r is. c.in_err-get.ensures.kind other (omega arith) (r.no, (it r is).0))

pub returns-in_err-get-2-clause-refused : goal.returns-in_err-get-2-clause-refused
returns-in_err-get-2-clause-refused c =
    let p = err_from_is_err_and c.from_residual-in_err-get-2.result c.from_residual-in_err-get-2.ensures.1 in
    let it = shown c.args.row.now c.args.at in
    rw (p.1, p.2) (λ other fits r is. c.in_err-get-2.ensures.kind other (omega arith) (r.points, (it r is).1))

pub returns-in_err-get-3-clause-refused : goal.returns-in_err-get-3-clause-refused
returns-in_err-get-3-clause-refused c =
    let p = err_from_is_err_and c.from_residual-in_err-get-3.result c.from_residual-in_err-get-3.ensures.1 in
    let it = shown c.args.row.now c.args.at in
    rw (p.1, p.2) (λ other fits r is. c.in_err-get-3.ensures.kind other (omega arith) (r.rounds, (it r is).2))

pub returns-in_err-get-4-clause-refused : goal.returns-in_err-get-4-clause-refused
returns-in_err-get-4-clause-refused c =
    let p = err_from_is_err_and c.from_residual-in_err-get-4.result c.from_residual-in_err-get-4.ensures.1 in
    let it = shown c.args.row.now c.args.at in
    rw (p.1, p.2) (λ other fits r is. c.in_err-get-4.ensures.kind other (omega arith) (r.gamepoints, (it r is).3))

pub returns-in_err-get-5-clause-refused : goal.returns-in_err-get-5-clause-refused
returns-in_err-get-5-clause-refused c =
    let p = err_from_is_err_and c.from_residual-in_err-get-5.result c.from_residual-in_err-get-5.ensures.1 in
    let it = shown c.args.row.now c.args.at in
    rw (p.1, p.2) (λ other fits r is. c.in_err-get-5.ensures.kind other (omega arith) (r.games, (it r is).4))
