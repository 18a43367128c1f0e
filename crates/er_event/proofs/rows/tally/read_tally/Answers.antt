use Rattle.er_event.proofs.Prelude.{Some, TallyRow, ap, none-some, refl, rules, same_Some, sym, totals, ℕ, ◌∙◌, ◌≡◌}
use Rattle.er_event.proofs.{OverLemmas.totals-readable, RowLemmas.{read_16, read_8}}
use Rattle.er_event.specs.declared.totals.Totals.{Totals}
use Rattle.er_event.proofs.rows.tally.read_tally.Goals as goal

pub returns-in_err-no-clause-value : goal.returns-in_err-no-clause-value
returns-in_err-no-clause-value c = rw c.from_residual.ensures tt

pub returns-in_err-ok-clause-value : goal.returns-in_err-ok-clause-value
returns-in_err-ok-clause-value c = rw c.from_residual-in_err-ok.ensures tt

pub returns-in_err-ok-clause-exact : goal.returns-in_err-ok-clause-exact
returns-in_err-ok-clause-exact c n t low few fits is =
    absurd (none-some _ (sym c.in_err-ok.was ∙ read_8 _ c.args.row.now.points c.try_from-2.result c.ok-2.result c.ok-2.ensures.value
    (ap (λ (row : TallyRow). row.points) is) c.try_from-2.ensures fits.points))

pub returns-in_err-ok-clause-event : goal.returns-in_err-ok-clause-event
returns-in_err-ok-clause-event c e n sound low few is =
    returns-in_err-ok-clause-exact c n (totals e n) low few (totals-readable e sound n) is

pub returns-in_err-ok-2-clause-value : goal.returns-in_err-ok-2-clause-value
returns-in_err-ok-2-clause-value c = rw c.from_residual-in_err-ok-2.ensures tt

pub returns-in_err-ok-2-clause-exact : goal.returns-in_err-ok-2-clause-exact
returns-in_err-ok-2-clause-exact c n t low few fits is =
    absurd (none-some _ (sym c.in_err-ok-2.was ∙ read_8 _ c.args.row.now.rounds c.try_from-3.result c.ok-3.result c.ok-3.ensures.value
    (ap (λ (row : TallyRow). row.rounds) is) c.try_from-3.ensures fits.rounds))

pub returns-in_err-ok-2-clause-event : goal.returns-in_err-ok-2-clause-event
returns-in_err-ok-2-clause-event c e n sound low few is =
    returns-in_err-ok-2-clause-exact c n (totals e n) low few (totals-readable e sound n) is

pub returns-in_err-ok-3-clause-value : goal.returns-in_err-ok-3-clause-value
returns-in_err-ok-3-clause-value c = rw c.from_residual-in_err-ok-3.ensures tt

pub returns-in_err-ok-3-clause-exact : goal.returns-in_err-ok-3-clause-exact
returns-in_err-ok-3-clause-exact c n t low few fits is =
    absurd (none-some _ (sym c.in_err-ok-3.was ∙ read_16 _ c.args.row.now.gamepoints c.try_from-4.result c.ok-4.result
    c.ok-4.ensures.value (ap (λ (row : TallyRow). row.gamepoints) is) c.try_from-4.ensures fits.game_points))

pub returns-in_err-ok-3-clause-event : goal.returns-in_err-ok-3-clause-event
returns-in_err-ok-3-clause-event c e n sound low few is =
    returns-in_err-ok-3-clause-exact c n (totals e n) low few (totals-readable e sound n) is

pub returns-in_err-ok-4-clause-value : goal.returns-in_err-ok-4-clause-value
returns-in_err-ok-4-clause-value c = rw c.from_residual-in_err-ok-4.ensures tt

pub returns-in_err-ok-4-clause-exact : goal.returns-in_err-ok-4-clause-exact
returns-in_err-ok-4-clause-exact c n t low few fits is =
    absurd (none-some _ (sym c.in_err-ok-4.was ∙ read_16 _ c.args.row.now.games c.try_from-5.result c.ok-5.result
    c.ok-5.ensures.value (ap (λ (row : TallyRow). row.games) is) c.try_from-5.ensures fits.games))

pub returns-in_err-ok-4-clause-event : goal.returns-in_err-ok-4-clause-event
returns-in_err-ok-4-clause-event c e n sound low few is =
    returns-in_err-ok-4-clause-exact c n (totals e n) low few (totals-readable e sound n) is

same_tally : (n m p r g k : ℕ) (t : Totals) → n ≡ m → p ≡ t.points → r ≡ t.rounds → g ≡ t.game_points → k ≡ t.games
    → ◌≡◌ {A = ℕ × Totals} (n, record { points = p; rounds = r; game_points = g; games = k }) (m, t)
same_tally n m p r g k t number points rounds game_points games = rw (number, points, rounds, game_points, games) refl

pub returns-clause-exact : goal.returns-clause-exact
returns-clause-exact c n t low few fits is =
    let number : c.in_ok-no.no ≡ n = search rules in
    ap (λ (it : ℕ × Totals). Some it) (same_tally _ _ _ _ _ _ t number
    (same_Some _ _ (sym c.in_ok-ok.was ∙ read_8 _ c.args.row.now.points c.try_from-2.result c.ok-2.result c.ok-2.ensures.value
    (ap (λ (row : TallyRow). row.points) is) c.try_from-2.ensures fits.points))
    (same_Some _ _ (sym c.in_ok-ok-2.was ∙ read_8 _ c.args.row.now.rounds c.try_from-3.result c.ok-3.result c.ok-3.ensures.value
    (ap (λ (row : TallyRow). row.rounds) is) c.try_from-3.ensures fits.rounds))
    (same_Some _ _ (sym c.in_ok-ok-3.was ∙ read_16 _ c.args.row.now.gamepoints c.try_from-4.result c.ok-4.result
    c.ok-4.ensures.value (ap (λ (row : TallyRow). row.gamepoints) is) c.try_from-4.ensures fits.game_points))
    (same_Some _ _ (sym c.in_ok-ok-4.was ∙ read_16 _ c.args.row.now.games c.try_from-5.result c.ok-5.result
    c.ok-5.ensures.value (ap (λ (row : TallyRow). row.games) is) c.try_from-5.ensures fits.games)))

pub returns-clause-event : goal.returns-clause-event
returns-clause-event c e n sound low few is = returns-clause-exact c n (totals e n) low few (totals-readable e sound n) is
