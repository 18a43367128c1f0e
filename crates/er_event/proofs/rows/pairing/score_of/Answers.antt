use Rattle.er_event.proofs.Prelude.{Games, IfSome, IsTrue, None, Option, PairingRow, Some, ap, arith, is_swiss_score, pos}
use Rattle.er_event.proofs.Prelude.{nat_tests, none-some, rules, same_Some, sym, ◌<◌, ◌∙◌, ◌≡◌, ℕ}
use Rattle.er_event.specs.Rows.{flag, reported_games}
use Rattle.std.proofs.Common.{is_some, if◌then◌else◌, refl}
use Rattle.er_event.proofs.RowLemmas.{read_8}
use Rattle.er_event.proofs.rows.pairing.score_of.Goals as goal

lawful : (o : Option Games) → IfSome o (λ s. IsTrue (is_swiss_score s)) → IsTrue (is_swiss_score (reported_games o))
lawful None fits = refl
lawful (Some s) fits = fits

few : (s : Games) → IsTrue (is_swiss_score s) → (s.x < 256) × ((s.y < 256) × (s.d < 256))
few s is = grind (arith, nat_tests)

taken : (x y d : ℕ) (s : Games) (o : Option Games)
    → o ≡ (let it : Games = record { x = x; y = y; d = d } in if is_swiss_score it then Some it else None)
    → x ≡ s.x → y ≡ s.y → d ≡ s.d → IsTrue (is_swiss_score s) → o ≡ Some s
taken x y d s o is x_is y_is d_is fits = is ∙ rw (x_is, y_is, d_is, fits) refl

was_reported : (o : Option Games) → flag (is_some o) ≡ pos 1 → Some (reported_games o) ≡ o
was_reported None done = absurd (cc)
was_reported (Some s) done = refl

pub returns-in_err-x-in-1 : goal.returns-in_err-x-in-1
returns-in_err-x-in-1 c round n fits is =
    let small = few (reported_games n.1.score) (lawful n.1.score fits.score) in
    absurd (none-some _ (sym c.in_err-x-in-1.was ∙ read_8 _ c.args.row.now.x c.try_from.result c.ok.result
    c.ok.ensures.value (ap (λ (row : PairingRow). row.x) is) c.try_from.ensures small.0))

pub returns-in_err-y-in-1 : goal.returns-in_err-y-in-1
returns-in_err-y-in-1 c round n fits is =
    let small = few (reported_games n.1.score) (lawful n.1.score fits.score) in
    absurd (none-some _ (sym c.in_err-y-in-1.was ∙ read_8 _ c.args.row.now.y c.try_from-in-1.result c.ok-in-1.result
    c.ok-in-1.ensures.value (ap (λ (row : PairingRow). row.y) is) c.try_from-in-1.ensures small.1.0))

pub returns-in_err-d-in-1 : goal.returns-in_err-d-in-1
returns-in_err-d-in-1 c round n fits is =
    let small = few (reported_games n.1.score) (lawful n.1.score fits.score) in
    absurd (none-some _ (sym c.in_err-d-in-1.was ∙ read_8 _ c.args.row.now.d c.try_from-in-1-2.result c.ok-in-1-2.result
    c.ok-in-1-2.ensures.value (ap (λ (row : PairingRow). row.d) is) c.try_from-in-1-2.ensures small.1.1))

pub returns-in_err-swiss-in-1 : goal.returns-in_err-swiss-in-1
returns-in_err-swiss-in-1 c round n fits is =
    let games = reported_games n.1.score in
    let swiss = lawful n.1.score fits.score in
    let small = few games swiss in
    absurd (none-some games (sym c.in_err-swiss-in-1.was ∙ taken _ _ _ games c.swiss.result c.swiss.ensures
    (same_Some _ _ (sym c.in_ok-x-in-1.was ∙ read_8 _ c.args.row.now.x c.try_from.result c.ok.result
    c.ok.ensures.value (ap (λ (row : PairingRow). row.x) is) c.try_from.ensures small.0))
    (same_Some _ _ (sym c.in_ok-y-in-1.was ∙ read_8 _ c.args.row.now.y c.try_from-in-1.result c.ok-in-1.result
    c.ok-in-1.ensures.value (ap (λ (row : PairingRow). row.y) is) c.try_from-in-1.ensures small.1.0))
    (same_Some _ _ (sym c.in_ok-d-in-1.was ∙ read_8 _ c.args.row.now.d c.try_from-in-1-2.result c.ok-in-1-2.result
    c.ok-in-1-2.ensures.value (ap (λ (row : PairingRow). row.d) is) c.try_from-in-1-2.ensures small.1.1)) swiss))

pub returns-in_ok-swiss-in-1 : goal.returns-in_ok-swiss-in-1
returns-in_ok-swiss-in-1 c round n fits is =
    let games = reported_games n.1.score in
    let swiss = lawful n.1.score fits.score in
    let small = few games swiss in
    let done : c.args.row.now.done ≡ pos 1 = search rules in
    ap (λ (o : Option Games). Some o) (sym c.in_ok-swiss-in-1.was ∙ (taken _ _ _ games c.swiss.result c.swiss.ensures
    (same_Some _ _ (sym c.in_ok-x-in-1.was ∙ read_8 _ c.args.row.now.x c.try_from.result c.ok.result
    c.ok.ensures.value (ap (λ (row : PairingRow). row.x) is) c.try_from.ensures small.0))
    (same_Some _ _ (sym c.in_ok-y-in-1.was ∙ read_8 _ c.args.row.now.y c.try_from-in-1.result c.ok-in-1.result
    c.ok-in-1.ensures.value (ap (λ (row : PairingRow). row.y) is) c.try_from-in-1.ensures small.1.0))
    (same_Some _ _ (sym c.in_ok-d-in-1.was ∙ read_8 _ c.args.row.now.d c.try_from-in-1-2.result c.ok-in-1-2.result
    c.ok-in-1-2.ensures.value (ap (λ (row : PairingRow). row.d) is) c.try_from-in-1-2.ensures small.1.1)) swiss
    ∙ was_reported n.1.score (sym (ap (λ (row : PairingRow). row.done) is) ∙ done)))
