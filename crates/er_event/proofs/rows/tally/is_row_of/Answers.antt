use Rattle.er_event.proofs.Prelude.{List, [], arith, sym, ℤ, ◌∙◌, ◌∷◌, ◌≡◌, Decides, TallyRow}
use Rattle.er_event.proofs.RowLemmas.{agree, agree-Decides}
use Rattle.er_event.proofs.rows.tally.is_row_of.Goals as goal

abbrev columns : TallyRow → TallyRow → List (ℤ × ℤ)
columns a b = (a.no, b.no) ∷ (a.points, b.points) ∷ (a.rounds, b.rounds) ∷ (a.gamepoints, b.gamepoints) ∷ (a.games, b.games) ∷ []

same_rows : (a b : TallyRow) → Decides (agree (columns a b)) (a ≡ b)
same_rows a b = let each = agree-Decides (columns a b) in (λ is. (let same = each.0 is in grind arith), λ e. each.1 (grind arith))

pub returns : goal.returns
returns c =
    let same = same_rows c.args.row.now c.of.result in
    (λ is. same.0 (sym c.eq.ensures ∙ is) ∙ c.of.ensures, λ is. c.eq.ensures ∙ same.1 (is ∙ sym c.of.ensures))
