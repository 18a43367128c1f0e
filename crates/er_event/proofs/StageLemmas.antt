-- Rows of a bracket, and the matches that they show.
use Rattle.er_event.proofs.Prelude.{enumerate_from, bracket_row, bracket_rows_from, Match, BracketRow, FitStageRows, List, [], arith}
use Rattle.er_event.proofs.Prelude.{false, pos, refl, ℕ, ℤ, ◌+◌, ◌∷◌, ◌≡◌, Decides-int_eq, common_steps, Decides}
use Rattle.std.proofs.lemmas.List.FromFn.{length-enumerate_from}
use Rattle.er_event.proofs.RowLemmas.{AreInTurn, agree, agree-Decides}
use Rattle.er_event.specs.inside.Stages.{is_of_stage}

abbrev columns : BracketRow → BracketRow → List (ℤ × ℤ)
columns a b = (a.stage, b.stage) ∷ (a.slot, b.slot) ∷ (a.a, b.a) ∷ (a.b, b.b) ∷ (a.done, b.done) ∷ (a.x, b.x) ∷ (a.y, b.y) ∷ (a.d, b.d) ∷ []

-- rows that agree in each column
pub same_rows : (a b : BracketRow) → Decides (agree (columns a b)) (a ≡ b)
same_rows a b = let each = agree-Decides (columns a b) in (λ is. (let same = each.0 is in grind arith), λ e. each.1 (grind arith))

-- what stands at a place that isn't there
abbrev pub nothing : BracketRow
nothing = record { stage = pos 0; slot = pos 0; a = pos 0; b = pos 0; done = pos 0; x = pos 0; y = pos 0; d = pos 0 }

-- the rows of another stage
other_row : (r : ℕ) (n : ℕ × Match) → is_of_stage r (bracket_row (r + 1) n) ≡ false
other_row r n = grind (arith, common_steps)

pub stages_in_turn : AreInTurn FitStageRows (enumerate_from 1) bracket_row is_of_stage bracket_rows_from
stages_in_turn = record {
  none = λ n. refl;
  more = λ n g gs. refl;
  some = λ g shown. omega (arith, length-enumerate_from 1 g, shown.some);
  own = λ n x. (Decides-int_eq (pos n) (pos n)).1 refl;
  other = other_row;
}
