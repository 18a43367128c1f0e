-- Which matches fit the rows of a bracket.
use Rattle.std.specs.Prelude.{ℕ, pos, Bool, ◌<◌, IsTrue, IfSome, List, length, map, All}
use Rattle.std.specs.List.{enumerate_from}
use Rattle.std.specs.Ordering.{int_eq}
use Rattle.er_event.specs.declared.matches.Match.{Match}
use Rattle.er_event.specs.declared.rows.bracket.BracketRow.{BracketRow}
use Rattle.er_event.specs.Score.{is_playoff_score}
use Rattle.er_event.specs.Rows.{bracket_row}

-- the numbers are 16 bits wide, and a score is one of the playoff
pub record FitsSlotRow (m : Match) : Type 0 where
  pub first : m.a < 65536
  pub second : m.b < 65536
  pub score : IfSome m.score (λ s. IsTrue (is_playoff_score s))

-- the rows of matches at the slots from this one on
abbrev pub slot_rows : ℕ → ℕ → List Match → List BracketRow
slot_rows stage slot matches = map (bracket_row stage) (enumerate_from slot matches)

-- such matches, and at least one
pub record FitStageRows (matches : List Match) : Type 0 where
  pub some : 0 < length matches
  pub each : All FitsSlotRow matches

-- a row of this stage
abbrev pub is_of_stage : ℕ → BracketRow → Bool
is_of_stage stage row = int_eq row.stage (pos stage)
