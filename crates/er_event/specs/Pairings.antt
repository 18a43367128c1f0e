-- Which matches fit the rows that show them.
use Rattle.std.specs.Prelude.{ℕ, pos, Bool, ◌<◌, ◌-◌, IsTrue, IsFalse, IfSome, List, length, map, take, All}
use Rattle.std.specs.List.{enumerate_from}
use Rattle.std.specs.Ordering.{int_eq}
use Rattle.er_event.specs.declared.matches.Match.{Match}
use Rattle.er_event.specs.Score.{is_swiss_score}
use Rattle.er_event.specs.declared.rows.pairing.PairingRow.{PairingRow}
use Rattle.er_event.specs.Round.{is_bye}
use Rattle.er_event.specs.Rows.{pairing_row}

-- the numbers are 16 bits wide, and a score is one of a Swiss round
pub record FitsRow (m : Match) : Type 0 where
  pub first : m.a < 65536
  pub second : m.b < 65536
  pub score : IfSome m.score (λ s. IsTrue (is_swiss_score s))

-- no bye is among them
abbrev pub AreTables : List Match → Type 0
AreTables matches = All (λ (m : Match). IsFalse (is_bye m)) matches

-- the rows of matches at the tables from this one on
abbrev pub table_rows : ℕ → ℕ → List Match → List PairingRow
table_rows round table matches = map (pairing_row round) (enumerate_from table matches)

-- such matches, of which no other than the last is a bye
pub record FitRows (matches : List Match) : Type 0 where
  pub some : 0 < length matches
  pub each : All FitsRow matches
  pub bye_last : AreTables (take (length matches - 1) matches)

-- a row of this round
abbrev pub is_of : ℕ → PairingRow → Bool
is_of round row = int_eq row.round (pos round)
