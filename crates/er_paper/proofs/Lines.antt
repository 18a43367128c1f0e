-- Rows that are read in turn.
use Rattle.std.proofs.{lemmas.Grind.common_steps, Common.{◌≡◌, ℕ, zero, suc, ◌+◌, ◌<◌, ◌≤◌, List, [], ◌∷◌, ◌++◌, length, map, drop, get_or}}
use Rattle.std.proofs.Common.{Option, Some, Result, Ok, Err, refl, arith, drop-cons}
use Rattle.csv.specs.Records.{Row, fields_of}
use Rattle.er_paper.specs.{declared.imports.CsvFault.CsvFault, Reading.{lines_from, with_line}}

-- lines that were read, and then what the later rows are read as
abbrev pub after_lines : {L : Type 0} → List L → Result (List L) CsvFault → Result (List L) CsvFault
after_lines lines (Ok later) = Ok (lines ++ later)
after_lines lines (Err fault) = Err fault

after_one : {L : Type 0} (lines : List L) (place : ℕ) (line : L) (r : Result (List L) CsvFault)
    → after_lines lines (with_line place (Some line) r) ≡ after_lines (lines ++ line ∷ []) r
after_one lines place line h1 = grind (arith, common_steps)

none_left : {X : Type 0} (xs : List X) (n : ℕ) → length xs ≤ n → drop n xs ≡ []
none_left [] zero h = refl
none_left [] (suc n) h = refl
none_left (x ∷ xs) zero h = absurd (omega arith)
none_left (x ∷ xs) (suc n) h = none_left xs n (omega arith)

module _ {L : Type 0} (line : ℕ → List (List ℕ) → Option L) (rows : List Row) where
  -- what all rows are read as, from the lines of those before this one and the rows from it on
  abbrev pub Reached : List L → ℕ → Type 0
  Reached lines at = lines_from line 1 (map fields_of rows) ≡ after_lines lines (lines_from line (1 + at) (map fields_of (drop at rows)))

  module _ (lines : List L) (at : ℕ) (row : Row) (below : at < length rows) (is : row ≡ get_or rows at row)
      (so_far : Reached lines at) where
    here : lines_from line 1 (map fields_of rows) ≡ after_lines lines
        (with_line (1 + at) (line (1 + at) (fields_of row)) (lines_from line (1 + at + 1) (map fields_of (drop (suc at) rows))))
    here = grind (arith, common_steps, drop-cons)

    pub reached-more : (next : L) (place : ℕ) → line (1 + at) (fields_of row) ≡ Some next → place ≡ at + 1
        → Reached (lines ++ next ∷ []) place
    reached-more next place e p = grind (arith, common_steps)
