-- What tables of fields are read as, and which row is the first bad one.
use Rattle.std.specs.Prelude.{◌≡◌, ℕ, ◌+◌, ◌==◌, nat_lt, nat_le, Bool, true, false, ◌&&◌, if◌then◌else◌, List, [], ◌∷◌, length, Option}
use Rattle.std.specs.Prelude.{Some, None, option_map, option_and_then, Result, Ok, Err, codes}
use Rattle.std.specs.List.{list_all}
use Rattle.std.specs.Char.{is_ascii_digit}
use Rattle.std.specs.Str.{bytes_eq}
use Rattle.std.specs.Str.Parse.{digits_value}
use Rattle.er_share.specs.declared.TheConstants.{MAX_ROUNDS}
use Rattle.er_event.specs.declared.players.TheConstants.{MAX_PLAYERS}
use Rattle.er_event.specs.declared.scores.Games.{Games}
use Rattle.er_event.specs.Name.{is_lawful_name}
use Rattle.er_event.specs.Score.{is_swiss_score}
use Rattle.er_paper.specs.declared.imports.CsvFault.{CsvFault}
use Rattle.er_paper.specs.declared.imports.CsvFault.TheVariants.{BadHeading, BadRow}
use Rattle.er_paper.specs.declared.imports.PlayerLine.{PlayerLine}
use Rattle.er_paper.specs.declared.imports.ResultLine.{ResultLine}
use Rattle.er_paper.specs.Csv.{HasRecords}
use Rattle.er_paper.specs.Slip.{games_with}
use Rattle.er_paper.specs.Tables.{players_heading, results_heading}

-- ---- fields

-- 1 to 6 digits
abbrev pub number_of : List ℕ → Option ℕ
number_of field =
    if nat_lt 0 (length field) && nat_le (length field) 6 && list_all is_ascii_digit field
    then Some (digits_value 10 field) else None

abbrev pub is_within : ℕ → ℕ → ℕ → Bool
is_within low high n = nat_le low n && nat_le n high

-- a field as a number from low to high
abbrev pub number_within : ℕ → ℕ → List ℕ → Option ℕ
number_within low high field = option_and_then (λ n. if is_within low high n then Some n else None) (number_of field)

-- the same two lists of fields
abbrev pub are_fields : List (List ℕ) → List (List ℕ) → Bool
are_fields [] [] = true
are_fields (f ∷ fs) (g ∷ gs) = bytes_eq f g && are_fields fs gs
are_fields [] (g ∷ gs) = false
are_fields (f ∷ fs) [] = false

-- ---- rows in turn

abbrev pub with_line : {L : Type 0} → ℕ → Option L → Result (List L) CsvFault → Result (List L) CsvFault
with_line row None later = Err (BadRow row)
with_line row (Some line) (Err fault) = Err fault
with_line row (Some line) (Ok lines) = Ok (line ∷ lines)

-- the lines of the rows from this one on, or the first bad row
abbrev pub lines_from : {L : Type 0} → (ℕ → List (List ℕ) → Option L) → ℕ → List (List (List ℕ)) → Result (List L) CsvFault
lines_from line row [] = Ok []
lines_from line row (fields ∷ later) = with_line row (line row fields) (lines_from line (row + 1) later)

-- ---- players

abbrev pub lawful_player_line : ℕ → List ℕ → Option ℕ → Option PlayerLine
lawful_player_line place name flag =
    if nat_le place MAX_PLAYERS && is_lawful_name name
    then option_map (λ f. record { no = place; name = name; dropped = f == 1 }) flag else None

-- The number is the row's place. A row after the 512th is bad.
abbrev pub full_line : ℕ → List (List ℕ) → Option PlayerLine
full_line place (number ∷ name ∷ dropped ∷ []) =
    option_and_then (λ n. lawful_player_line place name (number_within 0 1 dropped)) (number_within place place number)
full_line place _ = None

-- numbered by place, and nobody dropped
abbrev pub name_line : ℕ → List (List ℕ) → Option PlayerLine
name_line place (name ∷ []) = lawful_player_line place name (Some 0)
name_line place _ = None

-- the heading, and then the lines in turn
abbrev pub player_lines : List (List (List ℕ)) → Result (List PlayerLine) CsvFault
player_lines [] = Err BadHeading
player_lines (heading ∷ rows) =
    if are_fields heading players_heading then lines_from full_line 1 rows
    else if are_fields heading (codes "name" ∷ []) then lines_from name_line 1 rows
    else Err BadHeading

-- what the bytes are read as
abbrev pub ReadsPlayers : List ℕ → Result (List PlayerLine) CsvFault → Type 0
ReadsPlayers bytes result = (rows : List (List (List ℕ))) × HasRecords bytes rows × (result ≡ player_lines rows)

-- ---- results

-- a lawful Swiss score
abbrev pub if_lawful : Games → Option (Option Games)
if_lawful games = if is_swiss_score games then Some (Some games) else None

-- none if all three fields are empty
abbrev pub score_of : List ℕ → List ℕ → List ℕ → Option (Option Games)
score_of x y d =
    if length x == 0 && length y == 0 && length d == 0 then Some None
    else option_and_then if_lawful (games_with (number_within 0 255 x) (number_within 0 255 y) (number_within 0 255 d))

abbrev pub result_line : Option ℕ → Option ℕ → Option ℕ → Option ℕ → Option (Option Games) → Option ResultLine
result_line (Some round) (Some table) (Some a) (Some b) (Some score) =
    Some (record { round = round; table = table; a = a; b = b; score = score })
result_line _ _ _ _ _ = None

abbrev pub result_of : List (List ℕ) → Option ResultLine
result_of (round ∷ table ∷ a ∷ b ∷ x ∷ y ∷ d ∷ []) =
    result_line (number_within 1 MAX_ROUNDS round) (number_within 0 MAX_PLAYERS table)
    (number_within 1 MAX_PLAYERS a) (number_within 0 MAX_PLAYERS b) (score_of x y d)
result_of _ = None

abbrev pub result_lines : List (List (List ℕ)) → Result (List ResultLine) CsvFault
result_lines [] = Err BadHeading
result_lines (heading ∷ rows) = if are_fields heading results_heading then lines_from (λ place. result_of) 1 rows else Err BadHeading

abbrev pub ReadsResults : List ℕ → Result (List ResultLine) CsvFault → Type 0
ReadsResults bytes result = (rows : List (List (List ℕ))) × HasRecords bytes rows × (result ≡ result_lines rows)
