-- Worked examples, computed from the definitions: tables as CSV, and what is read of them.
use Rattle.std.specs.{Prelude.{◌≡◌, ℕ, Bool, true, false, List, [], ◌∷◌, map, Option, Some, None, Ok, Err, codes, refl}, Str.is_utf8}
use Rattle.std.specs.{Str.chars, Char.encode_utf8, Fmt.digits}
use Rattle.csv.specs.{Machine.next_record, Reading.{Reached, strip_bom}, Writing.{escaped, fields_text, is_blank}}
use Rattle.er_paper.specs.Csv.{csv_text}
use Rattle.er_event.specs.{declared.players.Player.Player, declared.matches.Match.Match, declared.rounds.Round.Round}
use Rattle.er_event.specs.declared.scores.Games.{Games}
use Rattle.er_paper.specs.{declared.imports.CsvFault.TheVariants.{BadHeading, BadRow}, declared.imports.PlayerLine.PlayerLine}
use Rattle.er_paper.specs.{Csv.HasRecords, Reading.{number_of, player_lines, result_lines}}
use Rattle.er_paper.specs.Tables.{players_heading, player_fields, results_heading, rounds_table}
use Rattle.csv.specs.declared.parser.State.TheVariants as st

abbrev games : ℕ → ℕ → ℕ → Games
games x y d = record { x = x; y = y; d = d }

-- ---- tables that are written

abbrev player : ℕ → List ℕ → Bool → Player
player number name dropped = record { no = number; name = name; dropped = dropped; joined = 0 }

-- a comma in a name calls for quotes
pub table_of_players : csv_text (players_heading ∷ map player_fields
    (player 1 (codes "Ana") false ∷ player 2 (codes "Bo") true ∷ player 3 (codes "Lee, Jo") false ∷ []))
    ≡ codes "no,name,dropped\n1,Ana,0\n2,Bo,1\n3,\"Lee, Jo\",0\n"
unfolding csv_text fields_text escaped is_blank digits
table_of_players = refl

abbrev played : ℕ → ℕ → Option Games → Match
played a b score = record { a = a; b = b; score = score }

abbrev round_of : List Match → Round
round_of matches = record { matches = matches }

-- an open match has empty fields, and a bye has table 0 and no opponent
pub table_of_results : csv_text (results_heading ∷ rounds_table 1
    (round_of (played 4 2 (Some (games 2 0 0)) ∷ played 3 0 (Some (games 2 0 0)) ∷ []) ∷ round_of (played 1 4 None ∷ []) ∷ []))
    ≡ codes "round,table,a,b,x,y,d\n1,1,4,2,2,0,0\n1,0,3,0,2,0,0\n2,1,1,4,,,\n"
unfolding csv_text fields_text escaped is_blank digits
table_of_results = refl

-- ---- tables that are read: the records of a text, and then what they are

pub names_as_records : HasRecords (codes "name\nAna\nBo\nAna\n")
    ((codes "name" ∷ []) ∷ (codes "Ana" ∷ []) ∷ (codes "Bo" ∷ []) ∷ (codes "Ana" ∷ []) ∷ [])
unfolding next_record Reached strip_bom digits
names_as_records = (st.StartRecord, [], (_, refl, refl, (_, refl, refl, (_, refl, refl, (_, refl, refl, (refl, refl))))), refl)

-- after a byte order mark, and with lines that end in CR LF
pub marked_as_records : HasRecords (0xEF ∷ 0xBB ∷ 0xBF ∷ codes "name\r\nAna\r\n") ((codes "name" ∷ []) ∷ (codes "Ana" ∷ []) ∷ [])
unfolding next_record Reached strip_bom digits
marked_as_records = (st.AfterCr, codes "\n", (_, refl, refl, (_, refl, refl, (refl, refl))), refl)

-- the crate takes off a second one
pub marked_twice : HasRecords (0xEF ∷ 0xBB ∷ 0xBF ∷ 0xEF ∷ 0xBB ∷ 0xBF ∷ codes "name\nAna\n")
    ((codes "name" ∷ []) ∷ (codes "Ana" ∷ []) ∷ [])
unfolding next_record Reached strip_bom digits
marked_twice = (st.StartRecord, [], (_, refl, refl, (_, refl, refl, (refl, refl))), refl)

abbrev line : ℕ → List ℕ → Bool → PlayerLine
line number name dropped = record { no = number; name = name; dropped = dropped }

-- a name may stand twice
pub names_read : player_lines ((codes "name" ∷ []) ∷ (codes "Ana" ∷ []) ∷ (codes "Bo" ∷ []) ∷ (codes "Ana" ∷ []) ∷ []) ≡ Ok
    (line 1 (codes "Ana") false ∷ line 2 (codes "Bo") false ∷ line 3 (codes "Ana") false ∷ [])
unfolding is_utf8 chars encode_utf8 digits
names_read = refl

pub players_read : player_lines (players_heading ∷ (codes "1" ∷ codes "Ana" ∷ codes "0" ∷ []) ∷ (codes "2" ∷ codes "Bo" ∷ codes "1" ∷ [])
    ∷ []) ≡ Ok (line 1 (codes "Ana") false ∷ line 2 (codes "Bo") true ∷ [])
unfolding is_utf8 chars encode_utf8 digits
players_read = refl

pub nothing_read : player_lines [] ≡ Err BadHeading
nothing_read = refl

pub other_heading : player_lines ((codes "names" ∷ []) ∷ (codes "Ana" ∷ []) ∷ []) ≡ Err BadHeading
other_heading = refl

pub other_number : player_lines (players_heading ∷ (codes "2" ∷ codes "Ana" ∷ codes "0" ∷ []) ∷ []) ≡ Err (BadRow 1)
unfolding is_utf8 chars encode_utf8 digits
other_number = refl

-- the first bad row is named
pub second_and_third_bad : player_lines ((codes "name" ∷ []) ∷ (codes "Ana" ∷ []) ∷ ([] ∷ []) ∷ ([] ∷ []) ∷ []) ≡ Err (BadRow 2)
unfolding is_utf8 chars encode_utf8 digits
second_and_third_bad = refl

-- 1 to 6 digits and no sign
pub numbers_read : map number_of (codes "0" ∷ codes "000512" ∷ codes "999999" ∷ [] ∷ codes "1000000" ∷ codes "0000001" ∷ codes "+1"
    ∷ codes " 1" ∷ []) ≡ Some 0 ∷ Some 512 ∷ Some 999999 ∷ None ∷ None ∷ None ∷ None ∷ None ∷ []
numbers_read = refl

-- a row of results, in its fields
abbrev row : List ℕ → List ℕ → List ℕ → List ℕ → List ℕ → List ℕ → List ℕ → List (List ℕ)
row round table a b x y d = round ∷ table ∷ a ∷ b ∷ x ∷ y ∷ d ∷ []

pub results_read : result_lines (results_heading ∷ row (codes "1") (codes "1") (codes "4") (codes "2") (codes "2") (codes "0")
    (codes "0") ∷ row (codes "1") (codes "0") (codes "3") (codes "0") (codes "2") (codes "0") (codes "0") ∷ row (codes "12") (codes "512")
    (codes "512") (codes "512") [] [] [] ∷ [])
    ≡ Ok (record { round = 1; table = 1; a = 4; b = 2; score = Some (games 2 0 0) } ∷ record {
      round = 1;
      table = 0;
      a = 3;
      b = 0;
      score = Some (games 2 0 0);
    } ∷ record { round = 12; table = 512; a = 512; b = 512; score = None } ∷ [])
results_read = refl

pub heading_of_players : result_lines (players_heading ∷ []) ≡ Err BadHeading
heading_of_players = refl

-- no lawful score, a part of one, a thirteenth round, round 0, table 513, player 0, and player 513 as either
pub no_results : map (λ fields. result_lines (results_heading ∷ fields ∷ []))
    (row (codes "1") (codes "1") (codes "4") (codes "2") (codes "2") (codes "2") (codes "0") ∷ row (codes "1") (codes "1") (codes "4")
    (codes "2") (codes "2") (codes "2") []
    ∷ row (codes "13") (codes "1") (codes "4") (codes "2") [] [] [] ∷ row (codes "0") (codes "1") (codes "4") (codes "2") [] [] [] ∷ row
    (codes "1") (codes "513") (codes "4") (codes "2") [] [] []
    ∷ row (codes "1") (codes "1") (codes "0") (codes "2") [] [] [] ∷ row (codes "1") (codes "1") (codes "513") (codes "2") [] [] [] ∷ row
    (codes "1") (codes "1") (codes "4") (codes "513") [] [] [] ∷ (codes "1" ∷ []) ∷ [])
    ≡ Err (BadRow 1) ∷ Err (BadRow 1) ∷ Err (BadRow 1) ∷ Err (BadRow 1) ∷ Err (BadRow 1) ∷ Err (BadRow 1) ∷ Err (BadRow 1) ∷ Err
    (BadRow 1) ∷ Err (BadRow 1) ∷ []
no_results = refl
