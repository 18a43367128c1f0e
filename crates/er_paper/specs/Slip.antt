-- The slip of a match as JSON, and the games that a filled-in slip hands in.
use Rattle.std.specs.Prelude.{ℕ, nat_lt, ◌&&◌, if◌then◌else◌, List, Option, Some, None, option_and_then, codes}
use Rattle.std.specs.Str.{bytes_eq, is_utf8}
use Rattle.serde_json.specs.Data.{Data, Members, null, number, unsigned, string, object, member, no_members}
use Rattle.serde_json.specs.Find.{as_number, as_u64, as_object}
use Rattle.serde_json.specs.Read.{read}
use Rattle.serde_json.specs.Written.{compact_text}
use Rattle.er_event.specs.declared.scores.Games.{Games}
use Rattle.er_event.specs.declared.slips.SlipRow.{SlipRow}

-- ---- the slip, whose keys stand in the order of their names

abbrev pub games_data : Games → Data
games_data g =
    object
    (member (codes "a") (number (unsigned g.x))
    (member (codes "b") (number (unsigned g.y)) (member (codes "d") (number (unsigned g.d)) no_members)))

abbrev pub score_data : Option Games → Data
score_data None = null
score_data (Some g) = games_data g

abbrev pub side_data : ℕ × List ℕ → Data
side_data side = object (member (codes "name") (string side.1) (member (codes "no") (number (unsigned side.0)) no_members))

-- null for a bye
abbrev pub second_data : Option (ℕ × List ℕ) → Data
second_data None = null
second_data (Some side) = side_data side

abbrev pub slip_with : ℕ → Data → Data → Data → ℕ → Data
slip_with round first score second table =
    object (member (codes "first") first
    (member (codes "round") (number (unsigned round))
    (member (codes "score") score
    (member (codes "second") second
    (member (codes "table") (number (unsigned table)) no_members)))))

abbrev pub slip_data : SlipRow → Data
slip_data row = slip_with row.round (side_data row.first) (score_data row.score) (second_data row.second) row.table

abbrev pub slip_text : SlipRow → List ℕ
slip_text row = compact_text (slip_data row)

-- ---- a slip that is handed in

-- a number from 0 to 255
abbrev pub byte_below : ℕ → Option ℕ
byte_below n = if nat_lt n 256 then Some n else None

abbrev pub number_of_games : Data → Option ℕ
number_of_games d = option_and_then byte_below (option_and_then as_u64 (as_number d))

abbrev pub games_with : Option ℕ → Option ℕ → Option ℕ → Option Games
games_with (Some x) (Some y) (Some d) = Some (record { x = x; y = y; d = d })
games_with _ _ _ = None

-- the values of exactly the keys a, b and d: each once, in the order of their names
abbrev pub three_values : Members → Option (Data × Data × Data)
three_values (member a x (member b y (member d z no_members))) =
    if bytes_eq a (codes "a") && (bytes_eq b (codes "b") && bytes_eq d (codes "d")) then Some (x, y, z) else None
three_values _ = None

-- three values as games, each a number from 0 to 255
abbrev pub games_in_values : Data × Data × Data → Option Games
games_in_values it = games_with (number_of_games it.0) (number_of_games it.1) (number_of_games it.2)

abbrev pub games_in : Data → Option Games
games_in d = option_and_then games_in_values (option_and_then three_values (as_object d))

-- The games of a text. Of a repeated key the last value stands.
unfoldable pub slip_games : List ℕ → Option Games
slip_games text = if is_utf8 text then option_and_then games_in (read text) else None
