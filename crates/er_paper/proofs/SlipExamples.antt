-- Worked examples, computed from the definitions: slips as JSON, and the games of those that are handed in.
use Rattle.std.specs.{Prelude.{◌≡◌, ℕ, [], ◌∷◌, map, Some, None, codes, refl}, Str.{is_utf8, chars}, Char.encode_utf8, Fmt.digits}
use Rattle.er_event.specs.{declared.scores.Games.Games, declared.slips.SlipRow.SlipRow}
use Rattle.serde_json.proofs.OnLiterals.{serde_json_on_literals}
use Rattle.er_paper.specs.Slip.{slip_text, slip_games}

abbrev games : ℕ → ℕ → ℕ → Games
games x y d = record { x = x; y = y; d = d }

abbrev open_slip : SlipRow
open_slip = record { round = 1; table = 1; first = (4, codes "Di"); second = Some (2, codes "Bo"); score = None }

pub slip_of_an_open_match : slip_text open_slip
    ≡ codes "{\"first\":{\"name\":\"Di\",\"no\":4},\"round\":1,\"score\":null,\"second\":{\"name\":\"Bo\",\"no\":2},\"table\":1}"
unfolding serde_json_on_literals digits
slip_of_an_open_match = refl

pub slip_of_a_bye : slip_text (record { round = 1; table = 0; first = (3, codes "Cy"); second = None; score = Some (games 2 0 0) })
    ≡ codes "{\"first\":{\"name\":\"Cy\",\"no\":3},\"round\":1,\"score\":{\"a\":2,\"b\":0,\"d\":0},\"second\":null,\"table\":0}"
unfolding serde_json_on_literals digits
slip_of_a_bye = refl

-- a name's quotes and backslash are escaped
pub slip_with_quotes : slip_text (record { round = 2; table = 1; first = (1, codes "A \"B\" \\"); second = None; score = None })
    ≡ codes "{\"first\":{\"name\":\"A \\\"B\\\" \\\\\",\"no\":1},\"round\":2,\"score\":null,\"second\":null,\"table\":1}"
unfolding serde_json_on_literals digits
slip_with_quotes = refl

pub games_handed_in : slip_games (codes "{\"a\":2,\"b\":1,\"d\":0}") ≡ Some (games 2 1 0)
unfolding slip_games serde_json_on_literals is_utf8 chars encode_utf8 digits
games_handed_in = refl

-- no lawful score, which is not for the reader to say
pub games_of_no_score : slip_games (codes " { \"d\" : 0 , \"b\" : 2 , \"a\" : 255 } ") ≡ Some (games 255 2 0)
unfolding slip_games serde_json_on_literals is_utf8 chars encode_utf8 digits
games_of_no_score = refl

-- of a repeated key the last value stands
pub games_of_a_repeated_key : slip_games (codes "{\"b\":1,\"a\":\"x\",\"d\":0,\"a\":2}") ≡ Some (games 2 1 0)
unfolding slip_games serde_json_on_literals is_utf8 chars encode_utf8 digits
games_of_a_repeated_key = refl

-- a key too few, a key too many, a fraction, a number too large, another key, no object
pub no_games : map slip_games (codes "{\"a\":2}" ∷ codes "{\"a\":2,\"b\":1,\"d\":0,\"e\":0}" ∷ codes "{\"a\":2.0,\"b\":1,\"d\":0}"
    ∷ codes "{\"a\":256,\"b\":1,\"d\":0}" ∷ codes "{\"A\":2,\"b\":1,\"d\":0}" ∷ codes "[2,1,0]" ∷ [])
    ≡ None ∷ None ∷ None ∷ None ∷ None ∷ None ∷ []
unfolding slip_games serde_json_on_literals is_utf8 chars encode_utf8 digits
no_games = refl
