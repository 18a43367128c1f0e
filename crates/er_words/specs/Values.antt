-- Words as values.
use Rattle.std.specs.Prelude.{ℕ, ◌+◌, ◌*◌, ◌==◌, nat_lt, ◌&&◌, if◌then◌else◌, List, [], ◌∷◌, length, Option, Some, None, option_and_then}
use Rattle.std.specs.Prelude.{codes}
use Rattle.std.specs.List.{list_all}
use Rattle.std.specs.Str.{bytes_eq}
use Rattle.er_words.specs.declared.values.ExportKind.{ExportKind}
use Rattle.er_words.specs.declared.values.ExportKind.TheVariants as kind
use Rattle.std.specs.Char.{is_ascii_digit, is_ascii_hexdigit, digit_value}
use Rattle.std.specs.Str.Parse.{digits_value}

-- a word of digits as a number below the limit
abbrev pub number_below : ℕ → List ℕ → Option ℕ
number_below limit word =
    if nat_lt 0 (length word) && list_all is_ascii_digit word && nat_lt (digits_value 10 word) limit
    then Some (digits_value 10 word) else None

-- a word as a number of connections, from 1 to a million
abbrev pub count_of : List ℕ → Option ℕ
count_of word = option_and_then (λ count. if nat_lt 0 count then Some count else None) (number_below 1000001 word)

-- the bytes of hexadecimal digits, two for each. The first of the two counts sixteen.
abbrev pub hex_bytes : List ℕ → List ℕ
hex_bytes (high ∷ low ∷ rest) = (16 * digit_value high + digit_value low) ∷ hex_bytes rest
hex_bytes _ = []

-- 64 hexadecimal digits as a seed, small or capital
unfoldable pub seed_of : List ℕ → Option (List ℕ)
seed_of word = if length word == 64 && list_all is_ascii_hexdigit word then Some (hex_bytes word) else None

-- the kind of list that a word names
abbrev pub kind_of : List ℕ → Option ExportKind
kind_of word =
    if bytes_eq word (codes "players") then Some kind.Players
    else (if bytes_eq word (codes "results") then Some kind.Results else None)
