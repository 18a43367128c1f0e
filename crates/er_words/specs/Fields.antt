-- What a line of a script is.
use Rattle.std.specs.Prelude.{ℕ, ◌==◌, if◌then◌else◌, List, [], ◌∷◌, Option, codes}
use Rattle.std.specs.List.{slice_split}
use Rattle.std.specs.Str.{is_utf8}
use Rattle.er_words.specs.declared.line.Line.{Line}
use Rattle.er_words.specs.Line.{line_of}

-- what stands between the TABs
abbrev pub fields_of : List ℕ → List (List ℕ)
fields_of line = slice_split (λ byte. byte == 9) line

-- the words of a command line, with `script` put in as FILE
abbrev pub with_file : List (List ℕ) → List (List ℕ)
with_file [] = []
with_file (name ∷ values) = name ∷ codes "script" ∷ values

-- the words of the command line that a line of a script stands for. One that is not UTF-8 has none.
abbrev pub script_words : List ℕ → List (List ℕ)
script_words line = if is_utf8 line then with_file (fields_of line) else []

abbrev pub script_line : List ℕ → Option Line
script_line line = line_of (script_words line)
