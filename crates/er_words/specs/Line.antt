-- The line that words name.
use Rattle.std.specs.Prelude.{ℕ, ◌==◌, Bool, if◌then◌else◌, List, [], ◌∷◌, slice_index, Option, Some, None, option_map, option_and_then}
use Rattle.std.specs.Prelude.{codes}
use Rattle.std.specs.List.{list_any}
use Rattle.std.specs.Str.{bytes_eq}
use Rattle.er_words.specs.declared.line.Line.{Line}
use Rattle.er_words.specs.declared.line.Line.TheVariants.{Init, Enrol, Import, Start, Pair, Result as ReportResult, Correct, Drop, Cut}
use Rattle.er_words.specs.declared.line.Line.TheVariants.{Playoff}
use Rattle.er_words.specs.declared.line.Line.TheVariants.{Standings, Players, Slips, Bracket, Export, Serve, Migrate}
use Rattle.er_event.specs.declared.scores.Games.{Games}
use Rattle.er_words.specs.Kinds.{Kind, Text, SmallNumber, Number, Seed, Count, ListKind, score_kinds, MadeOf, made_of, values_of}

-- a subcommand: its name, what the words after it have to be, and the line that their values make
pub record Subcommand : Type 0 where
  pub name : List ℕ
  pub kinds : List Kind
  pub line : MadeOf Line kinds

abbrev pub subcommand : List ℕ → (kinds : List Kind) → MadeOf Line kinds → Subcommand
subcommand name kinds line = record { name = name; kinds = kinds; line = line }

-- with the last three values as games, `X Y D`
abbrev pub with_games : {X : Type 0} → (List ℕ → ℕ → ℕ → Games → X) → List ℕ → ℕ → ℕ → ℕ → ℕ → ℕ → X
with_games line file first second x y d = line file first second (record { x = x; y = y; d = d })

-- `FILE`
abbrev pub file_kinds : List Kind
file_kinds = Text ∷ []

-- `FILE ROUND TABLE X Y D`
abbrev pub report_kinds : List Kind
report_kinds = Text ∷ SmallNumber ∷ Number ∷ score_kinds

-- the subcommands
abbrev pub subcommands : List Subcommand
subcommands =
    subcommand (codes "init") (Text ∷ Text ∷ SmallNumber ∷ SmallNumber ∷ []) Init
    ∷ subcommand (codes "enrol") (Text ∷ Text ∷ []) Enrol
    ∷ subcommand (codes "import") (Text ∷ Text ∷ []) Import
    ∷ subcommand (codes "start") file_kinds Start
    ∷ subcommand (codes "pair") (Text ∷ SmallNumber ∷ Seed ∷ []) Pair
    ∷ subcommand (codes "result") report_kinds (with_games ReportResult)
    ∷ subcommand (codes "correct") report_kinds (with_games Correct)
    ∷ subcommand (codes "drop") (Text ∷ Number ∷ []) Drop
    ∷ subcommand (codes "cut") file_kinds Cut
    ∷ subcommand (codes "playoff") (Text ∷ SmallNumber ∷ SmallNumber ∷ score_kinds) (with_games Playoff)
    ∷ subcommand (codes "standings") file_kinds Standings
    ∷ subcommand (codes "players") file_kinds Players
    ∷ subcommand (codes "slips") (Text ∷ SmallNumber ∷ []) Slips
    ∷ subcommand (codes "bracket") file_kinds Bracket
    ∷ subcommand (codes "export") (Text ∷ ListKind ∷ []) Export
    ∷ subcommand (codes "serve") (Text ∷ Number ∷ Count ∷ []) Serve
    ∷ subcommand (codes "migrate") file_kinds Migrate
    ∷ []

-- the one that has this name
abbrev pub named_in : List Subcommand → List ℕ → Option Subcommand
named_in [] name = None
named_in (subcommand ∷ table) name = if bytes_eq name subcommand.name then Some subcommand else named_in table name

abbrev pub subcommand_of : List ℕ → Option Subcommand
subcommand_of = named_in subcommands

-- the words after its name as a line
abbrev pub line_by : Subcommand → List (List ℕ) → Option Line
line_by subcommand words = option_map (made_of subcommand.kinds subcommand.line) (values_of subcommand.kinds words)

abbrev pub named_line : List ℕ → List (List ℕ) → Option Line
named_line name words = option_and_then (λ subcommand. line_by subcommand words) (subcommand_of name)

-- the first word, and the words after it
abbrev pub split_of : List (List ℕ) → Option (List ℕ × List (List ℕ))
split_of [] = None
split_of (name ∷ words) = Some (name, words)

-- begins with `-`: no subcommand takes an option
abbrev pub is_option : List ℕ → Bool
is_option word = slice_index word 0 == 45

-- the line that words name
abbrev pub line_of : List (List ℕ) → Option Line
line_of words =
    if list_any is_option words then None else option_and_then (λ split. named_line split.0 split.1) (split_of words)
