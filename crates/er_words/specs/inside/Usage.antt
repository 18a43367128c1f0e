-- The words after a subcommand's name.
use Rattle.std.specs.Prelude.{ℕ, List, Result, option_map}
use Rattle.er_event.specs.declared.scores.Games.{Games}
use Rattle.er_words.specs.Kinds.{Kind, MadeOf, made_of, values_of}
use Rattle.er_words.specs.Faults.{values_fault}
use Rattle.er_words.specs.declared.line.Line.{Line}
use Rattle.er_words.specs.declared.line.LineFault.{LineFault}
use Rattle.er_words.specs.Line.{named_line}
use Rattle.er_words.specs.Usage.{IsReadAs, named_fault}

-- they are read as what is made of their values, if they are of these kinds
abbrev pub ReadsAs : {X : Type 0} (kinds : List Kind) → MadeOf X kinds → List (List ℕ) → Result X LineFault → Type 0
ReadsAs kinds made words = IsReadAs (option_map (made_of kinds made) (values_of kinds words)) (values_fault kinds 1 words)

-- what words that report a score have in them
abbrev pub report : List ℕ → ℕ → ℕ → Games → List ℕ × ℕ × ℕ × Games
report file round table score = (file, round, table, score)

-- they are read as the line that they are after this name
abbrev pub ReadsNamed : List ℕ → List (List ℕ) → Result Line LineFault → Type 0
ReadsNamed name words = IsReadAs (named_line name words) (named_fault name words)
