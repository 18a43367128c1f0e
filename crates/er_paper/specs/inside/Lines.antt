-- A line of a list of players.
use Rattle.std.specs.Prelude.{ℕ, List, Option}
use Rattle.er_paper.specs.declared.imports.PlayerLine.{PlayerLine}
use Rattle.er_paper.specs.declared.imports.Heading.{Heading}
use Rattle.er_paper.specs.declared.imports.Heading.TheVariants.{Full, Names}
use Rattle.er_paper.specs.Reading.{full_line, name_line}

-- under its heading
abbrev pub chosen_line : Heading → ℕ → List (List ℕ) → Option PlayerLine
chosen_line Full = full_line
chosen_line Names = name_line
