-- How a script is read.
use Rattle.std.specs.Prelude.{ℕ, ◌==◌, not, List, length, filter}
use Rattle.std.specs.List.{slice_split}

-- what stands between the line feeds, but for empty lines
abbrev pub lines_of : List ℕ → List (List ℕ)
lines_of script = filter (λ line. not (length line == 0)) (slice_split (λ byte. byte == 10) script)
