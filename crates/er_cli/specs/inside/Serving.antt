-- The two lines that serving prints.
use Rattle.std.specs.Prelude.{ℕ, List, [], ◌∷◌, ◌++◌, codes}
use Rattle.std.specs.Fmt.{decimal}

abbrev pub listening_text : ℕ → List ℕ
listening_text port = codes "listening " ++ (decimal port ++ (10 ∷ []))

abbrev pub served_text : ℕ → List ℕ
served_text count = codes "served " ++ (decimal count ++ (10 ∷ []))
