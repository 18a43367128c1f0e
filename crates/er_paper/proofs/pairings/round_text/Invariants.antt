use Rattle.std.proofs.Common.{◌≡◌, ◌∷◌, ◌++◌, codes, flat_map, take}
use Rattle.std.specs.String.{string_bytes}
use Rattle.std.specs.List.{enumerate_from}
use Rattle.er_paper.specs.Texts.{table_line}
use Rattle.er_paper.proofs.pairings.round_text.Given as goal

abbrev pub invariant-loop-place : goal.invariant-loop-place
invariant-loop-place l = string_bytes l.text ≡ codes " Tab    A    B Score Names"
    ++ (10 ∷ flat_map (table_line l.event) (enumerate_from 1 (take l.place l.matches)))
