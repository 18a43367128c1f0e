use Rattle.std.proofs.Common.{◌≡◌, ◌++◌, flat_map, take}
use Rattle.std.specs.String.{string_bytes}
use Rattle.std.specs.List.{enumerate_from}
use Rattle.er_paper.specs.Texts.{slot_line}
use Rattle.er_paper.proofs.brackets.push_stage.Given as goal

abbrev pub invariant-loop-place : goal.invariant-loop-place
invariant-loop-place l = string_bytes l.text ≡ string_bytes l.fn.text ++ flat_map (slot_line l.event l.stage)
    (enumerate_from 1 (take l.place l.matches))
