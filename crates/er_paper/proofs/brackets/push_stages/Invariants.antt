use Rattle.std.proofs.Common.{◌≡◌, ◌++◌, take}
use Rattle.std.specs.String.{string_bytes}
use Rattle.er_paper.specs.Texts.{stages_lines}
use Rattle.er_paper.proofs.brackets.push_stages.Given as goal

abbrev pub invariant-loop-place : goal.invariant-loop-place
invariant-loop-place l = string_bytes l.text ≡ string_bytes l.fn.text ++ stages_lines l.event 1 (take l.place l.stages)
