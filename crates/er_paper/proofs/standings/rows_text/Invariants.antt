use Rattle.std.proofs.Common.{◌≡◌, take}
use Rattle.std.specs.String.{string_bytes}
use Rattle.er_paper.specs.Texts.{rows_text}
use Rattle.er_paper.proofs.standings.rows_text.Given as goal

abbrev pub invariant-loop-row : goal.invariant-loop-row
invariant-loop-row l = string_bytes l.text ≡ rows_text l.event (take l.row-index l.rows)
