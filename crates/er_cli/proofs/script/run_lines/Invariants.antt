use Rattle.std.proofs.Common.{List, Bor, ℕ, None, map, take}
use Rattle.std.specs.{Io.KnownBytes.Appends, List.flat_map}
use Rattle.er_cli.specs.{declared.texts.LineAnswer.LineAnswer, Script.RunsLines, Texts.answer_text}
use Rattle.er_cli.specs.inside.Desk.{HasOwnTables, desk_state_of}
use Rattle.er_cli.proofs.script.run_lines.Given as goal

abbrev pub invariant-loop-line : goal.invariant-loop-line
invariant-loop-line g l =
    (answers : List LineAnswer) × RunsLines None (map (λ (line : Bor (List ℕ)). line.now) (take l.line-index l.lines)) answers
    (desk_state_of l.runner.desk)
    × Appends (g.W.Print.printed l.initial.writer) (g.W.Print.printed l.writer) (flat_map answer_text answers)
    × HasOwnTables l.runner.desk
