use Rattle.std.proofs.{Common.{map, List, [], ◌∷◌, ◌++◌, ℕ, ◌+◌, Bor}, KnownBytes.Appends-trans, lemmas.List.{take_all, take-map}}
use Rattle.er_cli.specs.{Script.PrintsPart, inside.Desk.desk_state_of}
use Rattle.er_cli.proofs.{Sending.{part_after, err_is}, Runs.{Runs-push, printed-push, lines-push}}
use Rattle.er_cli.proofs.script.run_lines.Goals as goal

pub answer-answer-requires : goal.answer-answer-requires
answer-answer-requires g c = c.loop-line.invariant.3

pub loop-line-preserved : goal.loop-line-preserved
loop-line-preserved g c =
    let so_far = c.loop-line.invariant in
    let answer = c.answer-answer.result in
    let runs = Runs-push _ so_far.0 _ _ _ _ answer so_far.1 c.answer-answer.ensures.answers in
    let printed = Appends-trans _ _ _ _ _ so_far.2 c.in_ok-print_answer.ensures.sent in
    let none : Bor (List ℕ) = record { ref_ptr = (0, 0); now = [] } in (
      so_far.0 ++ answer ∷ [],
      rw (lines-push c.args.lines.now c.loop-line.line-index none c.loop-line-test.true) runs,
      rw (printed-push so_far.0 answer) printed,
      c.answer-answer.ensures.written,
    )

pub returns-in_err-print_answer-clause-part : goal.returns-in_err-print_answer-clause-part
returns-in_err-print_answer-clause-part g c =
    let so_far = c.loop-line.invariant in
    let answer = c.answer-answer.result in
    let none : Bor (List ℕ) = record { ref_ptr = (0, 0); now = [] } in
    let runs = Runs-push _ so_far.0 _ _ _ _ answer so_far.1 c.answer-answer.ensures.answers in
    let printed = part_after _ _ _ _ _ so_far.2 c.in_err-print_answer.ensures.part in
    let part : PrintsPart (map (λ (line : Bor (List ℕ)). line.now) c.args.lines.now) (g.W.Print.printed c.args.writer.now)
    (g.W.Print.printed c.print_answer.new.writer) =
    record {
      count = c.loop-line.line-index + 1;
      answers = so_far.0 ++ answer ∷ [];
      last = desk_state_of c.answer-answer.new.self.desk;
      runs = rw (
        take-map (λ (line : Bor (List ℕ)). line.now) (c.loop-line.line-index + 1) c.args.lines.now,
        lines-push c.args.lines.now c.loop-line.line-index none c.loop-line-test.true,
      ) runs;
      printed = rw (printed-push so_far.0 answer) printed;
    } in
    err_is c.from_residual.result part

pub returns-clause-whole : goal.returns-clause-whole
returns-clause-whole g c =
    let so_far = c.loop-line.invariant in
    let all = take_all c.loop-line.line-index c.args.lines.now c.loop-line-test.false in
    record { answers = so_far.0; last = desk_state_of c.loop-line.runner.desk; runs = rw all at so_far.1; printed = so_far.2 }
