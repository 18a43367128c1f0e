use Rattle.std.proofs.Common.{◌≡◌, ◌≤◌, length}
use Rattle.std.specs.Vec.{vec_len, vec_capacity}
use Rattle.er_sessions.specs.Sessions.{AsksAll}
use Rattle.er_sessions.proofs.ask_all.Given as goal

abbrev pub invariant-loop-question : goal.invariant-loop-question
invariant-loop-question g l =
    (goal.iterator-loop-question g).can_next l.question-iterator ×
    (goal.iterator-loop-question g).is_finite l.question-iterator ×
    (vec_len l.answers ≡ length l.yielded) ×
    (length l.fn.questions.items ≤ vec_capacity l.answers) ×
    AsksAll g.S.Store l.fn.desk l.yielded l.answers.items l.desk
