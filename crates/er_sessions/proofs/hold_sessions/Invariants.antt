use Rattle.std.proofs.Common.{◌≡◌, ◌≤◌, length, IsTrue, List}
use Rattle.std.specs.Vec.{vec_len, vec_capacity}
use Rattle.sqlite.specs.Files.{image_of}
use Rattle.er_desk.specs.Desk.{Point, Placed}
use Rattle.er_desk.specs.History.{Ended}
use Rattle.er_desk.specs.Headline.{RecoversHistory}
use Rattle.er_sessions.specs.Sessions.{HoldsEach}
use Rattle.er_sessions.proofs.hold_sessions.Given as goal

abbrev pub invariant-loop-questions : goal.invariant-loop-questions
invariant-loop-questions g l =
    (goal.iterator-loop-questions g).can_next l.questions-iterator ×
    (goal.iterator-loop-questions g).is_finite l.questions-iterator ×
    (IsTrue (g.D.Disk.is_usable l.now.log) × IsTrue (g.D.Disk.is_usable l.now.db)) ×
    (vec_len l.answers ≡ length l.yielded) ×
    (length l.fn.sessions.items ≤ vec_capacity l.answers) ×
    ((new : Point) (first : Placed) (ends : List Ended) → RecoversHistory (image_of g.D.Disk l.fn.files) new ends first
    → HoldsEach g.D.Disk new ends first (image_of g.D.Disk l.fn.files) l.yielded l.answers.items l.now)
