use Rattle.std.proofs.Common.{◌≡◌, ◌≤◌, length, take}
use Rattle.std.specs.Vec.{vec_len, vec_capacity}
use Rattle.er_desk.specs.{Desk.desk_state, Run.{Runs, session_of}, Asking.Asks}
use Rattle.er_desk.proofs.desk.Desk.run.Given as goal

abbrev pub invariant-loop-command : goal.invariant-loop-command
invariant-loop-command g l = record {
  ran : Runs (desk_state l.fn.self) (take l.command-index l.command-items) l.replies.items (desk_state l.self);
  count : vec_len l.replies ≡ l.command-index;
  room : length l.command-items ≤ vec_capacity l.replies;
  asked : Asks g.S.Store l.fn.self
      (session_of (take l.command-index l.command-items) l.replies.items (desk_state l.self).needs_reopen) l.self;
}
