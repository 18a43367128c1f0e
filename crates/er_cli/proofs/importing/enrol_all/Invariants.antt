use Rattle.std.proofs.Common.{◌+◌, ◌≤◌, IsFalse, None, take}
use Rattle.er_desk.specs.{Asking.Asks, Desk.desk_state, Run.Session}
use Rattle.er_cli.specs.{Importing.Enrols, inside.Importing.names_of}
use Rattle.er_cli.proofs.importing.enrol_all.Given as goal

abbrev pub invariant-loop-line : goal.invariant-loop-line
invariant-loop-line g l = record {
  few : l.additions.added + l.additions.already ≤ l.line-index;
  enrols : (session : Session)
      × Enrols (names_of (take l.line-index l.lines)) (desk_state l.fn.desk) l.additions None session (desk_state l.desk)
      × Asks g.S.Store l.fn.desk session l.desk;
  runs : IsFalse (desk_state l.desk).needs_reopen;
}
