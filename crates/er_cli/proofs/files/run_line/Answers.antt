use Rattle.std.proofs.Common.{sym, ap, inl, inr, ℕ, List}
use Rattle.er_cli.specs.{declared.action.Action.Action, Help.prints}
use Rattle.er_cli.proofs.GoingOn.{absent_goes_on, init_goes_on}
use Rattle.er_cli.proofs.files.run_line.Goals as goal

pub returns-in-Init-clause-ends : goal.returns-in-Init-clause-ends
returns-in-Init-clause-ends g c =
    rw (
      sym (ap (λ (parts : List ℕ × Action). parts.0) c.file_and_action-file.ensures),
      sym (ap (λ (parts : List ℕ × Action). parts.1) c.file_and_action-file.ensures),
      c.in-Init.is,
    ) (
    rw (sym c.as_slice.ensures, sym c.as_str-path.ensures) c.make.ensures.ends
    )

pub returns-in-Ok-clause-ends : goal.returns-in-Ok-clause-ends
returns-in-Ok-clause-ends g c =
    rw (
      sym (ap (λ (parts : List ℕ × Action). parts.0) c.file_and_action-file.ensures),
      sym (ap (λ (parts : List ℕ × Action). parts.1) c.file_and_action-file.ensures),
      c.in-Open.is,
    ) (
    rw (sym c.as_str-path.ensures) c.open.ensures.ends
    )

pub returns-in-Init-clause-goes_on : goal.returns-in-Init-clause-goes_on
returns-in-Init-clause-goes_on g c =
    rw (
      sym (ap (λ (parts : List ℕ × Action). parts.0) c.file_and_action-file.ensures),
      sym (ap (λ (parts : List ℕ × Action). parts.1) c.file_and_action-file.ensures),
      c.in-Init.is,
    ) (
    rw (sym c.as_str-path.ensures) (
    init_goes_on g.H.File.Disk (g.H.Host.world c.args.host.now) c.as_str-path.result.now c.make.result.left
    (prints (g.O.Print.printed c.args.out.now) (g.O.Print.printed c.make.new.out) (g.E.Print.printed c.args.err.now)
    (g.E.Print.printed c.make.new.err) c.make.result.status) (g.H.Host.got c.make.new.host)
    c.as_slice.result.now c.in-Init.rounds c.in-Init.cut c.make.ensures.ends
    )
    )

pub returns-in-Ok-clause-goes_on : goal.returns-in-Ok-clause-goes_on
returns-in-Ok-clause-goes_on g c =
    rw (
      sym (ap (λ (parts : List ℕ × Action). parts.0) c.file_and_action-file.ensures),
      sym (ap (λ (parts : List ℕ × Action). parts.1) c.file_and_action-file.ensures),
      c.in-Open.is,
    ) (
    rw (sym c.as_str-path.ensures) (inr c.open.ensures.goes_on)
    )

pub returns-clause-ends : goal.returns-clause-ends
returns-clause-ends g c =
    rw (
      sym (ap (λ (parts : List ℕ × Action). parts.0) c.file_and_action-file.ensures),
      sym (ap (λ (parts : List ℕ × Action). parts.1) c.file_and_action-file.ensures),
      c.in-Open.is,
    ) (
    rw (sym c.as_str-path.ensures) (inr (record {
      done = c.in-Err.why;
      told = c.tell_no_desk.ensures.told;
      file = inl (c.tell_no_desk.ensures.left, c.in-Err.ensures.absent);
    }))
    )

pub returns-clause-goes_on : goal.returns-clause-goes_on
returns-clause-goes_on g c =
    rw (
      sym (ap (λ (parts : List ℕ × Action). parts.0) c.file_and_action-file.ensures),
      sym (ap (λ (parts : List ℕ × Action). parts.1) c.file_and_action-file.ensures),
      c.in-Open.is,
    ) (
    rw (sym c.as_str-path.ensures) (absent_goes_on _ (g.H.Host.world c.args.host.now) c.as_str-path.result.now _ _ c.in-Err.why
    c.in-Err.ensures.absent c.tell_no_desk.ensures.left c.tell_no_desk.ensures.told c.in-Open.task)
    )
