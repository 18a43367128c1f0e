use Rattle.std.proofs.Common.{inl, inr, None}
use Rattle.er_cli.proofs.{GoingOn.{goes_on_with, task_goes_on, unopened_goes_on}, Hosting.does_before}
use Rattle.er_cli.proofs.Leaving.{cleared_held, not_opened, put_held}
use Rattle.er_cli.proofs.files.open.Goals as goal

pub returns-in-Err-clause-ends : goal.returns-in-Err-clause-ends
returns-in-Err-clause-ends g c = inr (record {
  done = c.clear_fault.result.why;
  told = c.tell_no_desk.ensures.told;
  file = rw c.tell_no_desk.ensures.left (inr (
    c.requires.there,
    not_opened _ c.in-Err.fault c.clear_fault.result.why c.clear_fault.result.left
        c.clear_fault.ensures.why
        c.clear_fault.ensures.left c.in-Err.ensures.opens.why c.in-Err.ensures.opens.unopened c.in-Err.ensures.opens.first
        c.in-Err.ensures.opens.left
        c.in-Err.ensures.opens.spared,
  ));
})

pub returns-in-Err-clause-goes_on : goal.returns-in-Err-clause-goes_on
returns-in-Err-clause-goes_on g c new first ends was =
    let law = c.next_sessions.ensures in
    let world = g.H.Host.world c.args.host.now in
    let image = world.image c.args.path.now in
    rw c.tell_no_desk.ensures.left (
    unopened_goes_on law image new first ends was _ c.clear_fault.result.left world None _ c.args.task c.in-Err.fault
    c.clear_fault.result.why
    c.clear_fault.ensures.why c.clear_fault.ensures.left
    (c.in-Err.ensures.opens.found first was.left (law new first.point ends was.begins was.history).sound) c.in-Err.ensures.opens.left
    c.in-Err.ensures.opens.unopened c.in-Err.ensures.opens.spared (c.in-Err.ensures.opens.again first)
    c.tell_no_desk.ensures.told)

pub returns-in-Ok-clause-ends : goal.returns-in-Ok-clause-ends
returns-in-Ok-clause-ends g c =
    let it = c.do_and_close.ensures in
    let world = g.H.Host.world c.args.host.now in
    let image = world.image c.args.path.now in
    let does = does_before _ _ _ c.open_desk.ensures.others _ _ _ _ c.args.task it.1 in
    inl (
      c.requires.there,
      c.in-Ok.desk,
      it.0,
      c.in-Ok.ensures.opens,
      does,
      it.2,
      λ new first ends was.
          let law = c.next_sessions.ensures in
          goes_on_with law image new first ends was _ c.do_and_close.result.left world _ _ c.args.task
          c.in-Ok.desk it.0 c.in-Ok.ensures.opens.ready
          (record {
            finds = c.in-Ok.ensures.opens.found first was.left (law new first.point ends was.begins was.history).sound;
            sees =
                c.in-Ok.ensures.opens.kept;
          })
          does it.2,
    )

pub returns-in-Ok-clause-goes_on : goal.returns-in-Ok-clause-goes_on
returns-in-Ok-clause-goes_on g c new first ends was =
    let law = c.next_sessions.ensures in
    let world = g.H.Host.world c.args.host.now in
    let image = world.image c.args.path.now in
    let it = c.do_and_close.ensures in
    task_goes_on law image new first ends was _ c.do_and_close.result.left world _ _ c.args.task c.in-Ok.desk it.0 c.in-Ok.ensures.opens.ready
    (record {
      finds = c.in-Ok.ensures.opens.found first was.left (law new first.point ends was.begins was.history).sound;
      sees =
          c.in-Ok.ensures.opens.kept;
    })
    (does_before _ _ _ c.open_desk.ensures.others _ _ _ _ c.args.task it.1) it.2

pub returns-in-Err-clause-held : goal.returns-in-Err-clause-held
returns-in-Err-clause-held g c =
    rw c.tell_no_desk.ensures.left (cleared_held c.in-Err.fault c.clear_fault.result.left _ _ _
    c.clear_fault.ensures.left c.in-Err.ensures.held c.clear_fault.ensures.held)

pub returns-in-Ok-clause-held : goal.returns-in-Ok-clause-held
returns-in-Ok-clause-held g c = put_held _ c.do_and_close.result.left _ _ c.do_and_close.ensures.2.closes
