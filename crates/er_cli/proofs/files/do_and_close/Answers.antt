use Rattle.er_cli.proofs.files.do_and_close.Goals as goal

pub returns : goal.returns
returns g c = (c.do_task-status.new.desk, c.do_task-status.ensures, c.put_away.ensures)
