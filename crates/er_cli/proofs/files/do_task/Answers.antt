use Rattle.std.proofs.Common.{refl}
use Rattle.er_cli.specs.Tasks.Work.{Commands}
use Rattle.er_cli.proofs.GoingOn.{works_for}
use Rattle.er_cli.proofs.files.do_task.Goals as goal

pub returns-in-Ask : goal.returns-in-Ask
returns-in-Ask g c = rw c.in-Ask.is (record {
  done = _;
  told = (c.ask.result, c.ask.ensures.answers, refl, c.print.ensures);
  file = works_for _ _ _ _ c.ask.result c.ask.ensures.asked;
})

pub returns-in-Import : goal.returns-in-Import
returns-in-Import g c =
    let it = c.import.ensures in
    rw c.in-Import.is (record { done = Commands it.0; told = (it.0, refl, rw c.as_str.ensures at it.1); file = it.2 })

pub returns-in-Serve : goal.returns-in-Serve
returns-in-Serve g c =
    let it = c.listen.ensures in
    rw c.in-Serve.is (record { done = Commands it.0; told = (it.0, refl, it.1); file = it.2 })
