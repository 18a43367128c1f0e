use Rattle.std.proofs.Common.{refl}
use Rattle.sqlite_trees.specs.View.{doubt}
use Rattle.er_desk.specs.Desk.{desk_state}
use Rattle.er_cli.proofs.{GoingOn.{represents_second, stays_second}, Turns.{ran_before, represented_answers}}
use Rattle.er_cli.proofs.script.Runner.ask.Goals as goal

pub returns-in-Some-clause-acts : goal.returns-in-Some-clause-acts
unfolding doubt
returns-in-Some-clause-acts c =
    let was = rw c.in-Some.is at c.requires in
    rw c.in-Some.is (
      c.ask.result,
      desk_state c.ask.new.desk,
      represented_answers _ _ _ _ _ (λ runs. (refl, was.1 runs)) c.ask.ensures.answers,
      refl,
      refl,
    )

pub returns-in-Some-clause-written : goal.returns-in-Some-clause-written
unfolding doubt
returns-in-Some-clause-written c =
    let was = rw c.in-Some.is at c.requires in
    let asked = c.ask.ensures.asked in (
      stays_second _ _ _ _ _ asked was.0,
      λ runs. represents_second _ _ _ _ _ asked was.0 refl (was.1 (ran_before _ _ _ _ c.ask.ensures.answers.does runs)) runs,
    )
