use Rattle.std.proofs.Common.{inl, refl}
use Rattle.er_answers.specs.declared.question.Answer.TheVariants.{Accepted, Refused}
use Rattle.er_desk.specs.Reply.{receipt}
use Rattle.er_cli.proofs.{GoingOn.made_begins, Leaving.put_held, Making.{made_so, makes_none}}
use Rattle.er_cli.proofs.files.make.Goals as goal

pub returns-in-Ok-clause-ends : goal.returns-in-Ok-clause-ends
returns-in-Ok-clause-ends g c =
    let told = c.print_made.ensures in
    let it = made_so _ _ _ _ _ c.init.result c.in-Ok.desk c.in-Ok.is c.init.ensures.replies in
    let begins = made_begins c.next_sessions.ensures _ _ _ _ _ c.in-Ok.desk it.0 it.1 told.asks c.print_made.result.left told.put_away in
    record {
      done = Accepted (receipt 0);
      told = told.told;
      file = inl (it.0, refl, (c.in-Ok.desk, it.1, told.put_away, begins));
    }

pub returns-in-Err-clause-ends : goal.returns-in-Err-clause-ends
returns-in-Err-clause-ends g c = record {
  done = Refused c.in-Err.why.why;
  told = c.tell_no_desk.ensures.told;
  file = rw c.tell_no_desk.ensures.left (makes_none _ _ _ _ _ c.init.result c.in-Err.why c.in-Err.is c.init.ensures.replies);
}

pub returns-in-Ok-clause-held : goal.returns-in-Ok-clause-held
returns-in-Ok-clause-held g c = put_held _ c.print_made.result.left _ _ c.print_made.ensures.put_away.closes
