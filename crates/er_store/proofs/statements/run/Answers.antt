use Rattle.er_store.proofs.{Effects.inside_ok, Crash.step_keeps}
use Rattle.er_store.proofs.statements.run.Goals as goal

pub returns-clause-ran : goal.returns-clause-ran
returns-clause-ran g c clean =
    let was = inside_ok _ c.in_ok-execute.field-0 _ (λ e. (c.in_ok-execute.ensures.ended e).0) in
    record { was = was; count = c.in_ok-execute.field-0; executes = c.in_ok-execute.ensures.runs clean was }

pub returns-clause-lends : goal.returns-clause-lends
returns-clause-lends g c = record {
  same_reference = c.execute.ensures.same_reference;
  stays = record {
    committed = λ clean. step_keeps g.S.Store c.args.tx.now.conn.now c.execute.new.self.conn.now _ _ c.execute.result _
        c.execute.ensures.ended (c.execute.ensures.runs clean);
    survives = c.execute.ensures.survives;
  };
}

pub returns-in_err-execute-clause-lends : goal.returns-in_err-execute-clause-lends
returns-in_err-execute-clause-lends g c = record {
  same_reference = c.execute.ensures.same_reference;
  stays = record {
    committed = λ clean. step_keeps g.S.Store c.args.tx.now.conn.now c.execute.new.self.conn.now _ _ c.execute.result _
        c.execute.ensures.ended (c.execute.ensures.runs clean);
    survives = c.execute.ensures.survives;
  };
}
