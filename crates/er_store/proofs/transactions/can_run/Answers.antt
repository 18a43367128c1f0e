use Rattle.er_store.proofs.Prelude.{[], true≢false, sym, state, rules}
use Rattle.er_store.proofs.{Crash.was_clean, LoadLemmas.{not_understood, not_run_keeps}}
use Rattle.er_store.proofs.transactions.can_run.Goals as goal

pub returns-in-Err-SqlInputError-clause-found : goal.returns-in-Err-SqlInputError-clause-found
returns-in-Err-SqlInputError-clause-found g c clean =
    let tells = not_understood (state g.S.Store c.args.conn.now) (state g.S.Store c.prepare.new.self) c.args.sql.now
    c.in-Err-SqlInputError.field-0-0 ((rw c.in-Err-SqlInputError.field-0-is at c.in-Err-SqlInputError.ensures.err) clean []) in
    (λ found. absurd (true≢false (sym found)), λ reads. absurd (tells.0 reads))

pub returns-in-Err-SqlInputError-clause-looks : goal.returns-in-Err-SqlInputError-clause-looks
returns-in-Err-SqlInputError-clause-looks g c = record {
  mode = search rules;
  clean = λ clean. was_clean c.prepare.ensures.survives clean;
  same = λ clean. (not_understood (state g.S.Store c.args.conn.now) (state g.S.Store c.prepare.new.self) c.args.sql.now
      c.in-Err-SqlInputError.field-0-0 ((rw c.in-Err-SqlInputError.field-0-is at c.in-Err-SqlInputError.ensures.err) clean [])).1;
  kept = λ clean. tt;
  survives = c.prepare.ensures.survives;
}

pub returns-in-Err-clause-looks : goal.returns-in-Err-clause-looks
returns-in-Err-clause-looks g c = record {
  mode = search rules;
  clean = λ clean. was_clean c.prepare.ensures.survives clean;
  same = λ clean. tt;
  kept = λ clean. not_run_keeps (state g.S.Store c.args.conn.now)
      (state g.S.Store c.prepare.new.self) c.args.sql.now [] c.in-Err.error (c.in-Err.ensures.err clean []);
  survives = c.prepare.ensures.survives;
}
