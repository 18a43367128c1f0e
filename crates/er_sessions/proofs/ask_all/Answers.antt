use Rattle.std.proofs.Common.{length-append, ◌∷◌, [], arith}
use Rattle.er_sessions.proofs.Asked.{asks_push}
use Rattle.er_sessions.proofs.ask_all.Goals as goal

pub loop-question-preserved : goal.loop-question-preserved
loop-question-preserved g c =
    let inv = c.loop-question.invariant in (
      tt,
      tt,
      omega (arith, inv.2, c.in-Ok.ensures.len, length-append c.loop-question.yielded (c.in-Some.question ∷ [])),
      omega (arith, inv.3, c.in-Ok.ensures.capacity),
      rw c.in-Ok.ensures.items
          (asks_push g.S.Store c.args.desk.now c.loop-question.desk c.ask-told.new.desk c.loop-question.yielded
          c.loop-question.answers.items c.in-Some.question c.ask-told.result inv.4 c.ask-told.ensures.asked
          c.ask-told.ensures.answers),
    )
