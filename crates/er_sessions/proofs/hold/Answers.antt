use Rattle.std.proofs.Common.{refl}
use Rattle.er_sessions.proofs.Holding.{same_left_over}
use Rattle.er_sessions.proofs.hold.Goals as goal

pub returns-in-Ok : goal.returns-in-Ok
returns-in-Ok g c =
    let it = c.ask_and_close-asked.ensures in
    record {
      last = it.last;
      let_go = same_left_over _ _ c.let_go-files.result it.same c.let_go-files.ensures;
      rests = it.rests;
      asked = rw c.in-Ok.is at it.asked;
    }

pub returns-in-Err : goal.returns-in-Err
returns-in-Err g c =
    let it = c.ask_and_close-asked.ensures in
    record {
      last = it.last;
      let_go = same_left_over _ _ c.let_go-files.result it.same c.let_go-files.ensures;
      rests = it.rests;
      asked = (refl, rw c.in-Err.is at it.asked);
    }
