use Rattle.std.proofs.Common.{refl}
use Rattle.er_slips.proofs.Answering.{asks_session}
use Rattle.er_slips.proofs.serve.answer.Goals as goal

pub returns : goal.returns
returns g c =
    let told = c.ask-told.result in
    record {
      session = _;
      answers = (told, rw c.from-question.ensures at c.ask-told.ensures.answers, c.response.ensures, refl);
      asks = asks_session g.S.Store c.args.desk.now c.args.asked told c.ask-told.new.desk
          (rw c.from-question.ensures at c.ask-told.ensures.asked);
    }
