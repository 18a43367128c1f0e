use Rattle.std.proofs.Common.{Err, refl}
use Rattle.er_desk.specs.Desk.{desk_state}
use Rattle.er_answers.specs.declared.question.Answer.TheVariants.{Refused}
use Rattle.er_answers.proofs.Asked.{ranked, ranked_rows}
use Rattle.er_answers.proofs.asking.standings.Goals as goal

pub returns-in-Ok-clause-answers : goal.returns-in-Ok-clause-answers
returns-in-Ok-clause-answers g c =
    let it = c.in-Ok.ensures in
    ranked_rows _ (desk_state c.args.desk.now) (desk_state c.stored_standings.new.self) c.in-Ok.rows c.as_slice.result.now
    c.rows_told.result it.reads.turn (λ represented runs. it.found runs represented.0 represented.1) c.as_slice.ensures.value
    c.rows_told.ensures

pub returns-in-Ok-clause-asked : goal.returns-in-Ok-clause-asked
returns-in-Ok-clause-asked g c = c.in-Ok.ensures.reads.asked

pub returns-in-Err-clause-answers : goal.returns-in-Err-clause-answers
returns-in-Err-clause-answers g c =
    let it = c.in-Err.ensures in
    ranked _ (desk_state c.args.desk.now) (desk_state c.stored_standings.new.self) (Err c.in-Err.why) (Refused c.in-Err.why) it.reads.turn
    (λ represented runs. it.found runs represented.0 represented.1) refl

pub returns-in-Err-clause-asked : goal.returns-in-Err-clause-asked
returns-in-Err-clause-asked g c = c.in-Err.ensures.reads.asked
