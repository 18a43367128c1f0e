use Rattle.er_desk.specs.Desk.{desk_state}
use Rattle.er_answers.proofs.Asked.{found_slip}
use Rattle.er_answers.proofs.asking.slip.Goals as goal

pub returns-clause-answers : goal.returns-clause-answers
returns-clause-answers g c =
    let it = c.slip-read.ensures in
    found_slip _ (desk_state c.args.desk.now) (desk_state c.slip-read.new.self) c.args.round c.args.table c.slip_told.result
    (c.slip-read.result, it.reads.turn, c.slip_told.ensures) (λ represented runs. it.found runs represented.0 represented.1)

pub returns-clause-asked : goal.returns-clause-asked
returns-clause-asked g c = c.slip-read.ensures.reads.asked
