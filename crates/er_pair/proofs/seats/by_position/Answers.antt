use Rattle.er_pair.proofs.Sharing.{gathered_all}
use Rattle.er_pair.proofs.seats.by_position.Goals as goal

pub returns-clause-met : goal.returns-clause-met
returns-clause-met c =
    let table = c.in_ok-table.ensures in
    gathered_all c.loop-number.rows.items c.in_ok-table.table.items c.args.met.now c.args.order.now c.loop-number.number-index
    table.few table.others table.enough c.loop-number-test.false c.loop-number.invariant table.met
