use Rattle.std.proofs.Common.{sym, arith}
use Rattle.er_event.specs.declared.matches.Match.{Match}
use Rattle.er_event.specs.Round.{are_pair}
use Rattle.er_pair.proofs.Meeting.{seats_small, met_more}
use Rattle.er_pair.proofs.meetings.Met.of.Goals as goal

pub add-requires : goal.add-requires
add-requires c =
    let small = seats_small c.args.event.now c.stored-round-items.ensures.sound c.stored-round-items.result.now
    c.stored-round-items.ensures.value c.round-item.result (c.loop-round.round-index, c.loop-round-test.true, sym c.round-item.is)
    c.as_slice-table-items.result.now c.as_slice-table-items.ensures c.table-item.result
    (c.loop-table.table-index, c.loop-table-test.true, sym c.table-item.is) in
    record { one = omega arith; other = omega arith }

pub loop-table-preserved : goal.loop-table-preserved
loop-table-preserved c = λ p q.
    met_more (λ (m : Match). are_pair m.a m.b p q) _ _ _ c.as_slice-table-items.result.now c.loop-table.table-index c.table-item.result
    c.loop-table-test.true c.table-item.is (c.loop-table.invariant p q) (c.in_ok-add.ensures.added p q)
