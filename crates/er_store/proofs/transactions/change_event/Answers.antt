use Rattle.er_store.proofs.Prelude.{after, tally_rows, on_ok_weaker}
use Rattle.er_store.proofs.{Lending.lends_then, Crash.was_clean, Together.leaves_then}
use Rattle.er_store.proofs.transactions.change_event.Goals as goal

pub returns-clause-makes : goal.returns-clause-makes
returns-clause-makes g c l version represents clean =
    let next = after c.args.event.now c.args.change.now in
    let one = c.in_ok-change_tables.ensures.makes l version c.args.serial represents
    (was_clean c.set_serial.ensures.lends.stays.survives clean) in
    on_ok_weaker c.set_serial.result (λ two. record { leaves = leaves_then one.leaves two.leaves; represents = two.represents })
    (c.set_serial.ensures.makes l next c.args.serial (tally_rows next) one.represents clean)

pub returns-clause-lends : goal.returns-clause-lends
returns-clause-lends g c = lends_then c.change_tables.ensures.lends c.set_serial.ensures.lends
