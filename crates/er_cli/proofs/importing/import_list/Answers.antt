use Rattle.std.proofs.Common.{inl, inr, refl}
use Rattle.er_cli.proofs.importing.import_list.Goals as goal

pub returns-in-Ok : goal.returns-in-Ok
returns-in-Ok g c =
    let it = rw c.deref.ensures.value at c.enrol_all-enrolled.ensures in
    (it.0, inr (inr (_, c.in-Ok.ensures.ok, (_, _, it.1, c.print_additions.ensures))), it.2)

pub returns-in-Err-Memory : goal.returns-in-Err-Memory
returns-in-Err-Memory g c = (_, inl ((refl, refl), c.print.ensures), c.asks_nothing.ensures)
