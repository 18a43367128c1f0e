use Rattle.er_store.proofs.Prelude.{on_ok_weaker, ◌∙◌}
use Rattle.er_store.proofs.{Beside.{ready_beside, event_found}, Lending.lends_then, Crash.was_clean}
use Rattle.er_store.proofs.transactions.make_event.Goals as goal

pub returns-clause-alone : goal.returns-clause-alone
returns-clause-alone g c none clean =
    let early = was_clean c.insert_event.ensures.lends.stays.survives clean in
    let one = c.in_ok-create_all.ensures.alone none early in
    on_ok_weaker c.insert_event.result (λ two. two.goes.schema ∙ one)
    (c.insert_event.ensures.puts _ _ (event_found (c.in_ok-create_all.ensures.beside early)) clean)

-- whatever stood before
pub returns-clause-beside : goal.returns-clause-beside
returns-clause-beside g c clean =
    let one = c.in_ok-create_all.ensures.beside (was_clean c.insert_event.ensures.lends.stays.survives clean) in
    on_ok_weaker c.insert_event.result (ready_beside c.requires.known c.requires.fresh c.requires.keeps one)
    (c.insert_event.ensures.puts _ _ (event_found one) clean)

pub returns-clause-lends : goal.returns-clause-lends
returns-clause-lends g c = lends_then c.create_all.ensures.lends c.insert_event.ensures.lends
