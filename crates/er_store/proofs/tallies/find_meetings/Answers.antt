use Rattle.er_store.proofs.Prelude.{◌≡◌, ◌∙◌, meetings}
use Rattle.er_store.proofs.{Lending.looks_as, Tallying.memory-fault}
use Rattle.er_store.proofs.tallies.find_meetings.Goals as goal

pub returns-in-Ok-clause-found : goal.returns-in-Ok-clause-found
returns-in-Ok-clause-found g c clean e s represents sound =
    memory-fault c.meetings_of.result (λ list. list.items ≡ meetings e)
    (c.meetings_of.ensures.event e sound (c.as_slice.ensures.value ∙ c.in-Ok.ensures.exact clean e s represents sound))

pub returns-in-Ok-clause-looks : goal.returns-in-Ok-clause-looks
returns-in-Ok-clause-looks g c = looks_as c.meetings_of.result c.in-Ok.ensures.looks
