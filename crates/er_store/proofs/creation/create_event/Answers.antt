use Rattle.er_store.proofs.Prelude.{on_ok_weaker}
use Rattle.er_store.proofs.Creates.{makes, event_made}
use Rattle.er_store.proofs.Made.{event_beside}
use Rattle.er_store.proofs.creation.create_event.Goals as goal

pub returns-clause-makes : goal.returns-clause-makes
returns-clause-makes g c = record {
  creates = λ has clean. on_ok_weaker c.run.result (makes event_made has) (c.run.ensures.ran clean);
  beside = λ clean. on_ok_weaker c.run.result event_beside (c.run.ensures.ran clean);
}
