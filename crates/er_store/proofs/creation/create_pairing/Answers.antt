use Rattle.er_store.proofs.Prelude.{on_ok_weaker}
use Rattle.er_store.proofs.Creates.{makes, pairing_made}
use Rattle.er_store.proofs.Made.{pairing_beside}
use Rattle.er_store.proofs.creation.create_pairing.Goals as goal

pub returns-clause-makes : goal.returns-clause-makes
returns-clause-makes g c version = record {
  creates = λ has clean. on_ok_weaker c.run.result (makes (pairing_made version) has) (c.run.ensures.ran clean);
  beside = λ clean. on_ok_weaker c.run.result pairing_beside (c.run.ensures.ran clean);
}
