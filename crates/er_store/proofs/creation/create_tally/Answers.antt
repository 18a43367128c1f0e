use Rattle.er_store.proofs.Prelude.{on_ok_weaker}
use Rattle.er_store.proofs.Creates.{makes, tally_made}
use Rattle.er_store.proofs.Made.{tally_beside}
use Rattle.er_store.proofs.creation.create_tally.Goals as goal

pub returns-clause-makes : goal.returns-clause-makes
returns-clause-makes g c version = record {
  creates = λ has clean. on_ok_weaker c.run.result (makes (tally_made version) has) (c.run.ensures.ran clean);
  beside = λ clean. on_ok_weaker c.run.result tally_beside (c.run.ensures.ran clean);
}
