use Rattle.er_store.proofs.Prelude.{on_ok_weaker}
use Rattle.er_store.proofs.Creates.{makes, player_made}
use Rattle.er_store.proofs.Made.{player_beside}
use Rattle.er_store.proofs.creation.create_player.Goals as goal

pub returns-clause-makes : goal.returns-clause-makes
returns-clause-makes g c = record {
  creates = λ has clean. on_ok_weaker c.run.result (makes player_made has) (c.run.ensures.ran clean);
  beside = λ clean. on_ok_weaker c.run.result player_beside (c.run.ensures.ran clean);
}
