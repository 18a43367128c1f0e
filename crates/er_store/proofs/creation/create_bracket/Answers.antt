use Rattle.er_store.proofs.Prelude.{on_ok_weaker}
use Rattle.er_store.proofs.Creates.{makes, bracket_made}
use Rattle.er_store.proofs.Made.{bracket_beside}
use Rattle.er_store.proofs.creation.create_bracket.Goals as goal

pub returns-clause-makes : goal.returns-clause-makes
returns-clause-makes g c version = record {
  creates = λ has clean. on_ok_weaker c.run.result (makes (bracket_made version) has) (c.run.ensures.ran clean);
  beside = λ clean. on_ok_weaker c.run.result bracket_beside (c.run.ensures.ran clean);
}
