use Rattle.er_store.proofs.Prelude.{on_ok_weaker}
use Rattle.er_store.proofs.{Creates.{makes, player2_made}, LoadLemmas.fails, Migrating.player2_created, Taken.not_made}
use Rattle.er_store.proofs.Made.{player2_beside}
use Rattle.er_store.proofs.creation.create_player2.Goals as goal

pub returns-clause-makes : goal.returns-clause-makes
returns-clause-makes g c = record {
  creates = λ has clean. on_ok_weaker c.run.result (makes player2_made has) (c.run.ensures.ran clean);
  beside = λ clean. on_ok_weaker c.run.result player2_beside (c.run.ensures.ran clean);
}

pub returns-clause-moves : goal.returns-clause-moves
returns-clause-moves g c e s may clean = on_ok_weaker c.run.result (player2_created may) (c.run.ensures.ran clean)

pub returns-clause-taken : goal.returns-clause-taken
returns-clause-taken g c clean used = fails c.run.result (c.run.ensures.ran clean) (not_made _ _ used)
