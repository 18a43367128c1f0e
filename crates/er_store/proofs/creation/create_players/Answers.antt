use Rattle.er_store.proofs.Prelude.{on_ok_weaker, rules}
use Rattle.er_store.proofs.Behind.{first_players}
use Rattle.er_store.proofs.creation.create_players.Goals as goal

pub returns-then-version-eq2-clause-makes : goal.returns-then-version-eq2-clause-makes
returns-then-version-eq2-clause-makes g c = rw c.if-version-eq2.true c.create_player2.ensures.makes

pub returns-else-version-eq2-clause-makes : goal.returns-else-version-eq2-clause-makes
returns-else-version-eq2-clause-makes g c =
    record {
      creates = search rules;
      beside = λ clean.
          on_ok_weaker c.create_player.result (first_players c.args.version c.if-version-eq2.false)
          (c.create_player.ensures.makes.beside clean);
    }
