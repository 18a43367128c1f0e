use Rattle.er_event.proofs.Prelude.{arith, common_steps}
use Rattle.er_event.proofs.{PairingLemmas.rounds_in_turn, RowLemmas.{count_is, first_rows, some_count}}
use Rattle.er_event.proofs.rows.pairing.read_next.Goals as goal

pub returns-then-count-eq0-clause-exact : goal.returns-then-count-eq0-clause-exact
returns-then-count-eq0-clause-exact c ms later shown all are =
    grind (arith, common_steps, some_count rounds_in_turn c.args.round c.args.rows.now (record { matches = ms }) later shown all are)

pub returns-in_err-matches-clause-exact : goal.returns-in_err-matches-clause-exact
returns-in_err-matches-clause-exact c ms later shown all are =
    grind (arith, common_steps, first_rows rounds_in_turn c.args.round c.args.rows.now (record { matches = ms }) later shown all are)

pub returns-clause-exact : goal.returns-clause-exact
returns-clause-exact c ms later shown all are =
    grind (arith, common_steps, count_is rounds_in_turn c.args.round c.args.rows.now (record { matches = ms }) later shown all are)
