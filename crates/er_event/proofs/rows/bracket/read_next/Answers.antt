use Rattle.er_event.proofs.Prelude.{arith, common_steps}
use Rattle.er_event.proofs.{RowLemmas.{count_is, first_rows, some_count}, StageLemmas.stages_in_turn}
use Rattle.er_event.proofs.rows.bracket.read_next.Goals as goal

pub returns-then-count-eq0-clause-exact : goal.returns-then-count-eq0-clause-exact
returns-then-count-eq0-clause-exact c ms later shown all are =
    grind (arith, common_steps, some_count stages_in_turn c.args.stage c.args.rows.now ms later shown all are)

pub returns-in_err-matches-clause-exact : goal.returns-in_err-matches-clause-exact
returns-in_err-matches-clause-exact c ms later shown all are =
    grind (arith, common_steps, first_rows stages_in_turn c.args.stage c.args.rows.now ms later shown all are)

pub returns-clause-exact : goal.returns-clause-exact
returns-clause-exact c ms later shown all are =
    grind (arith, common_steps, count_is stages_in_turn c.args.stage c.args.rows.now ms later shown all are)
