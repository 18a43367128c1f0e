use Rattle.er_event.proofs.Prelude.{arith}
use Rattle.er_event.proofs.PairingLemmas.{same_rows}
use Rattle.er_event.proofs.rows.pairing.read_match.Goals as goal

pub returns-in_err-played-clause-exact : goal.returns-in_err-played-clause-exact
returns-in_err-played-clause-exact c m shown is = grind (arith, c.possible_match.ensures c.args.round (c.args.table, m) shown is)

pub returns-then-eq-clause-value : goal.returns-then-eq-clause-value
returns-then-eq-clause-value c = grind (arith, (same_rows c.of.result c.args.row.now).0)

pub returns-then-eq-clause-exact : goal.returns-then-eq-clause-exact
returns-then-eq-clause-exact c m shown is = grind (arith, c.possible_match.ensures c.args.round (c.args.table, m) shown is)

pub returns-else-eq-clause-exact : goal.returns-else-eq-clause-exact
returns-else-eq-clause-exact c m shown is =
    grind (arith, c.possible_match.ensures c.args.round (c.args.table, m) shown is, (same_rows c.of.result c.args.row.now).1)
