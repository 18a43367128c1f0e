use Rattle.er_event.proofs.Prelude.{arith, common_steps}
use Rattle.er_event.proofs.ShownLemmas.{rounds_shown}
use Rattle.er_event.proofs.rows.pairing.read_stored.Goals as goal

pub returns-in_err-rounds-clause-damaged : goal.returns-in_err-rounds-clause-damaged
returns-in_err-rounds-clause-damaged c place bad =
    grind (arith, common_steps, rounds_shown c.args.setup.now.phase c.args.setup.now.rounds c.args.count)

pub returns-then-not-suits-clause-damaged : goal.returns-then-not-suits-clause-damaged
returns-then-not-suits-clause-damaged c place bad =
    grind (arith, common_steps, rounds_shown c.args.setup.now.phase c.args.setup.now.rounds c.args.count)

pub returns-clause-only : goal.returns-clause-only
returns-clause-only c others are listed =
    let shown = rounds_shown c.args.setup.now.phase c.args.setup.now.rounds c.args.count others c.requires.players are in
    grind (arith, common_steps)
