use Rattle.er_store.proofs.transactions.set_totals.Goals as goal

pub returns-clause-makes : goal.returns-clause-makes
returns-clause-makes g c l e before numbered s represents clean =
    c.set_tally.ensures.makes l e before c.args.player c.args.now c.of-row.ensures numbered s represents clean
