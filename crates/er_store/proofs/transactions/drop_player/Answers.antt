use Rattle.er_store.proofs.Prelude.{◌∙◌}
use Rattle.er_store.proofs.Layouts.{is_second}
use Rattle.er_store.proofs.transactions.drop_player.Goals as goal

pub returns-then-version-eq1-clause-makes : goal.returns-then-version-eq1-clause-makes
returns-then-version-eq1-clause-makes g c l e is numbered s rows represents =
    c.set_dropped.ensures.makes l e (is ∙ c.if-version-eq1.true) numbered s rows represents

pub returns-else-version-eq1-clause-makes : goal.returns-else-version-eq1-clause-makes
returns-else-version-eq1-clause-makes g c l e is numbered s rows represents =
    c.set_dropped2.ensures.makes l e (is_second l represents.has.tables c.args.version is c.if-version-eq1.false) numbered s rows represents
