use Rattle.er_store.proofs.Prelude.{on_ok_weaker, sym, ◌∙◌, PlayerTable}
use Rattle.er_store.proofs.{Layouts.{player_there, player2_there, is_second}, Together.{old_player_added, second_player_added}}
use Rattle.er_store.proofs.transactions.add_player.Goals as goal

pub returns-then-version-eq1-clause-makes : goal.returns-then-version-eq1-clause-makes
returns-then-version-eq1-clause-makes g c l e is number joined early s rows represents clean =
    let first = is ∙ c.if-version-eq1.true in
    let there = (player_there l first represents.has.tables).1 in
    on_ok_weaker c.insert_player.result
    (old_player_added l first represents c.args.name.now (sym joined ∙ early c.if-version-eq1.true))
    (rw number at (c.insert_player.ensures.puts _ (l.tree PlayerTable) (record { named = there.named; is = there.is }) clean))

pub returns-else-version-eq1-clause-makes : goal.returns-else-version-eq1-clause-makes
returns-else-version-eq1-clause-makes g c l e is number joined early s rows represents clean =
    let second = is_second l represents.has.tables c.args.version is c.if-version-eq1.false in
    let there = (player2_there l second represents.has.tables).1 in
    on_ok_weaker c.insert_player2.result (second_player_added l second represents c.args.name.now)
    (rw (number, joined) at
    (c.insert_player2.ensures.puts _ (l.tree PlayerTable) (record { named = there.named; is = there.is }) clean))
