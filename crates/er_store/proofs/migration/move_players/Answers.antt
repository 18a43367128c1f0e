use Rattle.er_store.proofs.Prelude.{on_ok_weaker, state, PlayerTable, [], sym, true≢false}
use Rattle.sqlite_catalog.specs.Change.{next_tree}
use Rattle.er_store.specs.inside.Moving.{Move}
use Rattle.er_store.proofs.{Lending.lends_then, Crash.was_clean, Migrating.{moving_here, former_numbered, is_moved}}
use Rattle.er_store.proofs.migration.move_players.Goals as goal

pub returns-clause-moves : goal.returns-clause-moves
returns-clause-moves g c s may clean =
    let e = c.args.event.now in
    let old = state g.S.Store c.args.tx.now.conn.now in
    let l = may.represents.layout in
    let former = old.now.trees (l.tree PlayerTable) in
    let move : Move = record { before = old.now; from = l; players = next_tree old.now.schema; event = e; serial = s } in
    let clean_3 = was_clean c.set_version.ensures.lends.stays.survives clean in
    let clean_2 = was_clean c.clear_players.ensures.lends.stays.survives clean_3 in
    let clean_1 = was_clean c.copy_players.ensures.lends.stays.survives clean_2 in
    let made = c.in_ok-create_player2.ensures.moves e s may clean_1 in
    let copied = c.in_ok-copy_players.ensures.copies move former (moving_here made) clean_2 in
    let cleared = c.in_ok-clear_players.ensures.clears move 1 e.players former (moving_here copied)
    (former_numbered may.represents) clean_3 in
    on_ok_weaker c.set_version.result (is_moved may.represents.represents.low) (c.set_version.ensures.sets move 1 e.players []
    (moving_here cleared) clean)

pub returns-clause-taken : goal.returns-clause-taken
returns-clause-taken g c clean used =
    let clean_3 = was_clean c.set_version.ensures.lends.stays.survives clean in
    let clean_2 = was_clean c.clear_players.ensures.lends.stays.survives clean_3 in
    let clean_1 = was_clean c.copy_players.ensures.lends.stays.survives clean_2 in
    absurd (true≢false (sym (c.in_ok-create_player2.ensures.taken clean_1 used)))

pub returns-in_err-copy_players-clause-lends : goal.returns-in_err-copy_players-clause-lends
returns-in_err-copy_players-clause-lends g c = lends_then c.create_player2.ensures.lends c.copy_players.ensures.lends

pub returns-in_err-clear_players-clause-lends : goal.returns-in_err-clear_players-clause-lends
returns-in_err-clear_players-clause-lends g c =
    lends_then c.create_player2.ensures.lends (lends_then c.copy_players.ensures.lends c.clear_players.ensures.lends)

pub returns-clause-lends : goal.returns-clause-lends
returns-clause-lends g c =
    lends_then c.create_player2.ensures.lends
    (lends_then c.copy_players.ensures.lends (lends_then c.clear_players.ensures.lends c.set_version.ensures.lends))
