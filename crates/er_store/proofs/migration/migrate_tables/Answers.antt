use Rattle.er_store.proofs.Prelude.{inl, rules, true, ◌≡◌, ℕ, on_ok_weaker, HasCleanDisk, state, sym}
use Rattle.er_store.proofs.Prelude.{true≢false}
use Rattle.er_store.proofs.{Lending.{on_ok_later, dropped, committed}, Crash.{was_clean, survives_both}}
use Rattle.er_store.proofs.{Crash.{leaves_now, leaves_old}, MovedCrash.{moved_written, moved_beside, moved_stays, moved_leaves}}
use Rattle.er_store.specs.{Migrated.CanMigrate, inside.Moving.IsMoved}
use Rattle.er_store.proofs.migration.migrate_tables.Given as given
use Rattle.er_store.proofs.migration.migrate_tables.Goals as goal

-- the move went well, since the commit is reached
moved : (g : given.Over) (c : goal.After-conn-2-1 g) → HasCleanDisk (state g.S.Store c.commit.new.self.0) → (s : ℕ)
    → CanMigrate (state g.S.Store c.args.conn.now) c.args.event.now s
    → IsMoved (state g.S.Store c.args.conn.now).now (state g.S.Store c.move_players.new.tx.conn.now) c.args.event.now s
moved g c late s may =
    let moves = rw c.transaction-tx.ensures.begun at c.in_ok-move_players.ensures.moves in
    moves s (record { represents = may.shows.represents; unawaited = may.unawaited })
    (was_clean c.commit.ensures.survives late)

pub returns-clause-migrated : goal.returns-clause-migrated
returns-clause-migrated g c clean s may =
    let same : c.commit.new.self.0 ≡ c.conn-2-1.given.0 = search rules in
    let late = rw (← same) at clean in
    let it = moved g c late s may in
    rw (← same) (on_ok_weaker c.commit.result (λ done. moved_written it done.1) (c.commit.ensures.ok late))

pub returns-clause-beside : goal.returns-clause-beside
returns-clause-beside g c clean s may =
    let same : c.commit.new.self.0 ≡ c.conn-2-1.given.0 = search rules in
    let late = rw (← same) at clean in
    let it = moved g c late s may in
    rw (← same) (on_ok_weaker c.commit.result (λ done. moved_beside it done.1) (c.commit.ensures.ok late))

pub returns-clause-acknowledged : goal.returns-clause-acknowledged
returns-clause-acknowledged g c s may = on_ok_later _ _ c.commit.result (λ clean.
    let end = c.commit.new.self.0 in
    let same : end ≡ c.conn-2-1.given.0 = search rules in
    let late = rw (← same) at clean in
    let it = moved g c late s may in
    rw (← same) (on_ok_weaker c.commit.result (λ done.
    moved_stays it (λ db is_open left. g.met.S.Store.settled end.store db is_open left) done.1)
    (c.commit.ensures.ok late)))

pub returns-clause-crash : goal.returns-clause-crash
returns-clause-crash g c s may clean trees left =
    let old = state g.S.Store c.args.conn.now in
    let same : c.commit.new.self.0 ≡ c.conn-2-1.given.0 = search rules in
    let late = rw (← same) at clean in
    moved_leaves (moved g c late s may) (record old { in_transaction = true })
    (leaves_now old (λ db is_open left. g.met.S.Store.settled c.args.conn.now.store db is_open left) may.shows)
    (rw c.transaction-tx.ensures.begun at c.move_players.ensures.lends.stays.survives)
    c.commit.ensures.survives late trees (rw (← same) at left)

-- if the move is refused, the transaction is dropped
pub returns-in_err-move_players-clause-crash : goal.returns-in_err-move_players-clause-crash
returns-in_err-move_players-clause-crash g c s may clean trees left =
    let old = state g.S.Store c.args.conn.now in
    let end = c.drop-tx.new.self.0 in
    let same : end ≡ c.conn-1.given.0 = search rules in
    let step = rw c.transaction-tx.ensures.begun at c.move_players.ensures.lends.stays.survives in
    let quiet = survives_both step c.drop-tx.ensures.survives in
    inl (leaves_old old (state g.S.Store end)
    (λ db is_open left. g.met.S.Store.settled c.args.conn.now.store db is_open left) may.shows
    quiet (rw (← same) at clean) trees (rw (← same) at left))

-- the name is taken
pub returns-in_err-move_players-clause-taken : goal.returns-in_err-move_players-clause-taken
returns-in_err-move_players-clause-taken g c clean used =
    let old = state g.S.Store c.args.conn.now in
    let end = c.drop-tx.new.self.0 in
    let same : end ≡ c.conn-1.given.0 = search rules in
    let step = rw c.transaction-tx.ensures.begun at c.move_players.ensures.lends.stays.survives in
    let quiet = survives_both step c.drop-tx.ensures.survives in (
      search rules,
      λ s shows clean trees left. leaves_old old (state g.S.Store end)
          (λ db is_open left. g.met.S.Store.settled c.args.conn.now.store db is_open left) shows
          quiet (rw (← same) at clean) trees (rw (← same) at left),
    )

pub returns-clause-taken : goal.returns-clause-taken
returns-clause-taken g c clean used =
    let same : c.commit.new.self.0 ≡ c.conn-2-1.given.0 = search rules in
    let late = rw (← same) at clean in
    let taken = rw c.transaction-tx.ensures.begun at (c.in_ok-move_players.ensures.taken (was_clean c.commit.ensures.survives late)) in
    absurd (true≢false (sym (taken used)))

-- a refusal leaves the tables as they were
pub returns-in_err-move_players-clause-transacts : goal.returns-in_err-move_players-clause-transacts
returns-in_err-move_players-clause-transacts g c =
    dropped g.S.Store c.args.conn.now c.transaction-tx.result.conn.now c.move_players.new.tx.conn.now c.drop-tx.new.self.0
    c.conn-1.given.0 _
    c.from_residual.result c.transaction-tx.ensures.begun c.move_players.ensures.lends.stays c.drop-tx.ensures.survives (search rules)
    (search rules) c.drop-tx.ensures.undone

pub returns-clause-transacts : goal.returns-clause-transacts
returns-clause-transacts g c =
    committed g.S.Store c.args.conn.now c.transaction-tx.result.conn.now c.move_players.new.tx.conn.now c.commit.new.self.0
    c.conn-2-1.given.0 _
    c.commit.result c.transaction-tx.ensures.begun c.move_players.ensures.lends.stays c.commit.ensures.survives (search rules)
    (search rules)
    c.in_ok-move_players.ensures.inside c.commit.ensures.err
