-- What a crash leaves of a migration.
use Rattle.er_store.proofs.Prelude.{◌≡◌, ◌∙◌, ℕ, [], inl, inr, false, sym, ap, subst, Trees, Database, State, HasCleanDisk, Survives}
use Rattle.er_store.proofs.Prelude.{PlayerTable, EventValue, Layout, HasTablesAt, RepresentsIn, AreTreesOf}
use Rattle.sqlite.specs.Effect.{IsDatabase}
use Rattle.sqlite.specs.State as sqlite
use Rattle.er_store.proofs.Crash.{Settles, only, was_clean}
use Rattle.er_store.specs.{inside.Moving.IsMoved, Representing.Either, Migrated.{IsMigrated, IsMovedAmong, MigratesBeside}}

-- what the commit leaves
moved_among : {before : Database} {last : State} {e : EventValue} {s : ℕ} → IsMoved before last e s → {trees : Trees}
    → trees ≡ last.now.trees → IsMovedAmong before e s trees
moved_among {last = last} moved same = rw same (record {
  stored = record { schema = last.now.schema; sound = moved.sound; represents = moved.represents };
  beside = moved.beside;
})

module _ {before : Database} {last end : State} {e : EventValue} {s : ℕ} (moved : IsMoved before last e s) where
  -- once it is committed, the connection sees it
  pub moved_written : sqlite.Shows last end last.now last.now false → IsMigrated end e s
  moved_written done = record {
    shows = record {
      is_open = done.is_open;
      sound = subst IsDatabase (sym done.now_is) moved.sound;
      settled = done.now_is ∙ sym done.committed_is;
      represents = subst (λ d. RepresentsIn 2 d e s) (sym done.now_is) moved.represents;
    };
    emptied = subst (λ (d : Database). (l : Layout) → l.version ≡ 1 → HasTablesAt l d.schema → d.trees (l.tree PlayerTable) ≡ [])
        (sym done.now_is) moved.emptied;
  }

  -- and what stood beside stands there
  pub moved_beside : sqlite.Shows last end last.now last.now false → MigratesBeside before end.now
  moved_beside done = subst (MigratesBeside before) (sym done.now_is) moved.beside

  -- a crash leaves it so
  pub moved_stays : Settles end → sqlite.Shows last end last.now last.now false → (trees : Trees) → end.may_leave trees
      → IsMovedAmong before e s trees
  moved_stays settles done trees may = moved_among moved (settles trees done.is_open may ∙ ap (λ (d : Database). d.trees) done.committed_is)

  -- and if the commit fails, what it could before, or that
  pub moved_leaves : (start : State) → ((trees : Trees) → start.may_leave trees → AreTreesOf before trees)
      → Survives start last (λ _. ⊥) → Survives last end (λ db. db ≡ last.now.trees)
      → HasCleanDisk end → (trees : Trees) → end.may_leave trees → Either (AreTreesOf before) (IsMovedAmong before e s) trees
  moved_leaves start stays quiet commits clean trees may = elim (commits.crash clean trees may) [
    | inl was ↦ inl (stays trees (only (quiet.crash (was_clean commits clean) trees was)))
    | inr same ↦ inr (moved_among moved same)
  ]
