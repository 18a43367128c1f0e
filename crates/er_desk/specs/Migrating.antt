-- What a migration of a desk's tables answers.
use Rattle.std.specs.Prelude.{◌≡◌, ◌⊎◌, ℕ, [], true, IsTrue, IsFalse, IsErr, OnOk, OnErr, Result, Ok, Err}
use Rattle.sqlite.specs.State.{HasCleanDisk}
use Rattle.sqlite_trees.specs.declared.store.Store.{Ghosts}
use Rattle.er_event.specs.declared.refusals.Place.TheVariants.{PlayerTable}
use Rattle.er_event.specs.declared.refusals.Refusal.{Refusal}
use Rattle.er_event.specs.declared.refusals.Refusal.TheVariants.{NeedsReopen}
use Rattle.er_store.specs.{Fault.IsFault, Layout.Layout, Migrated.{NoneAwaitsPlayer2, IsTaken, MigratesBeside}, Reading.KeepsTables}
use Rattle.er_store.specs.Representing.{HasTablesAt, Either, AfterCrash}
use Rattle.er_desk.specs.declared.desk.Desk.{Desk}
use Rattle.er_desk.specs.Desk.{DeskState, HoldsOwnEvent, IsStoredAt, placed_at, placed_of, point_of, state, desk_state, version_in}
use Rattle.er_desk.specs.Headline.{RecoversJust}

-- the tables are of version 2, or no foreign key waits for a table `player2`
abbrev pub MayMigrate : {S : Type 0} (g : Ghosts S) → Desk S g → Type 0
MayMigrate g desk = (version_in desk ≡ 2) ⊎ NoneAwaitsPlayer2 (state g desk).now.schema

-- the desk's state, the answer, and the desk's state then
abbrev pub Migrates : DeskState → Result ℕ Refusal → DeskState → Type 0
Migrates old (Ok serial) new = IsFalse old.needs_reopen × (serial ≡ old.serial) × (new ≡ record old { version = 2 })
Migrates old (Err why) new =
    (IsTrue old.needs_reopen × (why ≡ NeedsReopen) × (new ≡ old))
    ⊎ (IsFalse old.needs_reopen × (old.version ≡ 1) × IsFault why × (new ≡ record old { needs_reopen = true }))

-- The tables of a desk are moved to version 2. The event and the serial stay. What is left of them is said of tables that may be
-- migrated.
pub record MovesDesk {S : Type 0} (g : Ghosts S) (old : Desk S g) (result : Result ℕ Refusal) (new : Desk S g) : Type 0 where
  -- a fault of the store stops the desk, and nothing else does
  pub turn : Migrates (desk_state old) result (desk_state new)
  pub waits : IsTrue (desk_state old).needs_reopen ⊎ (version_in old ≡ 2) → new ≡ old
  pub clean : HasCleanDisk (state g new) → HasCleanDisk (state g old)
  pub represents : MayMigrate g old → HasCleanDisk (state g new) → HoldsOwnEvent g old → IsFalse (desk_state new).needs_reopen
      → HoldsOwnEvent g new
  -- a refusal changes no table, whatever the tables hold
  pub kept : HasCleanDisk (state g new) → OnErr result (KeepsTables (state g old) (state g new))
  -- it is refused if the name `player2` is taken, and a crash then leaves version 1
  pub taken : IsFalse (desk_state old).needs_reopen → version_in old ≡ 1 → HasCleanDisk (state g new) → IsTaken (state g old).now
      → IsErr result × (HoldsOwnEvent g old → RecoversJust (state g new) (placed_of (desk_state old)))
  -- with `Ok` each thing that a crash may leave is of version 2, and `player` has no rows
  pub acknowledged : MayMigrate g old → HoldsOwnEvent g old
      → OnOk result (RecoversJust (state g new) (placed_at (point_of (desk_state old)) 2))
  pub emptied : MayMigrate g old → HasCleanDisk (state g new) → HoldsOwnEvent g old → version_in old ≡ 1
      → OnOk result ((l : Layout) → l.version ≡ 1 → HasTablesAt l (state g new).now.schema
      → (state g new).now.trees (l.tree PlayerTable) ≡ [])
  -- whatever stood beside them stays
  pub beside : MayMigrate g old → HasCleanDisk (state g new) → HoldsOwnEvent g old → version_in old ≡ 1
      → OnOk result (MigratesBeside (state g old).now (state g new).now)
  -- at every exit it is the event and its serial, whole in the version that they were in or whole in version 2
  pub crash : MayMigrate g old → HoldsOwnEvent g old
      → AfterCrash (state g new) (Either (IsStoredAt (placed_of (desk_state old))) (IsStoredAt (placed_at (point_of (desk_state old)) 2)))
