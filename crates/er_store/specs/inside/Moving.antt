-- What a migration does, step by step, and what it leaves.
use Rattle.std.specs.Prelude.{◌≡◌, ℕ, ℤ, List, [], ◌∷◌, All, codes}
use Rattle.std.specs.List.{AllByRecursion}
use Rattle.sqlite_catalog.specs.Change.{next_tree}
use Rattle.sqlite_rules.specs.Lists.{Has}
use Rattle.sqlite.specs.Order.{Row}
use Rattle.sqlite.specs.Table.{Table}
use Rattle.sqlite.specs.Tree.{rowid}
use Rattle.sqlite.specs.declared.types.Value.TheVariants.{Int}
use Rattle.sqlite.specs.Effect.{Database, IsDatabase}
use Rattle.sqlite.specs.State.{State}
use Rattle.er_event.specs.declared.players.Player.{Player}
use Rattle.er_event.specs.Event.{EventValue}
use Rattle.er_event.specs.Rows.{tally_rows}
use Rattle.er_event.specs.declared.refusals.Place.{Place}
use Rattle.er_event.specs.declared.refusals.Place.TheVariants.{EventTable, PlayerTable, PairingTable, BracketTable, TallyTable}
use Rattle.er_store.specs.Beside.{StandsFirst}
use Rattle.er_store.specs.Migrated.{NoneAwaitsPlayer2, MigratesBeside}
use Rattle.er_store.specs.Layout.{Layout}
use Rattle.er_store.specs.Representing.{rows_with, HasTablesAt, HasRows, IsOther, RepresentsIn}
use Rattle.er_store.specs.inside.Making.{ContinuesTransaction}

-- the tables of version 2 lie as those of version 1, but for that of the players
abbrev pub moved_place : (Place → ℕ) → ℕ → Place → ℕ
moved_place tree players PlayerTable = players
moved_place tree players EventTable = tree EventTable
moved_place tree players PairingTable = tree PairingTable
moved_place tree players BracketTable = tree BracketTable
moved_place tree players TallyTable = tree TallyTable

abbrev pub moved_layout : Layout → ℕ → Layout
moved_layout layout players = record { version = 2; tree = moved_place layout.tree players }

-- a migration: what it began with, how the tables of version 1 lie in it, the tree of `player2`, and the event with its serial
pub record Move : Type 0 where
  pub before : Database
  pub from : Layout
  pub players : ℕ
  pub event : EventValue
  pub serial : ℕ

abbrev pub layout_after : Move → Layout
layout_after move = moved_layout move.from move.players

-- each row has a number for its rowid
abbrev pub HasNumber : Row → Type 0
HasNumber r = (id : ℤ) × (rowid r ≡ Int id)

abbrev pub HaveNumbers : List Row → Type 0
HaveNumbers rows = All HasNumber rows

-- What stood before stands first, and `player2` comes next after it. The tables of others have the rows that they had.
pub record KeepsBefore (move : Move) (db : Database) : Type 0 where
  pub first : StandsFirst move.before.schema db.schema
  pub just : (table : Table) → Has first.more table → Has (codes "player2" ∷ codes "sqlite_sequence" ∷ []) table.name
  pub next : move.players ≡ next_tree move.before.schema
  pub stood : HasTablesAt move.from move.before.schema
  pub rows : AllByRecursion (λ t. IsOther move.from t.tree → db.trees t.tree ≡ move.before.trees t.tree) move.before.schema.tables

-- The transaction goes on. The tables of version 1 still stand, and `player2` is there: the event's row has this version, `player2`
-- has these players, and `player` these rows.
pub record IsMoving (move : Move) (old new : State) (version : ℕ) (players : List Player) (left : List Row) : Type 0 where
  pub goes : ContinuesTransaction old new
  pub first : move.from.version ≡ 1
  pub stand : HasTablesAt move.from new.now.schema
  pub has : HasRows (layout_after move) new.now
      (rows_with version (record move.event { players = players }) move.serial (tally_rows move.event))
  pub former : new.now.trees (move.from.tree PlayerTable) ≡ left
  pub keeps : KeepsBefore move new.now

-- of tables that lay so it makes the first step: `player2` is there, with no row
abbrev pub IsMoveBegun : Layout → EventValue → ℕ → State → State → Type 0
IsMoveBegun from e serial old new =
    let move : Move = record { before = old.now; from = from; players = next_tree old.now.schema; event = e; serial = serial } in
    IsMoving move old new 1 [] (old.now.trees (from.tree PlayerTable))

-- only the commit is left: the tables represent the event in version 2, and `player` has no rows
pub record IsMoved (before : Database) (s : State) (e : EventValue) (serial : ℕ) : Type 0 where
  pub sound : IsDatabase s.now
  pub represents : RepresentsIn 2 s.now e serial
  pub emptied : (l : Layout) → l.version ≡ 1 → HasTablesAt l s.now.schema → s.now.trees (l.tree PlayerTable) ≡ []
  pub beside : MigratesBeside before s.now

-- the tables represent the event in version 1, and no foreign key waits for `player2`
pub record MayMove (s : State) (e : EventValue) (serial : ℕ) : Type 0 where
  pub represents : RepresentsIn 1 s.now e serial
  pub unawaited : NoneAwaitsPlayer2 s.now.schema
