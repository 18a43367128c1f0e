-- What one statement does within a transaction.
use Rattle.std.specs.Prelude.{◌≡◌, ◌≢◌, ◌<◌, ◌≤◌, ℕ, Ok, false, List, length, IsTrue}
use Rattle.std.specs.List.{AllByRecursion}
use Rattle.sqlite.specs.Tree.{put_row}
use Rattle.sqlite.specs.Order.{Row}
use Rattle.sqlite.specs.Effect.{IsDatabase}
use Rattle.sqlite.specs.State.{State, HasCleanDisk, KeepsCommit, Survives, ExecutesInside}
use Rattle.sqlite_rules.specs.Edit.{is_taken}
use Rattle.er_event.specs.declared.matches.Match.{Match}
use Rattle.er_event.specs.declared.rows.tally.TallyRow.{TallyRow}
use Rattle.er_event.specs.Event.{EventValue}
use Rattle.er_event.specs.Rows.{tally_rows}
use Rattle.er_store.specs.Tables.{player_tree, players_of}
use Rattle.sqlite.specs.Table.{Table}
use Rattle.er_store.specs.Representing.{RepresentsWith, RepresentsIn, KeepsRest}
use Rattle.er_store.specs.Layout.{Layout}
use Rattle.er_store.specs.inside.Making.{ContinuesTransaction}

-- the statement went well, within a transaction
pub record Ran (sql : List ℕ) (params : Row) (old new : State) : Type 0 where
  pub was : IsTrue old.in_transaction
  pub count : ℕ
  pub executes : ExecutesInside 0 sql params old new (Ok count)

-- However a step ends, a crash leaves what it could before, and the last commit is as it was.
pub record Stays (old new : State) : Type 0 where
  pub committed : HasCleanDisk new → KeepsCommit old new
  pub survives : Survives old new (λ _. ⊥)

-- the transaction goes on, and no other table has changed
pub record Goes (tree : ℕ) (old new : State) : Type 0 where
  pub continues : ContinuesTransaction old new
  pub schema : new.now.schema ≡ old.now.schema
  pub others : AllByRecursion (λ t. t.tree ≢ tree → new.now.trees t.tree ≡ old.now.trees t.tree) old.now.schema.tables

-- the row was put into the tree, where its rowid was free
pub record Puts (tree : ℕ) (row : Row) (old new : State) : Type 0 where
  pub goes : Goes tree old new
  pub free : is_taken (old.now.trees tree) row ≡ false
  pub rows : new.now.trees tree ≡ put_row row (old.now.trees tree)

-- The transaction goes on from the one to the other, and the tables that are none of the event's are as they were.
pub record LeavesOthers (layout : Layout) (old new : State) : Type 0 where
  pub continues : ContinuesTransaction old new
  pub keeps : KeepsRest layout old.now new.now

-- what a step makes of tables that represent an event, with these rows of totals
pub record BringsToWith (layout : Layout) (old new : State) (e : EventValue) (serial : ℕ) (totals : List TallyRow) : Type 0 where
  pub leaves : LeavesOthers layout old new
  pub represents : RepresentsWith layout new.now e serial totals

-- and with those of the event
abbrev pub BringsTo : Layout → State → State → EventValue → ℕ → Type 0
BringsTo layout old new e serial = BringsToWith layout old new e serial (tally_rows e)

-- only the commit is left: the tables represent the event in this version
pub record IsReady (version : ℕ) (s : State) (e : EventValue) (serial : ℕ) : Type 0 where
  pub sound : IsDatabase s.now
  pub represents : RepresentsIn version s.now e serial

-- a stage of the playoff: at most four matches, and at least one
abbrev pub IsStage : List Match → Type 0
IsStage matches = (0 < length matches) × (length matches ≤ 4)

-- the table of players that creation makes in this version
abbrev pub made_players : ℕ → Table
made_players version = players_of version player_tree
