-- Tables that are made after those that stand, and one that is found by its name.
use Rattle.std.specs.Prelude.{◌≡◌, ◌<◌, ℕ, true, false, List, [], ◌∷◌, Some, slice_get, codes, IsTrue}
use Rattle.std.specs.List.{AllByRecursion}
use Rattle.sqlite_catalog.specs.Change.{is_used, next_tree}
use Rattle.sqlite_schema.specs.Names.{table_named}
use Rattle.sqlite.specs.Table.{Table}
use Rattle.sqlite.specs.Schema.{Schema}
use Rattle.sqlite.specs.Effect.{Database, IsDatabase}
use Rattle.sqlite.specs.State.{State, Shows}
use Rattle.er_event.specs.Event.{EventValue}
use Rattle.er_event.specs.Version.{IsVersion}
use Rattle.er_event.specs.declared.refusals.Place.{Place}
use Rattle.er_event.specs.declared.refusals.Place.TheVariants.{EventTable}
use Rattle.er_store.specs.Tables.{event, players_of, pairing, bracket, tally}
use Rattle.sqlite_rules.specs.Lists.{Has}
use Rattle.er_store.specs.Beside.{KeepsFirst, HasTable, MakesBeside, NoneAwaitsFive, names_taken}
use Rattle.er_store.specs.Layout.{Layout}
use Rattle.er_store.specs.Representing.{HasTablesAt}

-- where a schema has the table of this name
pub record IsFound (schema : Schema) (at : ℕ) (table : Table) : Type 0 where
  pub named : table_named schema table.name ≡ Some at
  pub is : slice_get schema.tables at ≡ Some table

-- This table comes next after all that stood, with no row.
pub record Grows (table : ℕ → Table) (old new : Database) : Type 0 where
  pub keeps : KeepsFirst old new
  pub rest : List Table
  pub behind : keeps.first.more ≡ table (next_tree old.schema) ∷ rest
  pub empty : new.trees (next_tree old.schema) ≡ []

-- the transaction goes on from the one to the other
pub record ContinuesTransaction (old new : State) : Type 0 where
  pub was : IsTrue old.in_transaction
  pub shows : Shows old new new.now old.committed true
  pub sound : IsDatabase new.now

-- it has a later tree, and no foreign key
pub record IsBareAfter (tree : ℕ) (table : Table) : Type 0 where
  pub later : tree < table.tree
  pub bare : table.references ≡ []

-- a table of this name was made, and no other but SQLite's own of counts
pub record MakesTable (table : ℕ → Table) (old new : State) : Type 0 where
  pub goes : ContinuesTransaction old new
  pub free : is_used old.now.schema (table 0).name ≡ false
  pub grows : Grows table old.now new.now
  pub just : (made : Table) → Has grows.keeps.first.more made → Has ((table 0).name ∷ codes "sqlite_sequence" ∷ []) made.name
  pub others : AllByRecursion (IsBareAfter (next_tree old.now.schema)) grows.rest

-- the table has no row, and its tree comes after this one
pub record IsEmptyAfter (tree : ℕ) (table : ℕ → Table) (db : Database) : Type 0 where
  pub at : ℕ
  pub later : tree < at
  pub has : HasTable db (table at) []

-- the five tables lie so, with no row
pub record LieEmpty (layout : Layout) (db : Database) : Type 0 where
  pub stand : HasTablesAt layout db.schema
  pub empty : (table : Place) → db.trees (layout.tree table) ≡ []

-- The five tables were made and no other, `event` first. If no foreign key waited for one of them, they lie so.
pub record MakesFive (version : ℕ) (old new : State) : Type 0 where
  pub goes : ContinuesTransaction old new
  pub free : is_used old.now.schema (codes "event") ≡ false
  pub event : Grows event old.now new.now
  pub just : (made : Table) → Has event.keeps.first.more made → Has (names_taken version) made.name
  pub players : IsEmptyAfter (next_tree old.now.schema) (players_of version) new.now
  pub pairing : IsEmptyAfter (next_tree old.now.schema) pairing new.now
  pub bracket : IsEmptyAfter (next_tree old.now.schema) bracket new.now
  pub tally : IsEmptyAfter (next_tree old.now.schema) tally new.now
  pub lie : IsVersion version → NoneAwaitsFive version old.now.schema → (tree : Place → ℕ)
      × (tree EventTable ≡ next_tree old.now.schema) × LieEmpty (record { version = version; tree = tree }) new.now

-- and then the event's row was put in: only the commit is left
pub record IsReadyBeside (version : ℕ) (e : EventValue) (old new : State) : Type 0 where
  pub sound : IsDatabase new.now
  pub makes : MakesBeside version e old.now new.now
