-- What creation leaves beside tables of others: theirs as they were, and after them the five.
use Rattle.std.specs.Prelude.{◌≡◌, ℕ, false, List, [], ◌∷◌, ◌++◌, IsTrue, codes}
use Rattle.std.specs.List.{AllByRecursion}
use Rattle.sqlite_catalog.specs.Change.{KeepsRows}
use Rattle.sqlite_catalog.specs.Listing.{IsSound}
use Rattle.sqlite_rules.specs.Lists.{Has}
use Rattle.sqlite_schema.specs.Names.{same_name}
use Rattle.sqlite_schema.specs.declared.schema.Index.{Index}
use Rattle.sqlite.specs.Order.{Row}
use Rattle.sqlite.specs.Table.{Table}
use Rattle.sqlite.specs.Tree.{Trees}
use Rattle.sqlite.specs.Schema.{Schema}
use Rattle.sqlite.specs.Effect.{Database, IsDatabase}
use Rattle.sqlite.specs.State.{State}
use Rattle.er_event.specs.Event.{EventValue}
use Rattle.er_store.specs.Tables.{event, players_of, pairing, bracket, tally}
use Rattle.er_store.specs.Rows.{stored_event}
use Rattle.er_store.specs.Representing.{CanRead, RepresentsIn}

-- What stood in the file stands first in it, and what was made comes after it.
pub record StandsFirst (old new : Schema) : Type 0 where
  pub more : List Table
  pub tables : new.tables ≡ old.tables ++ more
  pub keys : List Index
  pub indexes : new.indexes ≡ old.indexes ++ keys
  pub views : new.views ≡ old.views

-- It stands as it was, each table with its rows.
pub record KeepsFirst (old new : Database) : Type 0 where
  pub first : StandsFirst old.schema new.schema
  pub rows : KeepsRows old.schema.tables old.trees new.trees

-- the table is there, with these rows
pub record HasTable (db : Database) (table : Table) (rows : List Row) : Type 0 where
  pub listed : Has db.schema.tables table
  pub holds : db.trees table.tree ≡ rows

-- wherever its tree is
abbrev pub IsMade : (ℕ → Table) → List Row → Database → Type 0
IsMade table rows db = (tree : ℕ) × HasTable db (table tree) rows

-- the names of the five tables of a version
abbrev pub names_made : ℕ → List (List ℕ)
names_made version = codes "event" ∷ (players_of version 0).name ∷ codes "pairing" ∷ codes "bracket" ∷ codes "tally" ∷ []

-- The names that a creation takes: those of its five tables, and that of SQLite's own table of counts, which comes too if a table of
-- others asks for it.
abbrev pub names_taken : ℕ → List (List ℕ)
names_taken version = names_made version ++ codes "sqlite_sequence" ∷ []

-- no foreign key of a table names this one
abbrev pub NoneAwaits : List ℕ → Schema → Type 0
NoneAwaits name schema = AllByRecursion (λ t. AllByRecursion (λ ref. same_name name ref.parent ≡ false) t.references) schema.tables

-- nor one of the five of this version
abbrev pub NoneAwaitsFive : ℕ → Schema → Type 0
NoneAwaitsFive version schema = AllByRecursion (λ name. NoneAwaits name schema) (names_made version)

-- What stood stays, and the five tables of this version are there, and no other: `event` can be read and has the event's row, and the
-- others have none. If no foreign key of what stood names one of them, they represent the event.
pub record MakesBeside (version : ℕ) (e : EventValue) (old new : Database) : Type 0 where
  pub keeps : KeepsFirst old new
  pub just : (table : Table) → Has keeps.first.more table → Has (names_taken version) table.name
  pub readable : CanRead new.schema
  pub event : IsMade event (stored_event version e 0 ∷ []) new
  pub players : IsMade (players_of version) [] new
  pub pairing : IsMade pairing [] new
  pub bracket : IsMade bracket [] new
  pub tally : IsMade tally [] new
  pub represents : NoneAwaitsFive version old.schema → RepresentsIn version new e 0

-- what a crash leaves has them so
pub record IsStoredBeside (version : ℕ) (e : EventValue) (old : Database) (trees : Trees) : Type 0 where
  pub schema : Schema
  pub sound : IsSound schema trees
  pub makes : MakesBeside version e old (record { schema = schema; trees = trees })

-- The connection sees them so beside what stood, with nothing pending, and a crash leaves them so.
pub record HoldsBeside (version : ℕ) (e : EventValue) (old : Database) (s : State) : Type 0 where
  pub is_open : IsTrue s.is_open
  pub sound : IsDatabase s.now
  pub settled : s.now ≡ s.committed
  pub makes : MakesBeside version e old s.now
  pub leaves : (trees : Trees) → s.may_leave trees → IsStoredBeside version e old trees
