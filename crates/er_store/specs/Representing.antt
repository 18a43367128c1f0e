-- When the tables of a database represent an event and its serial, in version 1 or in version 2.
use Rattle.std.specs.Prelude.{◌≡◌, ◌≢◌, ◌≤◌, ◌⊎◌, ℕ, true, List, [], ◌∷◌, map, Some, IsTrue, IsOk, IsPermutation}
use Rattle.sqlite.specs.Order.{Row}
use Rattle.std.specs.List.{AllByRecursion}
use Rattle.sqlite_schema.specs.Rules.{ParentKey, parent_key}
use Rattle.sqlite_schema.specs.declared.schema.Reference.{Reference}
use Rattle.sqlite_catalog.specs.Listing.{IsSound}
use Rattle.sqlite.specs.Tree.{Trees}
use Rattle.sqlite.specs.Table.{Table}
use Rattle.sqlite.specs.Schema.{Schema}
use Rattle.sqlite.specs.Effect.{Database, IsDatabase}
use Rattle.sqlite.specs.State.{State, HasCleanDisk}
use Rattle.sqlite.specs.Listing.{understood}
use Rattle.sqlite_trees.specs.Tree.{IsTable}
use Rattle.sqlite_rules.specs.Edit.{have_rowids}
use Rattle.er_event.specs.declared.commands.TheConstants.{MAX_SERIAL}
use Rattle.er_event.specs.Event.{EventValue}
use Rattle.er_event.specs.declared.refusals.Place.{Place}
use Rattle.er_event.specs.declared.refusals.Place.TheVariants.{EventTable, PlayerTable, PairingTable, BracketTable, TallyTable}
use Rattle.er_event.specs.declared.rows.tally.TallyRow.{TallyRow}
use Rattle.er_event.specs.Rows.{event_row, player_rows, pairing_rows, bracket_rows, tally_rows}
use Rattle.er_event.specs.Version.{IsVersion, Keeps}
use Rattle.er_store.specs.Tables.{find_event, read_event}
use Rattle.er_store.specs.Layout.{Layout, IsThere, table_at}
use Rattle.er_store.specs.Rows.{event_columns, player_columns, pairing_columns, bracket_columns, tally_columns, at_places, event_places}
use Rattle.er_store.specs.Rows.{player_shown, pairing_places, bracket_places, tally_places}

-- the tree is of none of the event's five tables
abbrev pub IsOther : Layout → ℕ → Type 0
IsOther layout tree = (table : Place) → tree ≢ layout.tree table

-- a foreign key that does not lead to one of the five
abbrev pub LeadsElsewhere : Layout → List Table → Reference → Type 0
LeadsElsewhere layout tables ref = (key : ParentKey) → parent_key tables ref ≡ Some key → IsOther layout key.0

-- The five tables of a version are there, whatever others stand before, between and after them, and no table refers to one of the five.
pub record HasTablesAt (layout : Layout) (schema : Schema) : Type 0 where
  pub known : IsVersion layout.version
  pub has : (table : Place) → (at : ℕ) × IsThere schema at (table_at layout table)
  pub apart : AllByRecursion (λ t. AllByRecursion (LeadsElsewhere layout schema.tables) t.references) schema.tables

-- the tables of an event are there, as this version has them; a schema may have them in both
abbrev pub HasTables : ℕ → Schema → Type 0
HasTables version schema = (layout : Layout) × (layout.version ≡ version) × HasTablesAt layout schema

-- each row has a rowid of its own, and they rise
pub record IsKeyed (rows : List Row) : Type 0 where
  pub rise : IsTable rows
  pub numbers : have_rowids rows ≡ true

-- the rowids that no column shows
pub record AreKeyedAt (layout : Layout) (db : Database) : Type 0 where
  pub pairings : IsKeyed (db.trees (layout.tree PairingTable))
  pub bracket : IsKeyed (db.trees (layout.tree BracketTable))

-- of the tables of this version
abbrev pub AreKeyed : ℕ → Database → Type 0
AreKeyed version db = (layout : Layout) → layout.version ≡ version → HasTablesAt layout db.schema → AreKeyedAt layout db

-- what is read of a row of a table, in tables of this version
abbrev pub shown_of : ℕ → Place → Row → Row
shown_of version EventTable = at_places event_places
shown_of version PlayerTable = player_shown version
shown_of version PairingTable = at_places pairing_places
shown_of version BracketTable = at_places bracket_places
shown_of version TallyTable = at_places tally_places

-- the rows of a table, as SQL shows them
abbrev pub rows_in : Layout → Database → Place → List Row
rows_in layout db table = map (shown_of layout.version table) (db.trees (layout.tree table))

-- the rows of an event in tables of this version, with these of totals
abbrev pub rows_with : ℕ → EventValue → ℕ → List TallyRow → Place → List Row
rows_with version e serial totals EventTable = event_columns (event_row version e serial) ∷ []
rows_with version e serial totals PlayerTable = map player_columns (player_rows e)
rows_with version e serial totals PairingTable = map pairing_columns (pairing_rows e)
rows_with version e serial totals BracketTable = map bracket_columns (bracket_rows e)
rows_with version e serial totals TallyTable = map tally_columns totals

-- the tables have the schema and show these rows, in any order
pub record HasRows (layout : Layout) (db : Database) (wanted : Place → List Row) : Type 0 where
  pub tables : HasTablesAt layout db.schema
  pub rows : (table : Place) → IsPermutation (rows_in layout db table) (wanted table)
  -- the rowids of these two are shown by no column
  pub keyed : AreKeyedAt layout db

-- the rows are those of an event that tables of this version can keep, with these rows of totals
pub record RepresentsWith (layout : Layout) (db : Database) (e : EventValue) (serial : ℕ) (totals : List TallyRow) : Type 0 where
  pub low : serial ≤ MAX_SERIAL
  pub keeps : Keeps layout.version e
  pub has : HasRows layout db (rows_with layout.version e serial totals)

-- and the rows of totals are the event's too
abbrev pub RepresentsAt : Layout → Database → EventValue → ℕ → Type 0
RepresentsAt layout db e serial = RepresentsWith layout db e serial (tally_rows e)

-- in tables of this version, wherever they stand
pub record RepresentsIn (version : ℕ) (db : Database) (e : EventValue) (serial : ℕ) : Type 0 where
  pub layout : Layout
  pub is : layout.version ≡ version
  pub represents : RepresentsAt layout db e serial

-- in either version, as the event's row says
abbrev pub Represents : Database → EventValue → ℕ → Type 0
Represents db e serial = (layout : Layout) × RepresentsAt layout db e serial

-- nobody is enrolled, and nothing is paired
pub record IsNew (e : EventValue) : Type 0 where
  pub players : e.players ≡ []
  pub stored : e.stored ≡ []
  pub bracket : e.bracket.stages ≡ []

-- a table or view `event` can be read
abbrev pub CanRead : Schema → Type 0
CanRead schema = IsOk (understood schema find_event)

-- the statement that reads the event can be run
abbrev pub ReadsEvent : Schema → Type 0
ReadsEvent schema = IsOk (understood schema read_event)

-- what a crash leaves represents the event, in this version
pub record IsStoredIn (version : ℕ) (e : EventValue) (serial : ℕ) (trees : Trees) : Type 0 where
  pub schema : Schema
  pub sound : IsSound schema trees
  pub represents : RepresentsIn version (record { schema = schema; trees = trees }) e serial

-- the connection sees the event in this version, with nothing pending
pub record RepresentsNow (version : ℕ) (s : State) (e : EventValue) (serial : ℕ) : Type 0 where
  pub is_open : IsTrue s.is_open
  pub sound : IsDatabase s.now
  pub settled : s.now ≡ s.committed
  pub represents : RepresentsIn version s.now e serial

-- each thing that a crash may leave
abbrev pub AfterCrash : State → (Trees → Type 0) → Type 0
AfterCrash s P = HasCleanDisk s → (trees : Trees) → s.may_leave trees → P trees

abbrev pub Either : (Trees → Type 0) → (Trees → Type 0) → Trees → Type 0
Either P Q trees = P trees ⊎ Q trees

-- the schema stays, and the rows of the tables that are none of the event's
pub record KeepsRest (layout : Layout) (old new : Database) : Type 0 where
  pub schema : new.schema ≡ old.schema
  pub rows : AllByRecursion (λ t. IsOther layout t.tree → new.trees t.tree ≡ old.trees t.tree) old.schema.tables

-- in tables of this version, wherever they stand; of `player` too, if a migration has left it
pub record KeepsOthers (version : ℕ) (old new : Database) : Type 0 where
  pub schema : new.schema ≡ old.schema
  pub rest : (layout : Layout) → layout.version ≡ version → HasTablesAt layout old.schema → KeepsRest layout old new

-- what a crash leaves is this database as it was
abbrev pub AreTreesOf : Database → Trees → Type 0
AreTreesOf db trees = trees ≡ db.trees

-- what a crash leaves represents the event, in this version, and the tables of others have the rows that they had in this database
pub record IsStoredAmong (version : ℕ) (old : Database) (e : EventValue) (serial : ℕ) (trees : Trees) : Type 0 where
  pub stored : IsStoredIn version e serial trees
  pub others : KeepsOthers version old (record { schema = stored.schema; trees = trees })
