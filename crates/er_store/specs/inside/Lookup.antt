-- What a look at the tables finds.
use Rattle.std.specs.Prelude.{◌≡◌, ◌≤◌, ℕ, Bool, true, false, List, [], map, Result, Ok, Err, IfOk, IfErr}
use Rattle.sqlite_ast.specs.declared.Statement.{Statement}
use Rattle.sqlite_ast.specs.declared.Statement.TheVariants as written
use Rattle.sqlite_syntax.specs.declared.statement.Parsed.{Parsed}
use Rattle.sqlite_resolve.specs.Compile.{first}
use Rattle.sqlite_resolve.specs.Lowering.{Checked}
use Rattle.sqlite.specs.Order.{Row}
use Rattle.sqlite.specs.Schema.{Schema}
use Rattle.sqlite.specs.Tree.{Trees}
use Rattle.sqlite.specs.Query.{IsAnswer}
use Rattle.sqlite.specs.Program.{overlay}
use Rattle.sqlite.specs.Effect.{Database}
use Rattle.sqlite.specs.Held.{Held, state}
use Rattle.sqlite.specs.State.{HasCleanDisk}
use Rattle.sqlite_trees.specs.declared.store.Store.{Ghosts}
use Rattle.er_event.specs.Event.{EventValue}
use Rattle.er_event.specs.Parts.{parts_of}
use Rattle.er_event.specs.Sound.{IsSoundButForSeeds}
use Rattle.er_event.specs.Version.{IsVersion, Keeps}
use Rattle.er_event.specs.declared.commands.TheConstants.{MAX_SERIAL}
use Rattle.er_event.specs.declared.events.parts.Parts.{Parts}
use Rattle.er_event.specs.declared.refusals.Refusal.{Refusal}
use Rattle.er_event.specs.declared.refusals.Refusal.TheVariants.{Damaged}
use Rattle.er_event.specs.declared.refusals.Place.{Place}
use Rattle.er_event.specs.declared.rows.tally.TallyRow.{TallyRow}
use Rattle.sqlite.specs.Term.{Term}
use Rattle.er_store.specs.Layout.{Layout}
use Rattle.er_store.specs.Shape.{Form, Shape, tally_form, tally_table}
use Rattle.er_store.specs.Reading.{Lists, first_columns}
use Rattle.er_store.specs.Representing.{HasTablesAt, RepresentsAt, Represents, rows_in, shown_of}
use Rattle.er_store.specs.Loading.{IsListed, ListsParts}
use Rattle.er_store.specs.Damage.{IsMisreadAs, MayRead, ReadsParts, IsFirstMisread, IfDamaged, said_version}
use Rattle.er_store.specs.Tables.{read_tallies}
use Rattle.er_store.specs.Fault.{IsFault, IsLoadFault}
use Rattle.er_store.specs.inside.{Queries.{table_query, Selects}, Looking.OnlyLooks}

abbrev pub is_select_by : Statement → Bool
is_select_by (written.Select s) = true
is_select_by _ = false

-- the text begins with a SELECT, by its grammar only
abbrev pub begins_select : Checked Parsed → Bool
begins_select (Ok p) = is_select_by p.statement
begins_select (Err e) = false

-- What is true of each of the five: its statement is a SELECT that lists its rows by its key, and the rows of an event
-- are told by what they show.
pub record IsOurs {R : Type 0} (form : Form R) (table : Shape R) : Type 0 where
  pub begins : (version : ℕ) → begins_select (first (table.read version)) ≡ true
  pub keys : List ℕ
  pub terms : ℕ → List Term
  pub selects : (l : Layout) (schema : Schema) → HasTablesAt l schema
      → Selects (table.read l.version) (table_query (l.tree table.place) (terms l.version) keys) schema
  pub lists : (l : Layout) (trees : Trees) (rows : List Row)
      → IsAnswer (table_query (l.tree table.place) (terms l.version) keys) (overlay trees []) [] rows
      → Lists table.order (map (shown_of l.version table.place) (trees (l.tree table.place))) rows
  pub whole : (l : Layout) (r : Row) → first_columns form.width (shown_of l.version table.place r) ≡ shown_of l.version table.place r
  pub exact : (l : Layout) (db : Database) (e : EventValue) (s : ℕ) (rows : List Row) → RepresentsAt l db e s → IsSoundButForSeeds e
      → Lists table.order (rows_in l db table.place) rows
      → rows ≡ map form.columns (table.rows l.version e s)
  pub same : (r s : R) → form.columns r ≡ form.columns s → r ≡ s

-- It only looks, and what is found is of the database before.
pub record LooksUp {S A : Type 0} (g : Ghosts S) (Finds : Database → A → Type 0) (Misses : Database → Refusal → Type 0)
    (old : Held S) (result : Result A Refusal) (new : Held S)
    : Type 0 where
  pub looks : OnlyLooks g old result new
  pub finds : HasCleanDisk (state g new) → IfOk result (Finds (state g old).now)
  pub misses : HasCleanDisk (state g new) → IfErr result (Misses (state g old).now)
  pub fault : IfErr result IsLoadFault

-- The rows of a table, read by this statement: as SQL itself says, and if it is the statement of how the tables lie, as
-- they list them, and as the event has them.
pub record FindsRows {R : Type 0} (form : Form R) (table : Shape R) (sql : List ℕ) (db : Database) (rows : List R) : Type 0 where
  pub reads : MayRead form sql db rows
  pub lists : (l : Layout) → table.read l.version ≡ sql → HasTablesAt l db.schema → IsListed form table l db rows
  pub exact : (l : Layout) → table.read l.version ≡ sql → (e : EventValue) (s : ℕ) → RepresentsAt l db e s → IsSoundButForSeeds e
      → rows ≡ table.rows l.version e s

-- if the tables stand, memory or the device; and damage is of this table
pub record MissesRows {R : Type 0} (form : Form R) (table : Shape R) (sql : List ℕ) (db : Database) (why : Refusal) : Type 0 where
  pub misread : (at : Place) → why ≡ Damaged at → (at ≡ table.place) × IsMisreadAs form sql db
  pub refused : (l : Layout) → table.read l.version ≡ sql → (e : EventValue) (s : ℕ) → RepresentsAt l db e s → IsSoundButForSeeds e
      → IsFault why

-- the rows of the four tables that an event is made of
pub record FindsParts (db : Database) (parts : Parts) : Type 0 where
  pub reads : ReadsParts db parts
  pub lists : (l : Layout) → said_version parts.event ≡ l.version → HasTablesAt l db.schema → ListsParts l db parts
  pub exact : (l : Layout) (e : EventValue) (s : ℕ) → RepresentsAt l db e s → IsSoundButForSeeds e → parts ≡ parts_of l.version e s

-- the rows are those of this sound event and serial, in tables of this version, which keep it
pub record IsWhole (parts : Parts) (e : EventValue) (serial version : ℕ) : Type 0 where
  pub known : IsVersion version
  pub keeps : Keeps version e
  pub low : serial ≤ MAX_SERIAL
  pub are : parts ≡ parts_of version e serial
  pub sound : IsSoundButForSeeds e

-- those of all five
abbrev pub FindsTables : Database → Parts × List TallyRow → Type 0
FindsTables db it = FindsParts db it.0 × FindsRows tally_form tally_table read_tallies db it.1

-- if the tables stand, memory or the device; and damage is of the first table that is misread
pub record MissesTables (db : Database) (why : Refusal) : Type 0 where
  pub misread : IfDamaged (IsFirstMisread db) why
  pub refused : (e : EventValue) (s : ℕ) → Represents db e s → IsSoundButForSeeds e → IsFault why
