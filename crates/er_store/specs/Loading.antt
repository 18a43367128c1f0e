-- What a load finds in the tables.
use Rattle.std.specs.Prelude.{◌≡◌, ◌≤◌, ℕ, List, map, IsPermutation}
use Rattle.sqlite.specs.Effect.{Database}
use Rattle.er_event.specs.declared.commands.TheConstants.{MAX_SERIAL}
use Rattle.er_event.specs.declared.refusals.Place.{Place}
use Rattle.er_event.specs.declared.events.parts.Parts.{Parts}
use Rattle.er_event.specs.declared.rows.tally.TallyRow.{TallyRow}
use Rattle.er_event.specs.Event.{EventValue}
use Rattle.er_event.specs.Sound.{IsSoundButForSeeds}
use Rattle.er_event.specs.Rows.{tally_rows}
use Rattle.er_event.specs.Version.{Keeps}
use Rattle.er_store.specs.Layout.{Layout}
use Rattle.er_store.specs.Representing.{HasTablesAt, rows_in, rows_with}
use Rattle.er_store.specs.Reading.{Lists}
use Rattle.er_store.specs.Shape.{Form, Shape, event_form, player_form, pairing_form, bracket_form, tally_form, event_table, player_table}
use Rattle.er_store.specs.Shape.{pairing_table, bracket_table, tally_table}

-- the rows of a table, in the order of its key
abbrev pub IsListed : {R : Type 0} → Form R → Shape R → Layout → Database → List R → Type 0
IsListed form table layout db rows = Lists table.order (rows_in layout db table.place) (map form.columns rows)

-- the rows of the four tables that an event is made of
pub record ListsParts (layout : Layout) (db : Database) (parts : Parts) : Type 0 where
  pub event : IsListed event_form event_table layout db parts.event
  pub players : IsListed player_form player_table layout db parts.players
  pub pairings : IsListed pairing_form pairing_table layout db parts.pairings
  pub bracket : IsListed bracket_form bracket_table layout db parts.bracket

abbrev pub ListsTallies : Layout → Database → List TallyRow → Type 0
ListsTallies = IsListed tally_form tally_table

-- the rows of the five tables are those of a sound event that tables of the version can keep, in any order
pub record HoldsEventAt (layout : Layout) (db : Database) (e : EventValue) (serial : ℕ) : Type 0 where
  pub low : serial ≤ MAX_SERIAL
  pub keeps : Keeps layout.version e
  pub sound : IsSoundButForSeeds e
  pub rows : (table : Place) → IsPermutation (rows_in layout db table) (rows_with layout.version e serial (tally_rows e) table)

-- in tables of this version, wherever they stand
pub record HoldsEvent (version : ℕ) (db : Database) (e : EventValue) (serial : ℕ) : Type 0 where
  pub layout : Layout
  pub is : layout.version ≡ version
  pub tables : HasTablesAt layout db.schema
  pub holds : HoldsEventAt layout db e serial
