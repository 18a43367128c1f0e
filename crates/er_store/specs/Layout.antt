-- How the tables of an event lie in a file.
use Rattle.std.specs.Prelude.{◌≡◌, ◌==◌, ◌^◌, ℕ, false, Some, find, nat_le, slice_get}
use Rattle.sqlite_schema.specs.Names.{table_named}
use Rattle.sqlite.specs.Table.{Table}
use Rattle.sqlite.specs.Schema.{Schema}
use Rattle.er_event.specs.declared.refusals.Place.{Place}
use Rattle.er_event.specs.declared.refusals.Place.TheVariants.{EventTable, PlayerTable, PairingTable, BracketTable, TallyTable}
use Rattle.er_store.specs.Tables.{event, players_of, pairing, bracket, tally}

-- the version that the five tables are of, and the tree in which each has its rows
pub record Layout : Type 0 where
  pub version : ℕ
  pub tree : Place → ℕ

-- a table as the text of the version makes it, with its rows in that tree
abbrev pub table_at : Layout → Place → Table
table_at layout EventTable = event (layout.tree EventTable)
table_at layout PlayerTable = players_of layout.version (layout.tree PlayerTable)
table_at layout PairingTable = pairing (layout.tree PairingTable)
table_at layout BracketTable = bracket (layout.tree BracketTable)
table_at layout TallyTable = tally (layout.tree TallyTable)

-- A schema has this table, at this place among others: it is found there by its name, and by its tree.
pub record IsThere (schema : Schema) (at : ℕ) (table : Table) : Type 0 where
  pub named : table_named schema table.name ≡ Some at
  pub is : slice_get schema.tables at ≡ Some table
  pub low : nat_le (2 ^ 31) table.tree ≡ false
  pub found : find (λ t. t.tree == table.tree) schema.tables ≡ Some table
