-- The five tables: how each is named and read, and which rows of it an event has.
use Rattle.std.specs.Prelude.{ℕ, List, [], ◌∷◌}
use Rattle.std.specs.declared.cmp.Ordering.{Ordering}
use Rattle.sqlite.specs.Order.{Row}
use Rattle.er_event.specs.Event.{EventValue}
use Rattle.er_event.specs.Rows.{event_row, player_rows, keyed_pairing_rows, bracket_rows, tally_rows}
use Rattle.er_event.specs.declared.refusals.Place.{Place}
use Rattle.er_event.specs.declared.refusals.Place.TheVariants.{EventTable, PlayerTable, PairingTable, BracketTable, TallyTable}
use Rattle.er_event.specs.declared.rows.event.EventRow.{EventRow}
use Rattle.er_event.specs.declared.rows.player.PlayerRow.{PlayerRow}
use Rattle.er_event.specs.declared.rows.pairing.PairingRow.{PairingRow}
use Rattle.er_event.specs.declared.rows.bracket.BracketRow.{BracketRow}
use Rattle.er_event.specs.declared.rows.tally.TallyRow.{TallyRow}
use Rattle.er_store.specs.Tables.{read_event, read_players_of, read_pairings}
use Rattle.er_store.specs.Tables.{read_bracket, read_tallies}
use Rattle.er_store.specs.Rows.{event_columns, player_columns, pairing_columns, bracket_columns, tally_columns}
use Rattle.er_store.specs.Reading.{by_first, by_first_two}

-- a typed row: how many columns it has, and what they show
pub record Form (R : Type 0) : Type 1 where
  pub width : ℕ
  pub columns : R → Row

-- a table of such rows: how a refusal names it, and in tables of a version the statement that reads it, and the rows of an event
-- with its serial; and the order of its key
pub record Shape (R : Type 0) : Type 1 where
  pub place : Place
  pub read : ℕ → List ℕ
  pub order : Row → Row → Ordering
  pub rows : ℕ → EventValue → ℕ → List R

abbrev pub event_form : Form EventRow
event_form = record { width = 7; columns = event_columns }

abbrev pub player_form : Form PlayerRow
player_form = record { width = 4; columns = player_columns }

abbrev pub pairing_form : Form PairingRow
pairing_form = record { width = 9; columns = pairing_columns }

abbrev pub bracket_form : Form BracketRow
bracket_form = record { width = 8; columns = bracket_columns }

abbrev pub tally_form : Form TallyRow
tally_form = record { width = 5; columns = tally_columns }

abbrev pub event_table : Shape EventRow
event_table = record {
  place = EventTable;
  read = λ version. read_event;
  order = by_first;
  rows = λ version e s. event_row version e s ∷ [];
}

abbrev pub player_table : Shape PlayerRow
player_table = record {
  place = PlayerTable;
  read = read_players_of;
  order = by_first;
  rows = λ version e s. player_rows e;
}

abbrev pub pairing_table : Shape PairingRow
pairing_table = record {
  place = PairingTable;
  read = λ version. read_pairings;
  order = by_first_two;
  rows = λ version e s. keyed_pairing_rows e;
}

abbrev pub bracket_table : Shape BracketRow
bracket_table = record {
  place = BracketTable;
  read = λ version. read_bracket;
  order = by_first_two;
  rows = λ version e s. bracket_rows e;
}

abbrev pub tally_table : Shape TallyRow
tally_table = record {
  place = TallyTable;
  read = λ version. read_tallies;
  order = by_first;
  rows = λ version e s. tally_rows e;
}
