-- Which table is the first at fault, in any file.
use Rattle.std.specs.Prelude.{◌≡◌, ◌≢◌, ◌≤◌, ◌⊎◌, ℕ, pos, Bool, if◌then◌else◌, List, [], length, map, ⊤, Ok, Err, None}
use Rattle.sqlite.specs.Order.{Row}
use Rattle.sqlite.specs.Clock.{timed}
use Rattle.sqlite.specs.declared.error.Error.{Error}
use Rattle.sqlite.specs.Effect.{Database, Reads, RefusesToRead}
use Rattle.sqlite.specs.Listing.{understood, reads_listing, IsSourceOf}
use Rattle.sqlite_resolve.specs.declared.compiled.Compiled.{Compiled}
use Rattle.sqlite_resolve.specs.declared.error.CompileError.{CompileError}
use Rattle.er_event.specs.declared.refusals.Refusal.{Refusal}
use Rattle.er_event.specs.declared.refusals.Refusal.TheVariants.{Damaged}
use Rattle.er_event.specs.declared.refusals.Place.{Place}
use Rattle.er_event.specs.declared.refusals.Place.TheVariants.{EventTable, PlayerTable, PairingTable, BracketTable, TallyTable}
use Rattle.er_event.specs.declared.events.parts.Parts.{Parts}
use Rattle.er_event.specs.declared.rows.tally.TallyRow.{TallyRow}
use Rattle.er_event.specs.Event.{EventValue}
use Rattle.er_event.specs.Parts.{IsFirstFault, IsOf, parts_of}
use Rattle.er_event.specs.Rows.{tally_rows}
use Rattle.er_event.specs.Sound.{IsSoundButForSeeds}
use Rattle.er_event.specs.declared.rows.event.EventRow.{EventRow}
use Rattle.std.specs.List.{list_any}
use Rattle.std.specs.Ordering.{int_eq}
use Rattle.er_store.specs.Tables.{read_players_of, read_event, read_pairings, read_bracket, read_tallies}
use Rattle.er_store.specs.Shape.{Form, event_form, player_form, pairing_form, bracket_form, tally_form}
use Rattle.er_store.specs.Reading.{first_columns}
use Rattle.er_store.specs.Representing.{HasTables, AreKeyed, RepresentsNow}
use Rattle.er_store.specs.Loading.{HoldsEvent}
use Rattle.sqlite.specs.State.{State}

-- rows that the statement may answer
pub record Answered (db : Database) (sql : List ℕ) (rows : List Row) : Type 0 where
  pub compiled : Compiled
  pub is : understood db.schema sql ≡ Ok compiled
  pub now : ℕ
  pub source : Database
  pub from : IsSourceOf (reads_listing db.schema sql) db source
  pub reads : Reads compiled.command source (timed [] compiled.formats now) rows

-- the statement cannot be run: there is no such table or column, or what stands in its place asks for the time
abbrev pub IsUnread : Database → List ℕ → Type 0
IsUnread db sql =
    ((fault : CompileError) × (understood db.schema sql ≡ Err fault))
    ⊎ ((compiled : Compiled) × (understood db.schema sql ≡ Ok compiled)
    × ((¬ (length sql ≤ compiled.tail)) ⊎ ((0 ≢ length compiled.names) ⊎ (compiled.formats ≢ []))))

-- the statement is refused as it runs: a column has another type than the text supposes, or a sum does not fit
pub record IsRefused (db : Database) (sql : List ℕ) : Type 0 where
  pub compiled : Compiled
  pub is : understood db.schema sql ≡ Ok compiled
  pub now : ℕ
  pub source : Database
  pub from : IsSourceOf (reads_listing db.schema sql) db source
  pub error : Error
  pub refuses : RefusesToRead None compiled.command source (timed [] compiled.formats now) error

-- a value of another kind than its column's
abbrev pub HasWrongKind : {R : Type 0} → Form R → Database → List ℕ → Type 0
HasWrongKind {R} form db sql =
    (rows : List Row) × Answered db sql rows × ((typed : List R) → rows ≢ map form.columns typed)

-- the reading of a table by this statement is at fault
abbrev pub IsMisreadAs : {R : Type 0} → Form R → List ℕ → Database → Type 0
IsMisreadAs form sql db = (IsUnread db sql ⊎ IsRefused db sql) ⊎ HasWrongKind form db sql

-- the statement may answer rows whose first columns are those of these
abbrev pub MayRead : {R : Type 0} → Form R → List ℕ → Database → List R → Type 0
MayRead form sql db typed =
    (rows : List Row) × Answered db sql rows × (map form.columns typed ≡ map (first_columns form.width) rows)

-- and it may answer some
abbrev pub IsRead : {R : Type 0} → Form R → List ℕ → Database → Type 0
IsRead {R} form sql db = (rows : List R) × MayRead form sql db rows

-- a row of the event says version 2, so that the players are read of `player2`
abbrev pub says_second : List EventRow → Bool
says_second events = list_any (λ (r : EventRow). int_eq r.version (pos 2)) events

abbrev pub said_version : List EventRow → ℕ
said_version events = if says_second events then 2 else 1

abbrev pub said_players : List EventRow → List ℕ
said_players events = read_players_of (said_version events)

-- if the event's own rows were read, these rows decide
abbrev pub IsMisread : List EventRow → Database → Place → Type 0
IsMisread events db EventTable = IsMisreadAs event_form read_event db
IsMisread events db PlayerTable = IsMisreadAs player_form (said_players events) db
IsMisread events db PairingTable = IsMisreadAs pairing_form read_pairings db
IsMisread events db BracketTable = IsMisreadAs bracket_form read_bracket db
IsMisread events db TallyTable = IsMisreadAs tally_form read_tallies db

-- the tables between the event's and this one are read, if the event's has these rows
abbrev pub ReadsBetween : List EventRow → Database → Place → Type 0
ReadsBetween events db EventTable = ⊤
ReadsBetween events db PlayerTable = ⊤
ReadsBetween events db PairingTable = IsRead player_form (said_players events) db
ReadsBetween events db BracketTable = IsRead player_form (said_players events) db × IsRead pairing_form read_pairings db
ReadsBetween events db TallyTable =
    IsRead player_form (said_players events) db × IsRead pairing_form read_pairings db × IsRead bracket_form read_bracket db

pub record ReadsParts (db : Database) (parts : Parts) : Type 0 where
  pub event : MayRead event_form read_event db parts.event
  pub players : MayRead player_form (said_players parts.event) db parts.players
  pub pairings : MayRead pairing_form read_pairings db parts.pairings
  pub bracket : MayRead bracket_form read_bracket db parts.bracket

abbrev pub ReadsTallies : Database → List TallyRow → Type 0
ReadsTallies = MayRead tally_form read_tallies

-- a table after the event's cannot be read, while the event's is read with some rows
abbrev pub IsLaterMisread : Database → Place → Type 0
IsLaterMisread db place =
    (events : List EventRow) × MayRead event_form read_event db events × ReadsBetween events db place × IsMisread events db place

-- The tables are read in this order, and this one cannot be.
abbrev pub IsFirstMisread : Database → Place → Type 0
IsFirstMisread db EventTable = IsMisreadAs event_form read_event db
IsFirstMisread db PlayerTable = IsLaterMisread db PlayerTable
IsFirstMisread db PairingTable = IsLaterMisread db PairingTable
IsFirstMisread db BracketTable = IsLaterMisread db BracketTable
IsFirstMisread db TallyTable = IsLaterMisread db TallyTable

-- the first four tables are those of a sound event, and the totals are of no such event
pub record HasOtherTotals (parts : Parts) (rows : List TallyRow) : Type 0 where
  pub some : (event : EventValue) × IsOf parts event × IsSoundButForSeeds event
  pub other : (event : EventValue) → IsOf parts event → IsSoundButForSeeds event → rows ≢ tally_rows event

abbrev pub IsRowFault : Parts → List TallyRow → Place → Type 0
IsRowFault parts rows place = IsFirstFault parts place ⊎ ((place ≡ TallyTable) × HasOtherTotals parts rows)

-- The first fault: the tables are read in their order, and then their rows are checked in that order.
abbrev pub IsAtFault : Database → Place → Type 0
IsAtFault db place =
    IsFirstMisread db place
    ⊎ ((parts : Parts) × (rows : List TallyRow) × ReadsParts db parts × ReadsTallies db rows
    × IsRowFault parts rows place)

-- if it is damage, this table is the first at fault
abbrev pub IfDamaged : (Place → Type 0) → Refusal → Type 0
IfDamaged P why = (table : Place) → why ≡ Damaged table → P table

-- What is found in tables of this version, whatever they hold: it is what they show, and if the tables are ours, they
-- represent it, and a change can be written to them.
pub record FindsEvent (version : ℕ) (old new : State) (e : EventValue) (serial : ℕ) : Type 0 where
  pub parts : ReadsParts old.now (parts_of version e serial)
  pub tallies : ReadsTallies old.now (tally_rows e)
  pub shows : HasTables version old.now.schema → HoldsEvent version old.now e serial
  pub represents : HasTables version old.now.schema → AreKeyed version old.now → RepresentsNow version new e serial
