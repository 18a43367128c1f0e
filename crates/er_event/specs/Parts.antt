-- The event that rows stand for, and the first table at fault if there is none.
use Rattle.std.specs.Prelude.{◌≡◌, ◌≤◌, ℕ, List, [], ◌∷◌, All}
use Rattle.er_event.specs.declared.commands.TheConstants.{MAX_SERIAL}
use Rattle.er_event.specs.declared.refusals.Place.{Place}
use Rattle.er_event.specs.declared.refusals.Place.TheVariants.{EventTable, PlayerTable, PairingTable, BracketTable, TallyTable}
use Rattle.er_event.specs.declared.events.parts.Parts.{Parts}
use Rattle.er_event.specs.declared.rows.event.EventRow.{EventRow}
use Rattle.er_event.specs.Event.{EventValue}
use Rattle.er_event.specs.Rows.{event_row, player_rows, keyed_pairing_rows, bracket_rows}
use Rattle.er_event.specs.Version.{IsVersion, Keeps, KeepsRounds, KeepsPlayers}
use Rattle.er_event.specs.Sound.{numbers, IsSetUp, ArePlayers, AreRounds, HasMissed, AreStages}

-- the rows of an event with this serial in tables of this version, each table in the order of its key
abbrev pub parts_of : ℕ → EventValue → ℕ → Parts
parts_of version e serial = record {
  event = event_row version e serial ∷ [];
  players = player_rows e;
  pairings = keyed_pairing_rows e;
  bracket = bracket_rows e;
}

-- the rows are those of the event, with some serial, in tables of a version that keeps it
pub record IsOf (parts : Parts) (e : EventValue) : Type 0 where
  pub version : ℕ
  pub known : IsVersion version
  pub keeps : Keeps version e
  pub serial : ℕ
  pub low : serial ≤ MAX_SERIAL
  pub are : parts ≡ parts_of version e serial

-- the one row of the event's table is that of an event within the limits, of a version that keeps its number of rounds
pub record IsEventRow (rows : List EventRow) (e : EventValue) : Type 0 where
  pub version : ℕ
  pub known : IsVersion version
  pub keeps : KeepsRounds version e.rounds
  pub serial : ℕ
  pub low : serial ≤ MAX_SERIAL
  pub set_up : IsSetUp e.name e.rounds e.cut
  pub row : rows ≡ event_row version e serial ∷ []

-- the event of the first two tables, whose version keeps its players too
pub record HasPlayerRows (parts : Parts) (e : EventValue) : Type 0 where
  pub event : IsEventRow parts.event e
  pub rows : parts.players ≡ player_rows e
  pub players : ArePlayers e.phase e.rounds e.players
  pub keeps : KeepsPlayers event.version e.players

-- the event of the first three tables
pub record HasRoundRows (parts : Parts) (e : EventValue) : Type 0 where
  pub players : HasPlayerRows parts e
  pub rows : parts.pairings ≡ keyed_pairing_rows e
  pub rounds : AreRounds e.phase e.rounds (numbers e.players) e.stored
  pub missed : All (HasMissed e.stored) e.players

-- the event of all four tables
pub record HasAllRows (parts : Parts) (e : EventValue) : Type 0 where
  pub rounds : HasRoundRows parts e
  pub rows : parts.bracket ≡ bracket_rows e
  pub bracket : AreStages e.phase e.cut (numbers e.players) e.bracket.stages

-- the checks of the tables before this one hold, and those of this one do not
abbrev pub IsFirstFault : Parts → Place → Type 0
IsFirstFault parts EventTable = (e : EventValue) → IsEventRow parts.event e → ⊥
IsFirstFault parts PlayerTable = ((e : EventValue) × IsEventRow parts.event e) × ((e : EventValue) → HasPlayerRows parts e → ⊥)
IsFirstFault parts PairingTable = ((e : EventValue) × HasPlayerRows parts e) × ((e : EventValue) → HasRoundRows parts e → ⊥)
IsFirstFault parts BracketTable = ((e : EventValue) × HasRoundRows parts e) × ((e : EventValue) → HasAllRows parts e → ⊥)
-- the totals aren't part of these rows
IsFirstFault parts TallyTable = ⊥
