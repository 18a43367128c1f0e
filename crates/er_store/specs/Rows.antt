-- The rows of an event, as SQL shows them and as they are stored.
use Rattle.std.specs.Prelude.{ℕ, ℤ, pos, Bool, ◌==◌, if◌then◌else◌, List, [], ◌∷◌, ◌++◌, map, Option, Some, None}
use Rattle.sqlite.specs.declared.types.Value.{Value}
use Rattle.sqlite.specs.declared.types.Value.TheVariants.{Null, Int, Text}
use Rattle.sqlite.specs.Order.{Row, column}
use Rattle.er_event.specs.declared.rows.event.EventRow.{EventRow}
use Rattle.er_event.specs.declared.rows.player.PlayerRow.{PlayerRow}
use Rattle.er_event.specs.declared.rows.pairing.PairingRow.{PairingRow}
use Rattle.er_event.specs.declared.rows.bracket.BracketRow.{BracketRow}
use Rattle.er_event.specs.declared.rows.tally.TallyRow.{TallyRow}
use Rattle.er_event.specs.Event.{EventValue}
use Rattle.er_store.specs.declared.rows.{MeetingRow.MeetingRow, NamedPairing.NamedPairing}
use Rattle.er_event.specs.Rows.{flag, phase_code}

abbrev pub number_value : ℕ → Value
number_value n = Int (pos n)

-- id, version, serial, name, rounds, cut, phase
abbrev pub event_columns : EventRow → Row
event_columns r = Int r.id ∷ Int r.version ∷ Int r.serial ∷ Text r.name ∷ Int r.rounds ∷ Int r.cut ∷ Int r.phase ∷ []

-- no, name, dropped, joined
abbrev pub player_columns : PlayerRow → Row
player_columns r = Int r.no ∷ Text r.name ∷ Int r.dropped ∷ Int r.joined ∷ []

-- round, tab, lo, hi, swapped, done, x, y, d
abbrev pub pairing_columns : PairingRow → Row
pairing_columns r = Int r.round ∷ Int r.tab ∷ Int r.lo ∷ Int r.hi ∷ Int r.swapped ∷ Int r.done ∷ Int r.x ∷ Int r.y ∷ Int r.d ∷ []

-- stage, slot, a, b, done, x, y, d
abbrev pub bracket_columns : BracketRow → Row
bracket_columns r = Int r.stage ∷ Int r.slot ∷ Int r.a ∷ Int r.b ∷ Int r.done ∷ Int r.x ∷ Int r.y ∷ Int r.d ∷ []

-- no, points, rounds, gamepoints, games
abbrev pub tally_columns : TallyRow → Row
tally_columns r = Int r.no ∷ Int r.points ∷ Int r.rounds ∷ Int r.gamepoints ∷ Int r.games ∷ []

-- round, tab, done, and the totals of lo and hi
abbrev pub meeting_columns : MeetingRow → Row
meeting_columns r = Int r.round ∷ Int r.tab ∷ Int r.done ∷ tally_columns r.lo ++ tally_columns r.hi

abbrev pub text_or_null : Option (List ℕ) → Value
text_or_null None = Null
text_or_null (Some text) = Text text

-- the pairing, and the names of lo and hi
abbrev pub named_columns : NamedPairing → Row
named_columns r = pairing_columns r.pairing ++ text_or_null r.lo_name ∷ text_or_null r.hi_name ∷ []

-- what a stored row has at these places, of which 0 is the rowid
abbrev pub at_places : List ℕ → Row → Row
at_places places row = map (column row) places

abbrev pub event_places : List ℕ
event_places = 0 ∷ 2 ∷ 3 ∷ 4 ∷ 5 ∷ 6 ∷ 7 ∷ []

abbrev pub player_places : List ℕ
player_places = 0 ∷ 2 ∷ 3 ∷ []

abbrev pub player2_places : List ℕ
player2_places = 0 ∷ 2 ∷ 3 ∷ 4 ∷ []

-- what is read of a stored player: version 1 doesn't store when one joined, and nobody has joined late in it
abbrev pub player_shown : ℕ → Row → Row
player_shown version row = if version == 2 then at_places player2_places row else at_places player_places row ++ number_value 0 ∷ []

abbrev pub pairing_places : List ℕ
pairing_places = 1 ∷ 2 ∷ 3 ∷ 4 ∷ 5 ∷ 6 ∷ 7 ∷ 8 ∷ 9 ∷ []

abbrev pub bracket_places : List ℕ
bracket_places = 1 ∷ 2 ∷ 3 ∷ 4 ∷ 5 ∷ 6 ∷ 7 ∷ 8 ∷ []

abbrev pub tally_places : List ℕ
tally_places = 0 ∷ 2 ∷ 3 ∷ 4 ∷ 5 ∷ []

-- the row of the event as it is stored, with NULL in the column that is the rowid
abbrev pub stored_event : ℕ → EventValue → ℕ → Row
stored_event version e serial =
    number_value 1 ∷ Null ∷ number_value version ∷ number_value serial ∷ Text e.name ∷ number_value e.rounds ∷ number_value e.cut
    ∷ number_value (phase_code e.phase) ∷ []

abbrev pub stored_player : ℕ → List ℕ → Bool → Row
stored_player number_value name dropped = Int (pos number_value) ∷ Null ∷ Text name ∷ Int (flag dropped) ∷ []

abbrev pub stored_player2 : ℕ → List ℕ → Bool → ℕ → Row
stored_player2 number_value name dropped joined = Int (pos number_value) ∷ Null ∷ Text name ∷ Int (flag dropped) ∷ Int (pos joined) ∷ []

abbrev pub stored_tally : TallyRow → Row
stored_tally r = Int r.no ∷ Null ∷ Int r.points ∷ Int r.rounds ∷ Int r.gamepoints ∷ Int r.games ∷ []

-- a pairing has a rowid that no column shows
abbrev pub stored_pairing : ℤ → PairingRow → Row
stored_pairing id r = Int id ∷ pairing_columns r

-- and so has a match of the bracket
abbrev pub stored_slot : ℤ → BracketRow → Row
stored_slot id r = Int id ∷ bracket_columns r
