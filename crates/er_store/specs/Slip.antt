-- The slip of a match, as the tables show it.
use Rattle.std.specs.Prelude.{◌≡◌, ◌⊎◌, ℕ, ◌≤◌, nat_lt, Bool, if◌then◌else◌, IsTrue, List, map, Option, Some, None, option_map}
use Rattle.std.specs.Prelude.{option_to_list}
use Rattle.std.specs.Prelude.{unwrap_or, IfSome, Result, Ok, Err, MatchResult}
use Rattle.er_event.specs.declared.players.TheConstants.{MAX_PLAYERS}
use Rattle.er_event.specs.declared.refusals.Refusal.{Refusal}
use Rattle.er_event.specs.declared.refusals.Refusal.TheVariants.{NoSuchMatch}
use Rattle.er_event.specs.declared.matches.Match.{Match}
use Rattle.er_event.specs.declared.slips.SlipRow.{SlipRow}
use Rattle.er_event.specs.Event.{EventValue}
use Rattle.er_event.specs.Name.{is_lawful_name}
use Rattle.er_event.specs.Match.{MayStand}
use Rattle.er_event.specs.Rows.{pairing_row}
use Rattle.er_event.specs.Slip.{slip_of}
use Rattle.er_store.specs.Fault.{IsFault}
use Rattle.er_store.specs.declared.rows.NamedPairing.{NamedPairing}

-- a number with its name, or nobody
abbrev pub Side : Type 0
Side = Option (ℕ × List ℕ)

-- 0 for nobody
abbrev pub number_of_side : Side → ℕ
number_of_side who = unwrap_or (option_map (λ (s : ℕ × List ℕ). s.0) who) 0

abbrev pub name_of_side : Side → Option (List ℕ)
name_of_side who = option_map (λ (s : ℕ × List ℕ). s.1) who

-- the match that the slip is of
abbrev pub match_of_slip : SlipRow → Match
match_of_slip slip = record { a = slip.first.0; b = number_of_side slip.second; score = slip.score }

-- the first-named player is the one with the higher number
abbrev pub is_swapped : SlipRow → Bool
is_swapped slip = nat_lt (number_of_side slip.second) slip.first.0

-- the pairing of this slip, with the names of its players
abbrev pub named_pairing : SlipRow → NamedPairing
named_pairing slip = record {
  pairing = pairing_row slip.round (slip.table, match_of_slip slip);
  lo_name = if is_swapped slip then name_of_side slip.second else Some slip.first.1;
  hi_name = if is_swapped slip then Some slip.first.1 else name_of_side slip.second;
}

-- what is read of a round and a table of an event
abbrev pub named_pairings : EventValue → ℕ → ℕ → List NamedPairing
named_pairings event round table = map named_pairing (option_to_list (slip_of event round table))

abbrev pub IsPlayer : ℕ × List ℕ → Type 0
IsPlayer s = (1 ≤ s.0) × (s.0 ≤ MAX_PLAYERS) × IsTrue (is_lawful_name s.1)

-- a slip that the formats allow
pub record IsLawfulSlip (slip : SlipRow) : Type 0 where
  pub played : MayStand slip.table (match_of_slip slip)
  pub first : IsPlayer slip.first
  pub second : IfSome slip.second IsPlayer

-- the slip of the event's match, or no such match
abbrev pub FindsSlip : EventValue → ℕ → ℕ → Result SlipRow Refusal → Type 0
FindsSlip event round table (Ok row) = slip_of event round table ≡ Some row
FindsSlip event round table (Err why) = why ≡ NoSuchMatch → slip_of event round table ≡ None

-- the slip of the event's match, or there is no such match, or memory or the store fails
abbrev pub FindsSlipOrFails : EventValue → ℕ → ℕ → Result SlipRow Refusal → Type 0
FindsSlipOrFails event round table result =
    MatchResult result (λ row. slip_of event round table ≡ Some row)
    (λ why. IsFault why ⊎ ((why ≡ NoSuchMatch) × (slip_of event round table ≡ None)))
