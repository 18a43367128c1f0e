-- What tallies and meetings say of each player, and the limits that those of a sound event keep.
use Rattle.std.specs.Prelude.{◌≡◌, ℕ, ◌-◌, ◌*◌, ◌≤◌, ◌==◌, List, [], ◌∷◌, length, map, filter, flat_map, count_by, slice_index_or, All}
use Rattle.std.specs.Prelude.{IsFalse}
use Rattle.std.specs.List.{range_with_len}
use Rattle.er_share.specs.declared.TheConstants.{MAX_ROUNDS}
use Rattle.er_event.specs.declared.players.TheConstants.{MAX_PLAYERS}
use Rattle.er_event.specs.declared.matches.Match.{Match}
use Rattle.er_event.specs.declared.tallies.Meeting.{Meeting}
use Rattle.er_event.specs.declared.tallies.Tally.{Tally}
use Rattle.er_event.specs.declared.totals.Totals.{Totals}
use Rattle.er_event.specs.Event.{EventValue}
use Rattle.er_event.specs.Round.{is_bye}
use Rattle.er_event.specs.Sound.{IsSoundButForSeeds}
use Rattle.er_event.specs.Tallies.{tallies, meetings}
use Rattle.er_rank.specs.declared.lists.TheConstants.{MAX_GAMES_OF_MATCH}
use Rattle.er_rank.specs.Tally.{IsKnown, no_totals}

-- a player, and what the matches of an opponent come to
pub record Encounter : Type 0 where
  pub player : ℕ
  pub opponent : Totals

-- each of the two met the other
abbrev pub encounters_of : Meeting → List Encounter
encounters_of m =
    record { player = m.lo; opponent = m.hi_totals }
    ∷ record { player = m.hi; opponent = m.lo_totals } ∷ []

abbrev pub encounters : List Meeting → List Encounter
encounters met = flat_map encounters_of met

-- what the opponents of a player came to, one entry for each match
abbrev pub opponents_of : List Encounter → ℕ → List Totals
opponents_of all player = map (λ e. e.opponent) (filter (λ e. e.player == player) all)

-- the totals of the player of this number
abbrev pub tally_totals : List Tally → ℕ → Totals
tally_totals list player = slice_index_or (map (λ t. t.totals) list) (player - 1) no_totals

-- what the matches of one player can come to
pub record IsRecord (t : Totals) : Type 0 where
  pub rounds : t.rounds ≤ MAX_ROUNDS
  pub points : t.points ≤ 3 * t.rounds
  pub games : t.games ≤ MAX_GAMES_OF_MATCH * t.rounds
  pub game_points : t.game_points ≤ 3 * t.games

pub record AreTallies (list : List Tally) : Type 0 where
  pub few : length list ≤ MAX_PLAYERS
  pub numbered : map (λ t. t.no) list ≡ range_with_len 1 (length list)
  pub records : All (λ t. IsRecord t.totals) list

-- of `players` players, each with one opponent a round at most
pub record AreEncounters (players : ℕ) (all : List Encounter) : Type 0 where
  pub known : All (λ e. IsKnown players e.player) all
  pub few : (player : ℕ) → count_by (λ e. e.player == player) all ≤ MAX_ROUNDS
  pub records : All (λ e. IsRecord e.opponent) all

-- the two of a match, if there are two, are of `players` players
abbrev pub IsKnownTo : ℕ → Match → Type 0
IsKnownTo players m = IsFalse (is_bye m) → IsKnown players m.a × IsKnown players m.b

abbrev pub AreKnownTo : ℕ → List Match → Type 0
AreKnownTo players matches = All (IsKnownTo players) matches

-- these are the tallies and the meetings of the event
pub record AreListsOf (event : EventValue) (list : List Tally) (met : List Meeting) : Type 0 where
  pub sound : IsSoundButForSeeds event
  pub tallies : list ≡ tallies event
  pub meetings : met ≡ meetings event

-- lists by which standings can be worked out, as those of each event are
pub record AreLists (list : List Tally) (met : List Meeting) : Type 0 where
  pub tallies : AreTallies list
  pub encounters : AreEncounters (length list) (encounters met)
