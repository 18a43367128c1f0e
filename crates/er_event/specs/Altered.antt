-- Whether a change may alter any totals, and whose match it corrects.
use Rattle.std.specs.Prelude.{ℕ, ◌-◌, ◌==◌, ◌&&◌, ◌||◌, Bool, false, List, [], slice_index_or, is_some, Contains, ◌≡◌}
use Rattle.std.specs.Option.{option_map_or}
use Rattle.er_event.specs.declared.changes.Change.{Change}
use Rattle.er_event.specs.declared.changes.Change.TheVariants.{AddPlayer, AddRound, SetScore}
use Rattle.er_event.specs.declared.matches.Match.{Match}
use Rattle.er_event.specs.Change.{scored_slot, with_player, Fits}
use Rattle.er_event.specs.Event.{EventValue}
use Rattle.er_event.specs.Round.{is_complete, match_at}
use Rattle.er_event.specs.Sound.{IsSoundButForSeeds, numbers}
use Rattle.er_event.specs.Totals.{totals}

-- the matches of a round
abbrev pub matches_in : EventValue → ℕ → List Match
matches_in event round = (slice_index_or event.stored (round - 1) (record { matches = [] })).matches

-- the round that the change adds, or gives a score, is complete after it
abbrev pub may_alter_totals : EventValue → Change → Bool
may_alter_totals event (AddRound matches) = is_complete matches
may_alter_totals event (SetScore round table score) = is_complete (scored_slot (matches_in event round) table score)
may_alter_totals event _ = false

-- the change replaces a score of a match of this player
abbrev pub is_corrected : EventValue → Change → ℕ → Bool
is_corrected event (SetScore round table score) player =
    option_map_or (λ (m : Match). is_some m.score && (m.a == player || m.b == player)) (match_at event round table) false
is_corrected event _ player = false

-- a player who is added leaves the totals of the others
abbrev pub OthersKeepTotals : Type 0
OthersKeepTotals = (event : EventValue) (name : List ℕ) (player : ℕ) → IsSoundButForSeeds event → Fits event (AddPlayer name)
    → Contains (numbers event.players) player → totals (with_player event name) player ≡ totals event player
