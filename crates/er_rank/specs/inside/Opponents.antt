-- The opponents of each player, by number.
use Rattle.std.specs.Prelude.{ℕ, ◌+◌, ◌-◌, ◌<◌, List, length, slice_index_or}
use Rattle.er_share.specs.declared.TheConstants.{MAX_ROUNDS}
use Rattle.er_event.specs.declared.totals.Totals.{Totals}
use Rattle.er_rank.specs.declared.opponents.Opponents.{Opponents}
use Rattle.er_rank.specs.Meeting.{Encounter, opponents_of}
use Rattle.er_rank.specs.inside.Merit.{AreOpponents}

-- what these encounters come to for each player
abbrev pub AreOpponentsOf : List Encounter → List Opponents → Type 0
AreOpponentsOf all list = (k : ℕ) (d : Opponents) → k < length list → AreOpponents (slice_index_or list k d) (opponents_of all (1 + k))

-- the player has met fewer than there may be rounds
pub record HasRoom (list : List Opponents) (player : ℕ) : Type 0 where
  pub before : List Totals
  pub few : length before < MAX_ROUNDS
  pub are : (d : Opponents) → AreOpponents (slice_index_or list (player - 1) d) before
