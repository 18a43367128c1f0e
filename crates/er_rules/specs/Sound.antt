-- What makes an event sound whole: the first stage of the playoff has the seeds of the standings.
use Rattle.std.specs.Prelude.{◌≡◌, ℕ, List, Some, slice_get}
use Rattle.er_event.specs.declared.matches.Match.{Match}
use Rattle.er_event.specs.Event.{EventValue}
use Rattle.er_event.specs.Bracket.{SameSlots}
use Rattle.er_event.specs.Sound.{IsSoundButForSeeds}
use Rattle.er_rank.specs.Standings.{IsTop}
use Rattle.er_bracket.specs.Seeds.{first_stage}

-- there is no playoff, or the first players of the standings meet in its first stage as their seeds say
abbrev pub HasSeeds : EventValue → Type 0
HasSeeds event =
    (first : List Match) → slice_get event.bracket.stages 0 ≡ Some first
    → (seeds : List ℕ) × IsTop event event.cut seeds × SameSlots first (first_stage seeds)

pub record IsSound (event : EventValue) : Type 0 where
  pub but_for_seeds : IsSoundButForSeeds event
  pub seeds : HasSeeds event
