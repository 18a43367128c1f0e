-- Stages with the same players in their slots.
use Rattle.std.proofs.{lemmas.Grind.common_steps, Common.{◌≡◌, ◌≢◌, ℕ, ◌<◌, ◌≤◌, List, [], ◌∷◌, length, get_or, Some, refl, arith}}
use Rattle.std.proofs.lemmas.Option.{none-some}
use Rattle.std.specs.List.{slice_get}
use Rattle.er_event.specs.{declared.events.Phase.Phase, declared.matches.Match.Match, Event.EventValue, Bracket.SameSlots}
use Rattle.er_event.specs.Sound.{IsInPlayoff, IsSoundButForSeeds}
use Rattle.er_bracket.specs.Seeds.{first_stage}

pub same_length : (ms ns : List Match) → SameSlots ms ns → length ms ≡ length ns
same_length [] [] same = refl
same_length [] (n ∷ ns) same = absurd same
same_length (m ∷ ms) [] same = absurd same
same_length (m ∷ ms) (n ∷ ns) same = let rest = same_length ms ns same.1 in omega arith

pub first_read : (stages : List (List Match)) (first : List Match) → 1 ≤ length stages → first ≡ get_or stages 0 first
    → slice_get stages 0 ≡ Some first
first_read h1 first some is = grind (arith, common_steps)

-- an event with a stage is in its playoff
playing : (e : EventValue) → IsSoundButForSeeds e → (first : List Match) → slice_get e.bracket.stages 0 ≡ Some first → IsInPlayoff e
playing e sound first at = by_phase e.phase refl
  where
    none : e.bracket.stages ≡ [] → ⊥
    none empty = none-some first (rw empty at at)

    by_phase : (p : Phase) → e.phase ≡ p → IsInPlayoff e
    by_phase h1 is = grind (arith, common_steps)

-- the first stage of a sound event has a slot
pub first_some : (e : EventValue) → IsSoundButForSeeds e → (first : List Match) → slice_get e.bracket.stages 0 ≡ Some first
    → 0 < length first
first_some e sound first at = grind (arith, common_steps)

-- any other number of players than 2, 4 or 8 are the seeds of no stage
pub no_stage : (seeds : List ℕ) → length seeds ≢ 2 → length seeds ≢ 4 → length seeds ≢ 8 → length (first_stage seeds) ≡ 0
no_stage seeds two four eight = grind (arith, common_steps)
