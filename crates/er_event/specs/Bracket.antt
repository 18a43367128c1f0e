-- Single elimination: who goes on, and when a next stage stands.
--
-- A stage is one round of the playoff. Its matches stand by slot: a slot is the place of a match in its stage, from 1 at the
-- top of the bracket. Eight players have a first stage of four slots, a second of two, and a third of one, which is the final.
use Rattle.std.specs.Prelude.{◌≡◌, ℕ, ◌-◌, ◌<◌, ◌==◌, ◌&&◌, ◌||◌, nat_lt, Bool, if◌then◌else◌, List, [], ◌∷◌, length, slice_get}
use Rattle.std.specs.Prelude.{option_and_then, option_map, Option, Some, None, IsTrue, IsSome, MatchOption}
use Rattle.er_event.specs.declared.scores.Games.{Games}
use Rattle.er_event.specs.declared.events.Phase.{Phase}
use Rattle.er_event.specs.declared.events.Phase.TheVariants.{Finished}
use Rattle.er_event.specs.declared.matches.Match.{Match}
use Rattle.er_event.specs.Event.{EventValue}
use Rattle.er_event.specs.Round.{is_complete}

abbrev pub open_match : ℕ → ℕ → Match
open_match a b = record { a = a; b = b; score = None }

abbrev pub winner_by : Match → Games → ℕ
winner_by m s = if nat_lt s.y s.x then m.a else m.b

abbrev pub winner_with : Match → Option Games → ℕ
winner_with m None = 0
winner_with m (Some s) = winner_by m s

-- the player who won the match, 0 if it is open
abbrev pub winner : Match → ℕ
winner m = winner_with m m.score

-- slot i has the winners of the slots 2i-1 and 2i: those of slots 1 and 2 meet in slot 1, those of 3 and 4 in slot 2
abbrev pub next_stage : List Match → List Match
next_stage [] = []
next_stage (m ∷ []) = []
next_stage (m ∷ n ∷ more) = open_match (winner m) (winner n) ∷ next_stage more

-- the same two players in each slot, in the same order
abbrev pub SameSlots : List Match → List Match → Type 0
SameSlots [] [] = Unit {0}
SameSlots (m ∷ ms) (n ∷ ns) = ((m.a ≡ n.a) × (m.b ≡ n.b)) × SameSlots ms ns
SameSlots [] (n ∷ ns) = ⊥
SameSlots (m ∷ ms) [] = ⊥

-- a next stage stands exactly if the stage before is complete and has more than one slot
abbrev pub FollowOn : List (List Match) → Type 0
FollowOn [] = Unit {0}
FollowOn (last ∷ []) = IsTrue (is_complete last) → length last ≡ 1
FollowOn (stage ∷ next ∷ more) = IsTrue (is_complete stage) × (1 < length stage) × SameSlots next (next_stage stage)
    × FollowOn (next ∷ more)

-- the final: the only match of the last stage, if that has one slot
abbrev pub last_match : List (List Match) → Option Match
last_match [] = None
last_match ([] ∷ []) = None
last_match ((final ∷ []) ∷ []) = Some final
last_match ((m ∷ n ∷ more) ∷ []) = None
last_match (stage ∷ next ∷ more) = last_match (next ∷ more)

-- the final is played
abbrev pub IsDecided : List (List Match) → Type 0
IsDecided stages = MatchOption (last_match stages) ⊥ (λ m. IsSome m.score)

-- who won the final, once the playoff is over
abbrev pub champion_in : Phase → List (List Match) → Option ℕ
champion_in Finished stages = option_map winner (last_match stages)
champion_in _ stages = None

abbrev pub champion : EventValue → Option ℕ
champion event = champion_in event.phase event.bracket.stages

-- the match of a slot of a stage: stage 1 is the first round of the playoff, and slot 1 is at the top of the bracket
abbrev pub slot_in : List (List Match) → ℕ → ℕ → Option Match
slot_in stages stage slot =
    if stage == 0 || slot == 0 then None
    else option_and_then (λ (matches : List Match). slice_get matches (slot - 1)) (slice_get stages (stage - 1))

abbrev pub slot_at : EventValue → ℕ → ℕ → Option Match
slot_at event stage slot = slot_in event.bracket.stages stage slot

-- the stage of the winners, if this one is complete and has more than one slot
abbrev pub stage_after : List Match → Option (List Match)
stage_after stage = if is_complete stage && nat_lt 1 (length stage) then Some (next_stage stage) else None

-- the stage was the final, and is played
abbrev pub is_over : List Match → Bool
is_over stage = is_complete stage && length stage == 1
