-- Who meets whom in the first stage of the playoff.
use Rattle.std.specs.Prelude.{ℕ, ◌==◌, if◌then◌else◌, List, [], ◌∷◌, length, map, slice_index_or}
use Rattle.er_event.specs.declared.matches.Match.{Match}
use Rattle.er_event.specs.Bracket.{open_match}

-- which seeds meet in the slots, the better one first
abbrev pub seeds_by_slot : ℕ → List (ℕ × ℕ)
seeds_by_slot cut =
    if cut == 2 then (1, 2) ∷ []
    else if cut == 4 then (1, 4) ∷ (2, 3) ∷ []
    else if cut == 8 then (1, 8) ∷ (4, 5) ∷ (2, 7) ∷ (3, 6) ∷ []
    else []

-- the player with seed n stands at place n
abbrev pub player_of_seed : List ℕ → ℕ → ℕ
player_of_seed players seed = slice_index_or (0 ∷ players) seed 0

-- one open match for each slot
abbrev pub first_stage : List ℕ → List Match
first_stage players =
    map (λ (s : ℕ × ℕ). open_match (player_of_seed players s.0) (player_of_seed players s.1)) (seeds_by_slot (length players))
