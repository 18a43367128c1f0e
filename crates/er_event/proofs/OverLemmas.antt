-- What the matches of one player can come to at most.
use Rattle.er_event.proofs.Prelude.{EventValue, results_by, results_from, complete_results, results_of_match}
use Rattle.er_event.proofs.Prelude.{IsRound, IsSoundButForSeeds}
use Rattle.er_event.proofs.Prelude.{totals, totals_of, Match, Round, Games, AreOver, IsSeatedOnce, All, IfSome, List, None, Option, Some}
use Rattle.er_event.proofs.Prelude.{[], arith, flat_map, length, refl, suc, ℕ, ◌+◌, ◌∷◌, ◌≢◌, common_steps}
use Rattle.std.proofs.lemmas.Bool.{cases_eq}
use Rattle.er_event.proofs.{MissedLemmas.{missed-few, totals-split}, TotalLemmas.{absent, apart_at, one_match}}
use Rattle.er_event.specs.{Tallies.AreReadable, inside.Seen.AreFew}

-- at most three games of each kind
abbrev HasFew : Match → Type 0
HasFew m = IfSome m.score AreFew

round-few : (known : List ℕ) (ms : List Match) → IsRound known ms → All HasFew ms
round-few known ms round k d below = grind (arith, common_steps)

none-over : (n : ℕ) → AreOver n (totals_of [])
none-over n = record { points = omega arith; rounds_are = omega arith; game_points = omega arith; games = omega arith }

-- a match gives a player one result at most
score-over : (player round : ℕ) (m : Match) (o : Option Games) → IfSome o AreFew → m.a ≢ m.b
    → AreOver 1 (totals_of (results_by player round m o))
score-over player round m None few apart = none-over 1
score-over player round m (Some s) few apart = grind (arith, common_steps)

pub round-over : (player round : ℕ) (ms : List Match) → IsSeatedOnce ms → All HasFew ms
    → AreOver 1 (totals_of (flat_map (results_of_match player round) ms))
round-over player round [] once few = none-over 1
round-over player round (m ∷ rest) once few =
    let more = round-over player round rest (λ i j d before within. once (suc (suc i)) (suc (suc j)) d (omega arith) (omega arith))
    (λ k d below. few (suc k) d (omega arith)) in
    let here = one_match (m ∷ rest) once 0 m player (omega arith) refl in
    let over = score-over player round m m.score (few 0 m (omega arith)) (apart_at (m ∷ rest) once 0 m (omega arith) refl) in
    let none = absent player round m in
    grind (arith, common_steps, cases_eq m.a player, cases_eq m.b player)

counted-over : (player round : ℕ) (r : Round) → IsSeatedOnce r.matches → All HasFew r.matches
    → AreOver 1 (totals_of (complete_results player (round, r)))
counted-over player round r once few = grind (arith, common_steps, round-over player round r.matches once few, none-over)

rounds-over : (player n : ℕ) (rounds : List Round) → All (λ (r : Round). IsSeatedOnce r.matches × All HasFew r.matches) rounds
    → AreOver (length rounds) (totals_of (results_from player n rounds))
rounds-over player n [] all = none-over 0
rounds-over player n (r ∷ later) all =
    let here = counted-over player n r (all 0 r (omega arith)).0 (all 0 r (omega arith)).1 in
    let more = rounds-over player (n + 1) later (λ k d below. all (suc k) d (omega arith)) in
    grind (arith, common_steps)

-- only the matches
pub played-over : (e : EventValue) → IsSoundButForSeeds e → (player : ℕ)
    → AreOver (length e.stored) (totals_of (results_from player 1 e.stored))
played-over e sound player = rounds-over player 1 e.stored
    (λ k d below. let round = sound.rounds.each k d below in (round.seated_once, round-few _ _ round))

-- so they fit in a row
pub totals-readable : (e : EventValue) → IsSoundButForSeeds e → (player : ℕ) → AreReadable (totals e player)
totals-readable e sound player =
    let over = played-over e sound player in
    let missed = missed-few e player in
    let few = sound.rounds.few in
    let limit = sound.set_up.rounds in
    rw (totals-split e player) (record {
      points = omega arith;
      rounds = omega arith;
      game_points = omega arith;
      games = omega arith;
    })
