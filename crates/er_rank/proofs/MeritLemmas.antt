-- The opponents in the results of one player.
use Rattle.std.proofs.{Common.{ℕ, ◌+◌, ◌≤◌, List, [], ◌∷◌, length, Option, Some, None, arith}}
use Rattle.std.specs.List.{cons_option, filter_map}
use Rattle.er_share.specs.declared.TheConstants.{MAX_ROUNDS}
use Rattle.er_event.specs.{Event.EventValue, Results.{RoundResult, missed_rounds, results_of}}
use Rattle.er_rank.specs.Standings.{opponents}
use Rattle.er_rank.proofs.SoundLemmas.{AreWithin}

one-few : (o : Option ℕ) (rest : List ℕ) → length (cons_option o rest) ≤ length rest + 1
one-few None rest = omega arith
one-few (Some q) rest = omega arith

-- no more opponents than results
met-few : (results : List RoundResult) → length (filter_map (λ (r : RoundResult). r.opponent) results) ≤ length results
met-few [] = omega arith
met-few (r ∷ results) =
    let later = filter_map (λ (x : RoundResult). x.opponent) results in
    let here : length (cons_option r.opponent later) ≤ length later + 1 = one-few r.opponent later in
    let rest = met-few results in
    omega (arith, here, rest)

-- at most one opponent a round
pub opponents-few : (e : EventValue) (player : ℕ) → AreWithin (results_of e player) (missed_rounds e player)
    → length (opponents e player) ≤ MAX_ROUNDS
opponents-few e player within =
    let met = met-few (results_of e player) in
    let few = within.few in
    omega (arith, met, few)
