use Rattle.er_event.proofs.Prelude.{FitRows, keyed_rows_from, Round, All, List, drop, length, take, ◌+◌, ◌-◌, ◌≡◌, ◌≤◌}
use Rattle.er_share.specs.declared.TheConstants.{MAX_ROUNDS}
use Rattle.er_event.proofs.rows.pairing.read_rounds.Given as goal

abbrev pub invariant-loop-read : goal.invariant-loop-read
invariant-loop-read l =
    (l.read ≤ length l.rows) × (length l.rounds.items ≤ MAX_ROUNDS) × (take l.read l.rows ≡ keyed_rows_from 1 l.rounds.items)
    × ((rs : List Round) → All (λ (r : Round). FitRows r.matches) rs → length rs ≤ MAX_ROUNDS → l.rows ≡ keyed_rows_from 1 rs
    → (l.rounds.items ≡ take (length l.rounds.items) rs)
    × (drop l.read l.rows ≡ keyed_rows_from (length l.rounds.items + 1) (drop (length l.rounds.items) rs)))

abbrev pub decreases-loop-read : goal.decreases-loop-read
decreases-loop-read l = length l.rows - l.read
