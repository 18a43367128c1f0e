use Rattle.er_event.proofs.Prelude.{bracket_rows_from, Match, FitStageRows, All, List, drop, length, take, ◌+◌, ◌-◌, ◌≡◌, ◌≤◌}
use Rattle.er_event.proofs.rows.bracket.read_stages.Given as goal

abbrev pub invariant-loop-read : goal.invariant-loop-read
invariant-loop-read l =
    (l.read ≤ length l.rows) × (length l.stages.items ≤ 3) × (take l.read l.rows ≡ bracket_rows_from 1 l.stages.items)
    × ((rs : List (List Match)) → All FitStageRows rs → length rs ≤ 3 → l.rows ≡ bracket_rows_from 1 rs
    → (l.stages.items ≡ take (length l.stages.items) rs)
    × (drop l.read l.rows ≡ bracket_rows_from (length l.stages.items + 1) (drop (length l.stages.items) rs)))

abbrev pub decreases-loop-read : goal.decreases-loop-read
decreases-loop-read l = length l.rows - l.read
