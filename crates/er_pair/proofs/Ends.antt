-- Dead ends that a search keeps.
use Rattle.std.proofs.Common.{◌≡◌, ℕ, ◌+◌, ◌*◌, ◌≤◌, List, length, ap, ◌∙◌, arith}
use Rattle.er_pair.specs.{declared.places.Cursor.Cursor, declared.places.Places.Places}
use Rattle.er_pair.specs.inside.Search.{search_of, met_in, free_ahead, IsDeadAhead}
use Rattle.er_pair.proofs.{Ahead.ahead-last, Passing.passing-same}

-- in the last word, what is ahead doesn't depend on what is used
free-last : (used other : Places) (ahead : Cursor) (end : ℕ) → end ≤ 64 * (ahead.index + 1)
    → free_ahead used ahead end ≡ free_ahead other ahead end
unfolding free_ahead
free-last used other ahead end within = passing-same _ _ 0 end (λ p low high. ahead-last used other ahead.index ahead.left p (omega arith))

pub dead_whatever : (rows : List Places) (used other : Places) (ahead : Cursor) (steps : ℕ) → length rows ≤ 64 * (ahead.index + 1)
    → IsDeadAhead rows used ahead steps → IsDeadAhead rows other ahead steps
dead_whatever rows used other ahead steps within dead =
    let same = ap (search_of (met_in rows)) (free-last other used ahead (length rows) within) in
    (ap (λ a. a.0) same ∙ dead.0, ap (λ a. a.1) same ∙ dead.1)
