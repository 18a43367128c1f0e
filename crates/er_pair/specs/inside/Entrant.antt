-- The active players before they are put in order.
use Rattle.std.specs.Prelude.{ℕ, List, [], ◌∷◌, Bool, nat_lt, ◌==◌, ◌||◌, ◌&&◌}
use Rattle.er_event.specs.Event.{EventValue}
use Rattle.er_event.specs.Totals.{totals}
use Rattle.er_pair.specs.declared.entrants.Entrant.{Entrant}

abbrev pub entrant_of : EventValue → ℕ → ℕ → Entrant
entrant_of event number key = record { points = record { 0 = (totals event number).points }; key = key; number = number }

-- each number with its key, in turn
abbrev pub entrants_of : EventValue → List ℕ → List ℕ → List Entrant
entrants_of event (number ∷ numbers) (key ∷ keys) = entrant_of event number key ∷ entrants_of event numbers keys
entrants_of event _ _ = []

-- more points, then the smaller key, then the smaller number
abbrev pub is_before : Entrant → Entrant → Bool
is_before p q =
    nat_lt q.points.0 p.points.0
    || (p.points.0 == q.points.0 && (nat_lt p.key q.key || (p.key == q.key && nat_lt p.number q.number)))
