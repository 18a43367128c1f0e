-- Who has met whom.
use Rattle.std.specs.Prelude.{ℕ, ◌==◌, Bool, List, [], slice_index_or}
use Rattle.std.specs.List.{list_any}
use Rattle.er_event.specs.Event.{EventValue}
use Rattle.er_event.specs.Round.{are_pair, matches_of}

-- the two have a stored match together, counted or not; 0 stands for the bye
abbrev pub have_met : EventValue → ℕ → ℕ → Bool
have_met event p q = list_any (λ m. are_pair m.a m.b p q) (matches_of event.stored)

-- whether the two have met, by lists of those whom each number has met, from 0 on
abbrev pub has_met : List (List ℕ) → ℕ → ℕ → Bool
has_met opponents p q = list_any (λ opponent. opponent == q) (slice_index_or opponents p [])
