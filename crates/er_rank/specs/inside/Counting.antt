-- How many matches each player has by a list of encounters.
use Rattle.std.specs.Prelude.{◌≡◌, ℕ, ◌+◌, ◌<◌, ◌==◌, List, [], ◌∷◌, ◌++◌, length, count_by, slice_index_or}
use Rattle.er_event.specs.declared.totals.Totals.{Totals}
use Rattle.er_rank.specs.Meeting.{Encounter}

-- with one match more, of a player against an opponent whose matches come to this
abbrev pub with_match : List Encounter → ℕ → Totals → List Encounter
with_match before player opponent = before ++ record { player = player; opponent = opponent } ∷ []

-- the numbers of matches of the players, by number
abbrev pub AreCountsOf : List Encounter → List ℕ → Type 0
AreCountsOf all counts = (k : ℕ) → k < length counts → slice_index_or counts k 0 ≡ count_by (λ e. e.player == 1 + k) all
