-- The search as a function of what is left to pair: laws in proofs/ tie it to the earliest legal pairing and to the steps needed.
use Rattle.std.specs.Prelude.{◌≡◌, ℕ, zero, suc, ◌+◌, ◌<◌, Bool, if◌then◌else◌, List, [], ◌∷◌, ◌++◌, length, filter, All, Option, Some}
use Rattle.std.specs.Prelude.{None}
use Rattle.std.specs.List.{range_with_len}
use Rattle.er_pair.specs.declared.dead_ends.KnownDeadEnd.{KnownDeadEnd}
use Rattle.er_pair.specs.declared.places.Cursor.{Cursor}
use Rattle.er_pair.specs.declared.places.Places.{Places}
use Rattle.er_pair.specs.declared.search.Outcome.{Outcome}
use Rattle.er_pair.specs.declared.search.Outcome.TheVariants.{Paired, DeadEnd, OutOfSteps}
use Rattle.er_pair.specs.Pairing.{Pair}
use Rattle.er_pair.specs.inside.Places.{has_place, ahead_of, row_at}

-- the pairs that were found, if any, and how many steps were made
abbrev pub Answer : Type 0
Answer = Option (List Pair) × ℕ

-- after one step for the pair and those for the others: it stops if they were paired, and else goes on
unfoldable pub after_step : Pair → Option (List Pair) → ℕ → Answer → Answer
after_step pair (Some more) steps later = (Some (pair ∷ more), suc steps)
after_step pair None steps later = (later.0, suc (steps + later.1))

-- the candidates of the first that are left, in turn; if it pairs with one, the others are those passed and those left after it
unfoldable pub tries : (ℕ → ℕ → Bool) → (List ℕ → Answer) → ℕ → List ℕ → List ℕ → Answer
tries met others first passed [] = (None, zero)
tries met others first passed (candidate ∷ left) =
    let later = tries met others first (passed ++ candidate ∷ []) left in
    if met first candidate then later else after_step (first, candidate) (others (passed ++ left)).0 (others (passed ++ left)).1 later

-- in a list that is no longer than the bound
unfoldable pub search_within : (ℕ → ℕ → Bool) → ℕ → List ℕ → Answer
search_within met zero list = (Some [], zero)
search_within met (suc bound) [] = (Some [], zero)
search_within met (suc bound) (first ∷ rest) = tries met (search_within met bound) first [] rest

unfoldable pub search_of : (ℕ → ℕ → Bool) → List ℕ → Answer
search_of met list = search_within met (length list) list

-- what a search that may take `steps` steps leaves: the pairs found, and the steps that are left
abbrev pub SearchAnswers : Answer → ℕ → List Pair → ℕ → Outcome → Type 0
SearchAnswers answer steps found left Paired = (answer.0 ≡ Some found) × (left + answer.1 ≡ steps)
SearchAnswers answer steps found left DeadEnd = (answer.0 ≡ None) × (left + answer.1 ≡ steps)
SearchAnswers answer steps found left OutOfSteps = steps < answer.1

-- the two positions have met, by the row of the first
abbrev pub met_in : List Places → ℕ → ℕ → Bool
met_in rows p q = has_place (row_at rows p) q

-- the positions before the end that the row leaves free, and that are ahead of a cursor
unfoldable pub free_ahead : Places → Cursor → ℕ → List ℕ
free_ahead used cursor end = filter (ahead_of used used cursor) (range_with_len 0 end)

-- the search of what is ahead
abbrev pub answer_ahead : List Places → Places → Cursor → Answer
answer_ahead rows used ahead = search_of (met_in rows) (free_ahead used ahead (length rows))

-- what is ahead can't be paired, and a search finds that after `steps` steps
abbrev pub IsDeadAhead : List Places → Places → Cursor → ℕ → Type 0
IsDeadAhead rows used ahead steps = ((answer_ahead rows used ahead).0 ≡ None) × ((answer_ahead rows used ahead).1 ≡ steps)

-- what is kept of a dead end, unless no place is left, is so whatever is used
abbrev pub IsTrueDeadEnd : List Places → KnownDeadEnd → Type 0
IsTrueDeadEnd rows known = 0 < known.left → (used : Places)
    → IsDeadAhead rows used (record { index = known.index; left = known.left }) known.steps

pub record AreDeadEnds (rows : List Places) (kept : List KnownDeadEnd) : Type 0 where
  pub some : 0 < length kept
  pub each : All (λ known. IsTrueDeadEnd rows known) kept
