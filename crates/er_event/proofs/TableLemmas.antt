-- The match of a table stands at the table's place, or is the bye at table 0.
use Rattle.er_event.proofs.Prelude.{score_table, match_with_score, is_bye, match_in, enumerate_from, Match, Games, Bool, List, None, Option}
use Rattle.er_event.proofs.Prelude.{Some, []}
use Rattle.er_event.proofs.Prelude.{ap, arith, cond, false, find, get_or, length, map, not, option_map, refl, suc, sym, true, true≢false}
use Rattle.er_event.proofs.Prelude.{zero, ℕ, ◌+◌, ◌-◌, ◌<◌, ◌==◌, ◌∙◌, ◌∷◌, ◌≡◌, ◌≢◌, ◌≤◌, set, common_steps, none-some, slice_get_past}
use Rattle.er_event.proofs.Prelude.{slice_get_read, slice_get}
use Rattle.er_event.specs.Round.{is_at}

-- the match, unless it is a bye
abbrev pub seated : Option Match → Option Match
seated None = None
seated (Some m) = cond (is_bye m) None (Some m)

abbrev found_in : ℕ → ℕ → List Match → Option Match
found_in n table ms = option_map (λ (found : ℕ × Match). found.1) (find (is_at table) (enumerate_from n ms))

-- no table of these has a lower number, other than 0
none-below : (n t : ℕ) (ms : List Match) → 1 ≤ t → t < n → found_in n t ms ≡ None
none-below n t [] some below = refl
none-below n t (m ∷ ms) some below = grind (arith, common_steps, none-below (n + 1) t ms some (omega arith))

here : (n : ℕ) (m : Match) (ms : List Match) (b : Bool) → b ≡ is_bye m → 1 ≤ n
    → option_map (λ (found : ℕ × Match). found.1) (cond (cond b 0 n == n) (Some (n, m)) (find (is_at n) (enumerate_from (n + 1) ms)))
    ≡ cond b None (Some m)
here n m ms b is low = grind (arith, common_steps, none-below (n + 1) n ms low)

found_at : (n i t : ℕ) (ms : List Match) → 1 ≤ n → t ≡ n + i → found_in n t ms ≡ seated (slice_get ms i)
found_at n i t [] low is = refl
found_at n zero t (m ∷ ms) low is = grind (arith, common_steps, here n m ms (is_bye m) refl low)
found_at n (suc i) t (m ∷ ms) low is = grind (arith, common_steps, found_at (n + 1) i t ms (omega arith) (omega arith))

pub match_in-place : (ms : List Match) (t : ℕ) → 1 ≤ t → match_in ms t ≡ seated (slice_get ms (t - 1))
match_in-place ms t low = found_at 1 (t - 1) t ms (omega arith) (omega arith)

found_bye : (n : ℕ) (ms : List Match) → 1 ≤ n → found_in n 0 ms ≡ find (λ (m : Match). m.b == 0) ms
found_bye n [] low = refl
found_bye n (m ∷ ms) low = grind (arith, common_steps, found_bye (n + 1) ms (omega arith))

pub match_in-bye : (ms : List Match) → match_in ms 0 ≡ find (λ (m : Match). m.b == 0) ms
match_in-bye ms = found_bye 1 ms (omega arith)

-- ---- the match that is found

seated-is : (found : Option Match) (m : Match) → seated found ≡ Some m → found ≡ Some m
seated-is found m is = grind (arith, common_steps)

found-bye : (ms : List Match) (m : Match) → find (λ (k : Match). k.b == 0) ms ≡ Some m → is_bye m ≡ true
found-bye [] m is = absurd (none-some m is)
found-bye (n ∷ ms) m is = grind (arith, common_steps, found-bye ms m)

-- a match that isn't a bye is at the place of its table
pub at-place : (ms : List Match) (t : ℕ) (m : Match) → match_in ms t ≡ Some m → is_bye m ≡ false → (1 ≤ t) × (slice_get ms (t - 1) ≡ Some m)
at-place ms zero m is seat = absurd (true≢false (sym (found-bye ms m (sym (match_in-bye ms) ∙ is)) ∙ seat))
at-place ms (suc t) m is seat = (omega arith, seated-is (slice_get ms (suc t - 1)) m (sym (match_in-place ms (suc t) (omega arith)) ∙ is))

-- ---- and only it gets the score

module _ (t : ℕ) (s : Games) where
  kept : (m : Match) (b : Bool) → b ≡ false → cond b (match_with_score s m) m ≡ m
  kept m b not = rw not refl

  changed : (m : Match) (b : Bool) → b ≡ true → cond b (match_with_score s m) m ≡ match_with_score s m
  changed m b is = rw is refl

  untouched : (n : ℕ) (ms : List Match) → 1 ≤ t → t < n → map (score_table t s) (enumerate_from n ms) ≡ ms
  untouched n [] some below = refl
  untouched n (m ∷ ms) some below = grind (arith, common_steps, untouched (n + 1) ms some (omega arith))

score-from : (s : Games) (n i t : ℕ) (ms : List Match) (m : Match) → 1 ≤ n → t ≡ n + i → slice_get ms i ≡ Some m → is_bye m ≡ false
    → map (score_table t s) (enumerate_from n ms) ≡ set ms i (match_with_score s m)
score-from s n i t [] m low at is seat = absurd (none-some m is)
score-from s n zero t (k ∷ ms) m low at is seat = grind (arith, common_steps, untouched)
score-from s n (suc i) t (k ∷ ms) m low at is seat =
    grind (arith, common_steps, score-from s (n + 1) i t ms m (omega arith) (omega arith) is seat)

pub score-place : (s : Games) (t : ℕ) (ms : List Match) (m : Match) → match_in ms t ≡ Some m → is_bye m ≡ false
    → map (score_table t s) (enumerate_from 1 ms) ≡ set ms (t - 1) (match_with_score s m)
score-place s t ms m is seat = grind (arith, common_steps, at-place, score-from)

-- ---- the read of a place

module _ (ms : List Match) (t at : ℕ) (same : at ≡ t) (some : t ≢ 0) where
  table_low : 1 ≤ t
  table_low = grind (arith, common_steps)

  place-is : match_in ms t ≡ seated (slice_get ms (at - 1))
  place-is = match_in-place ms t table_low ∙ ap (λ k. seated (slice_get ms (k - 1))) (sym same)

  module _ (m : Match) (within : at - 1 < length ms) (read : m ≡ get_or ms (at - 1) m) where
    there : slice_get ms (at - 1) ≡ Some m
    there = slice_get_read ms (length ms) (at - 1) m refl within read

    pub place-seated : m.b ≢ 0 → Some m ≡ match_in ms t
    place-seated seat = grind (arith, common_steps, place-is, there)

    pub place-bye : m.b ≡ 0 → None ≡ match_in ms t
    place-bye bye = grind (arith, common_steps, place-is, there)

  pub place-none : length ms ≤ at - 1 → None ≡ match_in ms t
  place-none past = grind (arith, place-is, slice_get_past ms (at - 1) past)
