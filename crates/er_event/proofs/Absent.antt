-- Whoever came late sits in none of the rounds before, whatever becomes of these.
use Rattle.er_event.proofs.Prelude.{IsAbsent, is_bye, HasMissed, IsRound, dropped_at, Match, Player, Round, All, Bool, Contains, List}
use Rattle.er_event.proofs.Prelude.{[], arith, false, get_or, length, length-append, list_all, not, refl, take, true}
use Rattle.er_event.proofs.Prelude.{ℕ, ◌&&◌, ◌++◌, ◌+◌, ◌==◌, ◌∷◌, ◌≡◌, ◌≢◌, ◌≤◌, nat_tests, common_steps, range_with_len}
use Rattle.er_event.proofs.Prelude.{get_or-range_with_len, length-range_with_len, All-weaker}
use Rattle.std.proofs.{Common.nat_le, lemmas.Bool.cond_both, lemmas.List.take-append-le}
use Rattle.er_event.specs.inside.Reading.{is_absent, is_absent_from_missed}
use Rattle.er_event.proofs.RoundLemmas.{All-of, of-All}

-- ---- the tests

away : ℕ → Match → Bool
away player m = not (m.a == player) && not (m.b == player)

away-is : (player : ℕ) (m : Match) → not (m.a == player) && not (m.b == player) ≡ true → (m.a ≢ player) × (m.b ≢ player)
away-is player m is = grind (arith, nat_tests)

is-away : (player : ℕ) (m : Match) → (m.a ≢ player) × (m.b ≢ player) → not (m.a == player) && not (m.b == player) ≡ true
is-away player m apart = grind (arith, nat_tests)

absent-All : (player : ℕ) (ms : List Match) → is_absent player ms ≡ true → IsAbsent player ms
absent-All player ms is = λ k d below.
    away-is player (get_or ms k d) (All-of (λ (m : Match). not (m.a == player) && not (m.b == player)) ms is k d below)

All-absent : (player : ℕ) (ms : List Match) → IsAbsent player ms → is_absent player ms ≡ true
All-absent player ms away = of-All (λ (m : Match). not (m.a == player) && not (m.b == player)) ms
    (λ k d below. is-away player (get_or ms k d) (away k d below))

abbrev Away : ℕ → Round → Type 0
Away player r = IsAbsent player r.matches

abbrev Tested : ℕ → Round → Bool
Tested player r = is_absent player r.matches

tested-All : (player : ℕ) (rs : List Round) → list_all (Tested player) rs ≡ true → All (Away player) rs
tested-All player rs is = λ k d below. absent-All player (get_or rs k d).matches (All-of (Tested player) rs is k d below)

All-tested : (player : ℕ) (rs : List Round) → All (Away player) rs → list_all (Tested player) rs ≡ true
All-tested player rs away = of-All (Tested player) rs (λ k d below. All-absent player (get_or rs k d).matches (away k d below))

missed-of : (rs : List Round) (p : Player) → is_absent_from_missed rs p ≡ true → HasMissed rs p
missed-of rs p is =
    let both : (nat_le p.joined (length rs) ≡ true) × (list_all (Tested p.no) (take p.joined rs) ≡ true) = grind arith in
    record { stored = grind (arith, nat_tests); absent = tested-All p.no (take p.joined rs) both.1 }

of-missed : (rs : List Round) (p : Player) → HasMissed rs p → is_absent_from_missed rs p ≡ true
of-missed rs p h =
    let within : nat_le p.joined (length rs) ≡ true = grind (arith, nat_tests, h.stored) in
    let tested = All-tested p.no (take p.joined rs) h.absent in
    grind arith

pub have-missed : (rs : List Round) (ps : List Player) → list_all (is_absent_from_missed rs) ps ≡ true → All (HasMissed rs) ps
have-missed rs ps is = λ k d below. missed-of rs (get_or ps k d) (All-of (is_absent_from_missed rs) ps is k d below)

pub missed-have : (rs : List Round) (ps : List Player) → All (HasMissed rs) ps → list_all (is_absent_from_missed rs) ps ≡ true
missed-have rs ps h = of-All (is_absent_from_missed rs) ps (λ k d below. of-missed rs (get_or ps k d) (h k d below))

-- ---- one round more

pub missed-more : (rs : List Round) (r : Round) (p : Player) → HasMissed rs p → HasMissed (rs ++ r ∷ []) p
missed-more rs r p h =
    let within = h.stored in record {
      stored = omega (arith, length-append rs (r ∷ []));
      absent = rw (take-append-le p.joined rs (r ∷ []) within) h.absent;
    }

pub all-missed-more : (rs : List Round) (r : Round) (ps : List Player) → All (HasMissed rs) ps → All (HasMissed (rs ++ r ∷ [])) ps
all-missed-more rs r ps h = All-weaker (HasMissed rs) (HasMissed (rs ++ r ∷ [])) (missed-more rs r) ps h

-- ---- one who comes now

high : (n k : ℕ) → Contains (range_with_len 1 n) k → k ≤ n
high n k has = grind (arith, common_steps, length-range_with_len, get_or-range_with_len)

seated : (n : ℕ) (m : Match) → m.b ≡ n + 1 → is_bye m ≡ false
seated n m is = grind (arith, nat_tests)

-- who has the next number sits at no match
absent-new : (n : ℕ) (ms : List Match) → IsRound (range_with_len 1 n) ms → IsAbsent (n + 1) ms
absent-new n ms h = λ k d below.
    let m = get_or ms k d in (
      λ is. omega (arith, high n m.a (h.first_known k d below), is),
      λ is. omega (arith, high n m.b (h.second_known k d below (seated n m is)), is),
    )

pub missed-new : (n : ℕ) (rs : List Round) (p : Player) → All (λ (r : Round). IsRound (range_with_len 1 n) r.matches) rs
    → p.no ≡ n + 1 → p.joined ≡ length rs → HasMissed rs p
missed-new n rs p each number joined = record {
  stored = omega (arith, joined);
  absent = λ k d below. rw number (absent-new n (get_or (take p.joined rs) k d).matches
      (let all : take p.joined rs ≡ rs = grind (arith, common_steps, joined) in rw all (each k d (rw all at below))));
}

-- ---- one who drops

pub missed-dropped : (rs : List Round) (k : ℕ) (p : Player) → HasMissed rs p → HasMissed rs (dropped_at k p)
missed-dropped rs k p h = cond_both (p.no == k) (record p { dropped = true }) p (HasMissed rs)
    (λ _. record { stored = h.stored; absent = h.absent }) (λ _. h)

pub joined-dropped : (k : ℕ) (p : Player) → (dropped_at k p).joined ≡ p.joined
joined-dropped k p = cond_both (p.no == k) (record p { dropped = true }) p (λ (q : Player). q.joined ≡ p.joined) (λ _. refl) (λ _. refl)
