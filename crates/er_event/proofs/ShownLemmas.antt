-- The rounds of a sound event can be shown by rows.
use Rattle.er_event.proofs.Prelude.{FitRows, FitsRow, is_bye, is_swiss_score, AreRounds, IsRound, Phase, Match, Round, All, Bool, Contains}
use Rattle.er_event.proofs.Prelude.{IfSome, IsFalse, IsTrue, List, arith, get_or, refl, ℕ, ◌<◌, ◌≡◌, ◌≤◌, nat_tests, common_steps}
use Rattle.er_event.proofs.Prelude.{All-weaker, get_or-range_with_len, length-range_with_len, range_with_len}

module _ (n : ℕ) (few : n ≤ 512) where
  pub below : (k : ℕ) → Contains (range_with_len 1 n) k → k < 65536
  below k has = grind (arith, common_steps, length-range_with_len, get_or-range_with_len)

  second_below : (m : Match) (bye : Bool) → is_bye m ≡ bye → (IsFalse (is_bye m) → Contains (range_with_len 1 n) m.b) → m.b < 65536
  second_below m bye is known = grind (arith, nat_tests, below m.b)

  each_shown : (ms : List Match) → All (λ (m : Match). Contains (range_with_len 1 n) m.a) ms
      → All (λ (m : Match). IsFalse (is_bye m) → Contains (range_with_len 1 n) m.b) ms
      → All (λ (m : Match). IfSome m.score (λ s. IsTrue (is_swiss_score s))) ms → All FitsRow ms
  each_shown ms a b c k d within = record {
    first = below (get_or ms k d).a (a k d within);
    second = second_below (get_or ms k d) (is_bye (get_or ms k d)) refl (b k d within);
    score = c k d within;
  }

  round_shown : (ms : List Match) → IsRound (range_with_len 1 n) ms → FitRows ms
  round_shown ms h = record { some = h.some; each = each_shown ms h.first_known h.second_known h.scores; bye_last = h.bye_last }

pub rounds_shown : (phase : Phase) (limit n : ℕ) (rounds : List Round) → n ≤ 512 → AreRounds phase limit (range_with_len 1 n) rounds
    → All (λ (r : Round). FitRows r.matches) rounds
rounds_shown phase limit n rounds few h =
    All-weaker (λ (r : Round). IsRound (range_with_len 1 n) r.matches) (λ (r : Round). FitRows r.matches)
    (λ r. round_shown n few r.matches) rounds h.each
