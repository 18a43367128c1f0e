-- When matches are a round.
use Rattle.er_event.proofs.Prelude.{is_known, is_bye, seats, bye_score, is_swiss_score, IsRound, Match, Games, All, AllPairs, Bool}
use Rattle.er_event.proofs.Prelude.{Contains, IfSome, IsFalse, IsTrue, List, Option, Some, arith, false, flat_map, get_or, length, not}
use Rattle.er_event.proofs.Prelude.{refl, sym, take, true, true≢false, ℕ, ◌-◌, ◌==◌, ◌≡◌, ◌≢◌, ◌≤◌, nat_tests, common_steps, All-weaker}
use Rattle.er_event.proofs.Prelude.{get_or-range_with_len, length-range_with_len, AllPass-from_list_all, list_all-from_AllPass, list_all}
use Rattle.er_event.proofs.Prelude.{range_with_len}
use Rattle.er_event.specs.Match.{is_lawful_match, is_lawful_score}

pub All-of : {X : Type 0} (p : X → Bool) (xs : List X) → list_all p xs ≡ true → All (λ x. IsTrue (p x)) xs
All-of p xs e = AllPass-from_list_all p xs e

pub of-All : {X : Type 0} (p : X → Bool) (xs : List X) → All (λ x. IsTrue (p x)) xs → list_all p xs ≡ true
of-All p xs h = list_all-from_AllPass p xs h

-- ---- who is known

pub known_contains : (count k : ℕ) → is_known count k ≡ true → Contains (range_with_len 1 count) k
known_contains count k known =
    let low : (1 ≤ k) × (k ≤ count) = grind (arith, nat_tests) in
    (k - 1, grind (arith, length-range_with_len), grind (arith, get_or-range_with_len, length-range_with_len))

pub contains_known : (count k : ℕ) → Contains (range_with_len 1 count) k → is_known count k ≡ true
contains_known count k has = grind (arith, common_steps, length-range_with_len, get_or-range_with_len, nat_tests)

-- ---- one match

score_won : (score : Option Games) → is_lawful_score true score ≡ true → score ≡ Some bye_score
score_won score is = grind (arith, common_steps)

score_swiss : (bye : Bool) (score : Option Games) → is_lawful_score bye score ≡ true → IfSome score (λ s. IsTrue (is_swiss_score s))
score_swiss bye score is = grind (arith, common_steps)

lawful_score : (bye : Bool) (score : Option Games) → (bye ≡ true → score ≡ Some bye_score) → IfSome score (λ s. IsTrue (is_swiss_score s))
    → is_lawful_score bye score ≡ true
lawful_score bye score won swiss = grind (arith, common_steps)

module _ (count : ℕ) where
  record Lawful (m : Match) : Type 0 where
    first : Contains (range_with_len 1 count) m.a
    second : IsFalse (is_bye m) → Contains (range_with_len 1 count) m.b
    won : IsTrue (is_bye m) → m.score ≡ Some bye_score
    swiss : IfSome m.score (λ s. IsTrue (is_swiss_score s))

  lawful : (m : Match) → is_lawful_match count m ≡ true → Lawful m
  lawful m is = grind (arith, common_steps, is_bye, is_known, is_lawful_score, known_contains, score_swiss, score_won)

  is_lawful : (m : Match) → Lawful m → is_lawful_match count m ≡ true
  is_lawful m h = grind (arith, common_steps, contains_known, is_bye, is_known, is_lawful_score, lawful_score)

  -- ---- a round

  false_not : (b : Bool) → not b ≡ true → b ≡ false
  false_not false e = refl
  false_not true e = absurd (true≢false (sym e))

  pub is_round : (ms : List Match) → (length ms == 0) ≡ false → list_all (is_lawful_match count) ms ≡ true
      → AllPairs (λ p q. p ≢ q) (flat_map seats ms)
      → list_all (λ m. not (is_bye m)) (take (length ms - 1) ms) ≡ true → IsRound (range_with_len 1 count) ms
  is_round ms some all apart last =
      let known = range_with_len 1 count in
      let each : All Lawful ms =
      All-weaker (λ m. IsTrue (is_lawful_match count m)) Lawful lawful ms (All-of (is_lawful_match count) ms all) in
      record {
        some = grind (arith, nat_tests);
        first_known = λ k d below. (each k d below).first;
        second_known = λ k d below. (each k d below).second;
        seated_once = apart;
        byes_won = λ k d below. (each k d below).won;
        scores = λ k d below. (each k d below).swiss;
        bye_last = λ k d below. false_not _ (All-of (λ m. not (is_bye m)) (take (length ms - 1) ms) last k d below);
      }

  each_lawful : (ms : List Match) → All (λ (m : Match). Contains (range_with_len 1 count) m.a) ms
      → All (λ (m : Match). IsFalse (is_bye m) → Contains (range_with_len 1 count) m.b) ms
      → All (λ (m : Match). IsTrue (is_bye m) → m.score ≡ Some bye_score) ms
      → All (λ (m : Match). IfSome m.score (λ s. IsTrue (is_swiss_score s))) ms → list_all (is_lawful_match count) ms ≡ true
  each_lawful ms a b c d = list_all-from_AllPass (is_lawful_match count) ms (λ k e below. is_lawful (get_or ms k e)
      (record { first = a k e below; second = b k e below; won = c k e below; swiss = d k e below }))

  pub round_lawful : (ms : List Match) → IsRound (range_with_len 1 count) ms → list_all (is_lawful_match count) ms ≡ true
  round_lawful ms h = each_lawful ms h.first_known h.second_known h.byes_won h.scores

  pub round_last : (ms : List Match) → IsRound (range_with_len 1 count) ms → list_all (λ m. not (is_bye m)) (take (length ms - 1) ms) ≡ true
  round_last ms h = grind (arith, common_steps, of-All, All-weaker)
