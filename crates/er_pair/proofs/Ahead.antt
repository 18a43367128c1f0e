-- Walks over the places that two sets leave free.
use Rattle.std.proofs.{lemmas.Grind.common_steps, Common.{◌≡◌, ℕ, ◌+◌, ◌*◌, ◌/◌, ◌%◌, ◌^◌, ◌<◌, ◌≤◌, ◌==◌, ◌||◌, ◌&&◌, not, Bool, true}}
use Rattle.std.proofs.{Common.{false, get_or, arith, w64}, lemmas.Bool.Decides.nat_tests, lemmas.Nat.Bits.bit_at-zero}
use Rattle.std.proofs.lemmas.Nat.Bits.{bit_at-trailing_zeros}
use Rattle.std.specs.{Prelude.{bit_and, bit_or}, Int.{bit_not, trailing_zeros}, Slice.Scan.{HoldsNowhere, IsFirstPlace}}
use Rattle.er_pair.specs.{declared.places.Places.Places, inside.Places.{has_place, is_ahead}}
use Rattle.er_pair.proofs.Bits.{bit_less, less_set, not_set, and_not_set, neither_set, word_of}

pub ahead-same : (one other these those : Places) (word left p : ℕ) → has_place one p ≡ has_place these p
    → has_place other p ≡ has_place those p
    → is_ahead one other word left p ≡ is_ahead these those word left p
unfolding is_ahead
ahead-same one other these those word left p first second = grind arith

-- a place ahead in a later word is free
pub later_free : (row : Places) (word left p : ℕ) → is_ahead row row word left p ≡ true
    → (has_place row p && not (p / 64 == word)) ≡ false
unfolding is_ahead
later_free row word left p is = grind (arith, nat_tests)

-- in the last word, the bits that are left say it all
pub ahead-last : (row other : Places) (word left p : ℕ) → p < 64 * (word + 1)
    → is_ahead row row word left p ≡ is_ahead other other word left p
unfolding is_ahead
ahead-last row other word left p within = grind (arith, nat_tests)

-- ---- the start

pub starts_all : (row : Places) (p : ℕ) → get_or row.words 0 0 < 2 ^ 64
    → is_ahead row row 0 (bit_not w64 (get_or row.words 0 0)) p ≡ not (has_place row p)
unfolding is_ahead
starts_all row p fits = grind (arith, nat_tests, not_set (get_or row.words 0 0) (p % 64) fits (omega arith), word_of row 0 p)

-- ---- the next place; the places ahead are those that pass the test

module _ (one other : Places) (word left : ℕ) (test : ℕ → Bool) (same : (p : ℕ) → is_ahead one other word left p ≡ test p) where
  -- a word of which no bit is left
  pub next_word : left ≡ 0 → get_or one.words (word + 1) 0 < 2 ^ 64 → get_or other.words (word + 1) 0 < 2 ^ 64 → (p : ℕ)
      → is_ahead one other (word + 1) (bit_not w64 (bit_or (get_or one.words (word + 1) 0) (get_or other.words (word + 1) 0))) p ≡ test p
  unfolding is_ahead
  next_word none fits suits p = grind (arith, common_steps, bit_at-zero, nat_tests, neither_set, word_of)

  -- in the last word
  pub no_next : (end : ℕ) → left ≡ 0 → end ≤ 64 * (word + 1) → HoldsNowhere test 0 end
  unfolding is_ahead
  no_next end none within p low below = grind (arith, nat_tests, same p, bit_at-zero (p % 64))

  module _ (some : 0 < left) (fits : left < 2 ^ 64) where
    none_before : (p : ℕ) → p < 64 * word + trailing_zeros w64 left → test p ≡ false
    unfolding is_ahead
    none_before p below =
        let found = bit_at-trailing_zeros w64 left some fits in
        grind (arith, nat_tests, same p, found.0, found.2 (p % 64))

    pub found_beyond : (end : ℕ) → end ≤ 64 * word + trailing_zeros w64 left → HoldsNowhere test 0 end
    found_beyond end beyond p low below = none_before p (omega arith)

    pub found_place : (end : ℕ) → 64 * word + trailing_zeros w64 left < end
        → IsFirstPlace test 0 end (64 * word + trailing_zeros w64 left)
    unfolding is_ahead
    found_place end within =
        let found = bit_at-trailing_zeros w64 left some fits in
        record {
          low = omega arith;
          high = omega arith;
          before = λ p low below. none_before p below;
          hit = λ _. grind (arith, nat_tests, same (64 * word + trailing_zeros w64 left), found.0, found.1);
        }

    pub found_after : (p : ℕ) → is_ahead one other word (bit_less left (trailing_zeros w64 left)) p
        ≡ (test p && not (p == 64 * word + trailing_zeros w64 left))
    unfolding is_ahead
    found_after p =
        let small = (bit_at-trailing_zeros w64 left some fits).0 in
        grind (arith, nat_tests, same p, less_set left (trailing_zeros w64 left) (p % 64) small)

-- ---- a walk without some of its places

pub without_row : (row other : Places) (word left p : ℕ) → get_or row.words word 0 < 2 ^ 64
    → is_ahead row other word (bit_and left (bit_not w64 (get_or row.words word 0))) p
    ≡ (is_ahead other other word left p && not (has_place row p))
unfolding is_ahead
without_row row other word left p fits = grind (arith, common_steps, and_not_set, nat_tests, word_of)

-- of a place in a later word, which the set has from now on
pub but_elsewhere : (row more : Places) (word left place p : ℕ) → (place / 64 ≡ word → ⊥)
    → has_place more p ≡ (p == place || has_place row p)
    → is_ahead more more word left p ≡ (is_ahead row row word left p && not (p == place))
unfolding is_ahead
but_elsewhere row more word left place p apart is = grind (arith, nat_tests)

-- and of one in the cursor's own word
pub but_here : (row : Places) (word left place p : ℕ) → place / 64 ≡ word
    → is_ahead row row word (bit_less left (place % 64)) p ≡ (is_ahead row row word left p && not (p == place))
unfolding is_ahead
but_here row word left place p same = grind (arith, nat_tests, less_set left (place % 64) (p % 64))
