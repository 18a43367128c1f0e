-- Bits of words, and the places for which they stand.
use Rattle.std.proofs.{lemmas.Grind.common_steps, Common.{◌≡◌, ℕ, ◌*◌, ◌/◌, ◌%◌, ◌^◌, ◌<◌, ◌==◌, ◌||◌, ◌&&◌, not, false, if◌then◌else◌}}
use Rattle.std.proofs.{Common.{List, [], ◌∷◌, length, get_or, set, arith, w64}, lemmas.Bool.Decides.nat_tests, lemmas.List.get_or_past}
use Rattle.std.proofs.{lemmas.Nat.or_lt, lemmas.Nat.Bits.{bit_at-lt, bit_at-zero, bit_at_and, bit_at_or, bit_at_not, bit_at_set_same}}
use Rattle.std.proofs.lemmas.Nat.Bits.{bit_at_set_other, bit_at_clear_same, bit_at_clear_other}
use Rattle.std.specs.{Prelude.{bit_and, bit_or}, Int.bit_not}
use Rattle.er_pair.specs.{declared.places.Places.Places, inside.Places.{is_set, has_place}}

-- ---- bits of a word

-- one place more, or one less
abbrev pub bit_more : ℕ → ℕ → ℕ
bit_more word bit = bit_or word (1 * 2 ^ bit % 2 ^ 64)

abbrev pub bit_less : ℕ → ℕ → ℕ
bit_less word bit = bit_and word (bit_not w64 (1 * 2 ^ bit % 2 ^ 64))

more_set : (word bit other : ℕ) → bit < 64 → is_set (bit_more word bit) other ≡ (other == bit || is_set word other)
more_set word bit other small =
    grind (arith, nat_tests, bit_at_set_same w64 word bit small, bit_at_set_other w64 word bit small other)

pub less_set : (word bit other : ℕ) → bit < 64 → other < 64
    → is_set (bit_less word bit) other ≡ (is_set word other && not (other == bit))
less_set word bit other small within =
    grind (arith, nat_tests, bit_at_clear_same w64 word bit small, bit_at_clear_other w64 word bit small other within)

pub not_set : (word bit : ℕ) → word < 2 ^ 64 → bit < 64 → is_set (bit_not w64 word) bit ≡ not (is_set word bit)
not_set word bit fits small = grind (arith, nat_tests, bit_at_not w64 word bit fits small, bit_at-lt word bit)

pub and_not_set : (left word bit : ℕ) → word < 2 ^ 64 → bit < 64
    → is_set (bit_and left (bit_not w64 word)) bit ≡ (is_set left bit && not (is_set word bit))
and_not_set left word bit fits small = grind (
  arith,
  nat_tests,
  bit_at_and left (bit_not w64 word) bit,
  bit_at_not w64 word bit fits small,
  bit_at-lt word bit,
  bit_at-lt left bit,
)

pub neither_set : (one other bit : ℕ) → one < 2 ^ 64 → other < 2 ^ 64 → bit < 64
    → is_set (bit_not w64 (bit_or one other)) bit ≡ not (is_set one bit || is_set other bit)
neither_set one other bit fits suits small =
    let none = bit_at_not w64 (bit_or one other) bit (or_lt 64 one other fits suits) small in
    grind (arith, nat_tests, bit_at_or one other bit, none, bit_at-lt one bit, bit_at-lt other bit)

-- ---- places of a set

pub word_of : (row : Places) (index other : ℕ) → other / 64 ≡ index → is_set (get_or row.words index 0) (other % 64) ≡ has_place row other
unfolding has_place
word_of row index other same = grind arith

-- the set in which one word was written
abbrev pub written : Places → ℕ → ℕ → Places
written row index word = record { words = set row.words index word }

in_written : (row : Places) (index word other : ℕ) → index < length row.words
    → has_place (written row index word) other ≡ (if other / 64 == index then is_set word (other % 64) else has_place row other)
unfolding has_place
in_written row index word other within = grind (arith, common_steps)

pub inserted : (row : Places) (place : ℕ) → place / 64 < length row.words → (other : ℕ)
    → has_place (written row (place / 64) (bit_more (get_or row.words (place / 64) 0) (place % 64))) other
    ≡ (other == place || has_place row other)
inserted row place within other =
    let word = get_or row.words (place / 64) 0 in
    let new = in_written row (place / 64) (bit_more word (place % 64)) other within in
    grind (arith, nat_tests, new, more_set word (place % 64) (other % 64) (omega arith), word_of row (place / 64) other)

pub removed : (row : Places) (place : ℕ) → place / 64 < length row.words → (other : ℕ)
    → has_place (written row (place / 64) (bit_less (get_or row.words (place / 64) 0) (place % 64))) other
    ≡ (not (other == place) && has_place row other)
removed row place within other = grind (arith, common_steps, in_written, less_set, nat_tests, word_of)

-- a set of zeros has no place
pub no_place : (place : ℕ) → has_place (record { words = 0 ∷ 0 ∷ 0 ∷ 0 ∷ 0 ∷ 0 ∷ 0 ∷ 0 ∷ 0 ∷ [] }) place ≡ false
unfolding has_place
no_place place = grind (arith, common_steps)

-- nor has one without a word
pub no_word : (place : ℕ) → has_place (record { words = [] }) place ≡ false
unfolding has_place
no_word place = grind (arith, bit_at-zero (place % 64), get_or_past {X = ℕ} [] (place / 64) 0)

pub complemented : (row : Places) (words : List ℕ) (place : ℕ) → get_or row.words (place / 64) 0 < 2 ^ 64
    → get_or words (place / 64) 0 ≡ bit_not w64 (get_or row.words (place / 64) 0)
    → has_place (record { words = words }) place ≡ not (has_place row place)
unfolding has_place
complemented row words place fits is = grind (arith, not_set (get_or row.words (place / 64) 0) (place % 64) fits (omega arith))
