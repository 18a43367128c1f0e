-- The fields of a record, and digits as a number.
use Rattle.std.proofs.{lemmas.Grind.common_steps, Common.{◌≡◌, ◌≢◌, ℕ, zero, suc, ◌^◌, ◌<◌, ◌≤◌, true, false, Bor, List, [], ◌∷◌, length}}
use Rattle.std.proofs.{Common.{drop, Option, Some, None, Result, Ok, Err, refl, sym, ap, ◌∙◌, arith}, lemmas.Bool.Decides.nat_tests}
use Rattle.std.proofs.lemmas.Str.Parse.{IsNumeralModel, numerals_by_value, parse_digits, digits_value_short}
use Rattle.std.proofs.lemmas.Fmt.{IsAscii-from_digits, decimal_nonempty, digits_decimal, digits_value-decimal, length-decimal-le}
use Rattle.std.proofs.lemmas.Str.{IsUtf8-from_ascii}
use Rattle.std.specs.{Fmt.decimal, Option.{MatchOption, option_map}, Str.IsUtf8, Char.is_ascii_digit, List.list_all, Str.Parse.digits_value}
use Rattle.std.specs.{Str.Parse.ParsesUnsigned, Result.result_ok}
use Rattle.csv.specs.Records.{field_at}
use Rattle.er_paper.specs.Reading.{number_of, number_within, are_fields}

-- ---- fields

at_field : (fields : List (List ℕ)) (i : ℕ) (field : List ℕ) → field_at fields i ≡ Some field → drop i fields ≡ field ∷ drop (suc i) fields
unfolding field_at
at_field [] i field e = absurd (cc)
at_field (f ∷ fs) zero field e = let same : f ≡ field = cc in ap (λ x. x ∷ fs) same
at_field (f ∷ fs) (suc i) field e = at_field fs i field e

pub one_field : (fields : List (List ℕ)) (a : List ℕ) → length fields ≡ 1 → field_at fields 0 ≡ Some a → fields ≡ a ∷ []
one_field h1 a n e = grind (arith, common_steps, at_field)

pub three_fields : (fields : List (List ℕ)) (a b d : List ℕ) → length fields ≡ 3 → field_at fields 0 ≡ Some a → field_at fields 1 ≡ Some b
    → field_at fields 2 ≡ Some d → fields ≡ a ∷ b ∷ d ∷ []
three_fields h1 a b d n ea eb ed = grind (arith, common_steps, at_field)

pub seven_fields : (fields : List (List ℕ)) (a b d e f g h : List ℕ) → length fields ≡ 7 → field_at fields 0 ≡ Some a
    → field_at fields 1 ≡ Some b → field_at fields 2 ≡ Some d → field_at fields 3 ≡ Some e
    → field_at fields 4 ≡ Some f → field_at fields 5 ≡ Some g → field_at fields 6 ≡ Some h → fields ≡ a ∷ b ∷ d ∷ e ∷ f ∷ g ∷ h ∷ []
seven_fields fields a b d e f g h n ea eb ed ee ef eg eh = grind (arith, common_steps, at_field)

-- a field that is there is found
there : (fields : List (List ℕ)) (i : ℕ) → i < length fields → field_at fields i ≡ None → ⊥
unfolding field_at
there [] i below e = omega arith
there (f ∷ fs) zero below e = absurd (cc)
there (f ∷ fs) (suc i) below e = there fs i (omega arith) e

pub missing : (fields : List (List ℕ)) (i : ℕ) (o : Option (Bor (List ℕ))) → i < length fields
    → option_map (λ (s : Bor (List ℕ)). s.now) o ≡ field_at fields i → o ≡ None → ⊥
missing fields i h1 below e none = grind (arith, common_steps, there)

pub only_there : (fields : List (List ℕ)) (o : Option (Bor (List ℕ))) → length fields ≡ 1
    → option_map (λ (s : Bor (List ℕ)). s.now) o ≡ field_at fields 0 → MatchOption o (length fields ≢ 1) (λ f. fields ≡ f.now ∷ [])
only_there fields None n e = absurd (missing fields 0 None (omega (arith, n)) e refl)
only_there fields (Some f) n e = one_field fields f.now n (sym e)

-- ---- headings

pub not_same : (fields others : List (List ℕ)) → length fields ≢ length others → are_fields fields others ≡ false
not_same [] [] n = absurd (n refl)
not_same [] (g ∷ gs) n = refl
not_same (f ∷ fs) [] n = refl
not_same (f ∷ fs) (g ∷ gs) n = grind (arith, common_steps, not_same fs gs (λ e. n (ap suc e)))

-- ---- numbers

numerals : IsNumeralModel (λ word. list_all is_ascii_digit word ≡ true) (digits_value 10)
numerals = grind (arith, common_steps, numerals_by_value)

pub text-of-digits : (word : List ℕ) → list_all is_ascii_digit word ≡ true → IsUtf8 word
text-of-digits word all = IsUtf8-from_ascii word (IsAscii-from_digits word (IsNumeralModel.to numerals word all))

module _ (word : List ℕ) (all : list_all is_ascii_digit word ≡ true) (short : length word ≤ 6) where
  read-yes : 0 < length word → number_of word ≡ Some (digits_value 10 word)
  read-yes some = grind (arith, nat_tests)

  fits : digits_value 10 word < 2 ^ 32
  fits = let small : digits_value 10 word < 10 ^ 6 = digits_value_short numerals word 6 all short in omega arith

  -- what `parse` gives of a few digits
  pub number_of-parsed : {E : Type 0} (r : Result ℕ E) → ParsesUnsigned 32 10 word r → result_ok r ≡ number_of word
  number_of-parsed {E} (Ok n) parsed = grind (arith, common_steps)
  number_of-parsed {E} (Err e) parsed = grind (arith, common_steps, fits, nat_tests, numerals, parse_digits)

-- the digits of a number are read as it
pub number_of-decimal : (n : ℕ) → n < 10 ^ 6 → number_of (decimal n) ≡ Some n
number_of-decimal n small =
    let some : 0 < length (decimal n) = decimal_nonempty n (omega arith) in
    let short : length (decimal n) ≤ 6 = length-decimal-le 6 n (omega arith) small (omega arith) in
    read-yes (decimal n) (digits_decimal numerals n (omega arith)) short some ∙ ap Some (digits_value-decimal numerals n (omega arith))

pub within-decimal : (low high n : ℕ) → n < 10 ^ 6 → low ≤ n → n ≤ high → number_within low high (decimal n) ≡ Some n
within-decimal low high n small above below = grind (arith, common_steps, nat_tests, number_of-decimal)
