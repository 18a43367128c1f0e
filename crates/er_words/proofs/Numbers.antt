-- The number that `parse` gives of digits.
use Rattle.std.proofs.{lemmas.Grind.common_steps, Common.{◌≡◌, ℕ, ◌^◌, true, List, Result, Ok, Err, arith}}
use Rattle.std.proofs.{lemmas.Bool.Decides.nat_tests, lemmas.Str.Parse.{IsNumeralModel, numerals_by_value, parse_digits}}
use Rattle.std.specs.{Char.is_ascii_digit, List.list_all, Str.Parse.{digits_value, ParsesUnsigned}, Result.result_ok}
use Rattle.er_words.specs.Values.{number_below}

numerals : IsNumeralModel (λ word. list_all is_ascii_digit word ≡ true) (digits_value 10)
numerals = grind (arith, common_steps, numerals_by_value)

module _ (bits limit : ℕ) (is_limit : 2 ^ bits ≡ limit) (word : List ℕ) (all : list_all is_ascii_digit word ≡ true) where
  -- what `parse` gives of digits
  pub number_of-parsed : {E : Type 0} (r : Result ℕ E) → ParsesUnsigned bits 10 word r → result_ok r ≡ number_below limit word
  number_of-parsed {E} (Ok n) parsed = grind (arith, common_steps)
  number_of-parsed {E} (Err e) parsed = grind (arith, common_steps, nat_tests, numerals, parse_digits)
