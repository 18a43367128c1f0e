-- What a few digits are.
use Rattle.std.proofs.{lemmas.Grind.common_steps, Common.{◌≡◌, ℕ, ◌^◌, ◌<◌, ◌≤◌, nat_le, Bool, true, false, List, [], ◌∷◌, length}}
use Rattle.std.proofs.Common.{Some, None, Result, Ok, Err, refl, sym, ap, ◌∙◌, arith, lt-ltb, le-leb, le-ltb, leb-true, leb-false}
use Rattle.std.proofs.lemmas.Str.Parse.{IsNumeralModel, numerals_by_value, parse_digits, digits_value_short}
use Rattle.std.specs.{Char.is_ascii_digit, List.list_all, Str.Parse.{digits_value, ParsesUnsigned}, Result.result_ok}
use Rattle.er_slips.specs.{declared.request.fields.TheConstants.MAX_BODY, declared.request.wanted.Fault.TheVariants.TooLarge}
use Rattle.er_slips.specs.Request.{path_number, length_of}

numerals : IsNumeralModel (λ word. list_all is_ascii_digit word ≡ true) (digits_value 10)
numerals = grind (arith, common_steps, numerals_by_value)

no-digits : (word : List ℕ) → (0 < length word → ⊥) → path_number word ≡ None
no-digits [] none = refl
no-digits (c ∷ cs) none = absurd (none (omega arith))

module _ (word : List ℕ) (all : list_all is_ascii_digit word ≡ true) where
  module _ (short : length word ≤ 3) where
    fits : digits_value 10 word < 2 ^ 16
    fits = let small : digits_value 10 word < 10 ^ 3 = digits_value_short numerals word 3 all short in omega arith

    some-digits : 0 < length word → path_number word ≡ Some (digits_value 10 word)
    some-digits some = rw (lt-ltb 0 (length word) some, le-leb (length word) 3 short, all) refl

    -- what `parse` gives of at most three digits
    pub number_of-parsed : {E : Type 0} (r : Result ℕ E) → ParsesUnsigned 16 10 word r → result_ok r ≡ path_number word
    number_of-parsed {E} (Ok n) parsed =
        let told = parse_digits numerals {E = E} 16 word (Ok n) parsed all in ap Some told.1 ∙ sym (some-digits told.0.0)
    number_of-parsed {E} (Err e) parsed =
        let told = parse_digits numerals {E = E} 16 word (Err e) parsed all in sym (no-digits word (λ some. told (some, fits)))

  module _ (some : 0 < length word) where
    small : digits_value 10 word ≤ MAX_BODY → length_of word ≡ Ok (digits_value 10 word)
    small low = rw (lt-ltb 0 (length word) some, all, le-ltb MAX_BODY (digits_value 10 word) low) refl

    large : MAX_BODY < digits_value 10 word → length_of word ≡ Err TooLarge
    large past = rw (lt-ltb 0 (length word) some, all, lt-ltb MAX_BODY (digits_value 10 word) past) refl

    -- what `parse` gives of any number of digits
    pub length_of-read : {E : Type 0} (r : Result ℕ E) → ParsesUnsigned 64 10 word r → (n : ℕ) → r ≡ Ok n → n ≤ MAX_BODY
        → length_of word ≡ Ok n
    length_of-read {E} r parsed n e low =
        let told = rw e at (parse_digits numerals {E = E} 64 word r parsed all) in
        small (omega (arith, told.1, low)) ∙ ap Ok (sym told.1)

    pub length_of-large : {E : Type 0} (r : Result ℕ E) → ParsesUnsigned 64 10 word r → ((n : ℕ) → r ≡ Ok n → MAX_BODY < n)
        → length_of word ≡ Err TooLarge
    length_of-large {E} (Ok m) parsed past =
        let told = parse_digits numerals {E = E} 64 word (Ok m) parsed all in large (omega (arith, told.1, past m refl))
    length_of-large {E} (Err f) parsed past = by-size (nat_le (digits_value 10 word) MAX_BODY) refl
      where
        by-size : (b : Bool) → nat_le (digits_value 10 word) MAX_BODY ≡ b → length_of word ≡ Err TooLarge
        by-size true is =
            let low = leb-true (digits_value 10 word) MAX_BODY is in
            absurd (parse_digits numerals {E = E} 64 word (Err f) parsed all (some, omega (arith, low)))
        by-size false is = large (leb-false (digits_value 10 word) MAX_BODY is)
