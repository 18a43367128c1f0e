-- A seed, as the crate `hex` decodes it.
use Rattle.std.proofs.{lemmas.Grind.common_steps, Common.{◌≡◌, ℕ, ◌+◌, ◌*◌, ◌%◌, Bool, true, false, ◌&&◌, cond, List, [], ◌∷◌, length}}
use Rattle.std.proofs.{Common.{Option, Some, None, Result, Ok, Err, refl, sym, ap, ◌∙◌, inl, inr, arith}, lemmas.Bool.cases_eq}
use Rattle.std.proofs.lemmas.Bool.Decides.{nat_tests}
use Rattle.std.specs.{Char.{is_ascii_hexdigit, digit_value}, List.list_all, Result.result_ok}
use Rattle.hex.specs.{Hex.{decode_pairs, decode_sized, hex_digit_value, digit_or_error, ◌>>=◌}, declared.error.FromHexError.FromHexError}
use Rattle.hex.proofs.{Pairs.decode_sized-pairs, HexLemmas.{decode_sized-odd, decode_sized-other}}
use Rattle.er_words.specs.Values.{hex_bytes, seed_of}

-- a digit has its value in either reading
hex_digit_value-is : (c : ℕ) → hex_digit_value c ≡ cond (is_ascii_hexdigit c) (Some (digit_value c)) None
hex_digit_value-is c = grind (arith, nat_tests)

-- the value of a byte's two digits, and the bytes after it
abbrev decoded : ℕ → ℕ → ℕ → Option ℕ → Option ℕ → Result (List ℕ) FromHexError → Result (List ℕ) FromHexError
decoded i a b high low rest = (digit_or_error a i high >>= (λ h. digit_or_error b (i + 1) low >>= (λ l. Ok (h * 16 + l)))) >>=
    (λ byte. rest >>= (λ bytes. Ok (byte ∷ bytes)))

two_digits : (i a b va vb : ℕ) (x y all : Bool) (rest : Result (List ℕ) FromHexError) (bytes : List ℕ)
    → result_ok rest ≡ cond all (Some bytes) None
    → result_ok (decoded i a b (cond x (Some va) None) (cond y (Some vb) None) rest) ≡ cond (x && (y && all))
    (Some ((16 * va + vb) ∷ bytes)) None
two_digits i a b va vb false y all rest bytes is = refl
two_digits i a b va vb true false all rest bytes is = refl
two_digits i a b va vb true true true (Ok found) bytes is = grind (arith, common_steps)
two_digits i a b va vb true true false (Ok found) bytes is = absurd (cc is)
two_digits i a b va vb true true true (Err e) bytes is = absurd (cc is)
two_digits i a b va vb true true false (Err e) bytes is = refl

decode_pairs-is : (i : ℕ) (s : List ℕ) → length s % 2 ≡ 0
    → result_ok (decode_pairs i s) ≡ cond (list_all is_ascii_hexdigit s) (Some (hex_bytes s)) None
unfolding decode_pairs
decode_pairs-is i [] even = refl
decode_pairs-is i (a ∷ []) even = absurd (omega arith)
decode_pairs-is i (a ∷ b ∷ rest) even =
    rw (hex_digit_value-is a, hex_digit_value-is b)
    (two_digits i a b (digit_value a) (digit_value b) (is_ascii_hexdigit a) (is_ascii_hexdigit b) (list_all is_ascii_hexdigit rest)
    (decode_pairs (i + 2) rest) (hex_bytes rest) (decode_pairs-is (i + 2) rest (omega arith)))

seed_of-long : (word : List ℕ) → length word ≡ 64 → seed_of word ≡ cond (list_all is_ascii_hexdigit word) (Some (hex_bytes word)) None
unfolding seed_of
seed_of-long word long = rw long refl

seed_of-other : (word : List ℕ) → ¬ (length word ≡ 64) → seed_of word ≡ None
unfolding seed_of
seed_of-other word other = grind (arith, nat_tests)

-- what decodes into 32 bytes is a seed
pub seed_of-decoded : (word : List ℕ) → result_ok (decode_sized word 32) ≡ seed_of word
seed_of-decoded word =
    elim (cases_eq (length word) 64) [
      | inl long ↦
          let even : length word % 2 ≡ 0 = omega arith in
          ap result_ok (decode_sized-pairs word 32 even (omega arith)) ∙ (decode_pairs-is 0 word even ∙ sym (seed_of-long word long))
      | inr other ↦
          elim (cases_eq (length word % 2) 1) [
            | inl odd ↦ ap result_ok (decode_sized-odd word 32 odd) ∙ sym (seed_of-other word other)
            | inr even ↦ ap result_ok (decode_sized-other word 32 (omega arith) (λ half. other (omega arith)))
                ∙ sym (seed_of-other word other)
          ]
    ]
