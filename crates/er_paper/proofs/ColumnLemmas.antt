-- What a number with a width writes, and texts that are written piece by piece.
use Rattle.std.proofs.{lemmas.Grind.common_steps, Common.{◌≡◌, ℕ, List, ◌++◌, refl, ◌∙◌, ap, arith, decimal}, Padding.padded_integral_right}
use Rattle.std.proofs.Padding.{padded_integral_zeros}
use Rattle.std.specs.Fmt.{styled_decimal, format_spec}
use Rattle.er_paper.specs.Column.{right_aligned, two_digits}

-- `{:>4}` and `{:>3}`
pub right_4 : (n : ℕ) → styled_decimal (format_spec 32 3 0 4 18446744073709551615) n ≡ right_aligned 4 n
right_4 n = grind (arith, common_steps, padded_integral_right)

pub right_3 : (n : ℕ) → styled_decimal (format_spec 32 3 0 3 18446744073709551615) n ≡ right_aligned 3 n
right_3 n = grind (arith, common_steps, padded_integral_right)

-- `{:02}`
pub two_digits_is : (n : ℕ) → styled_decimal (format_spec 32 0 4 2 18446744073709551615) n ≡ two_digits n
two_digits_is n = padded_integral_zeros (format_spec 32 0 4 2 18446744073709551615) (decimal n) refl refl

-- the same of the options of a hole
module _ {S : Type 0} (f : S → ℕ → List ℕ) (s t : S) (is : s ≡ t) where
  pub at_hole : (g : ℕ → List ℕ) → ((n : ℕ) → f t n ≡ g n) → (n : ℕ) → f s n ≡ g n
  at_hole g e n = ap (λ o. f o n) is ∙ e n

-- three pieces, and five
pub three_pieces : (t a b c x y z : List ℕ) → a ≡ t ++ x → b ≡ a ++ y → c ≡ b ++ z → c ≡ t ++ (x ++ (y ++ z))
three_pieces t a b c x y z first second third = grind (arith, common_steps)

pub five_pieces : (t a b c d e x y z u v : List ℕ) → a ≡ t ++ x → b ≡ a ++ y → c ≡ b ++ z → d ≡ c ++ u → e ≡ d ++ v
    → e ≡ t ++ (x ++ (y ++ (z ++ (u ++ v))))
five_pieces t a b c d e x y z u v first second third fourth fifth = grind (arith, common_steps)
