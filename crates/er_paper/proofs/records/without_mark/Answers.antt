use Rattle.std.proofs.Common.{arith, ◌≡◌, ◌∙◌, ◌+◌, eqb, refl, true, false, Bor, List, [], ◌∷◌, ℕ}
use Rattle.std.proofs.Common.{Option, Some, None, drop, take, length}
use Rattle.std.proofs.lemmas.{Grind.common_steps, Bool.Decides.nat_tests}
use Rattle.std.specs.{Prelude.MatchOption, Option.unwrap_or, Cmp.Lexicographic.pointwise}
use Rattle.csv.specs.Reading.{strip_bom}
use Rattle.er_paper.proofs.records.without_mark.Goals as goal

abbrev mark : List ℕ
mark = 0xEF ∷ 0xBB ∷ 0xBF ∷ []

marked : (text : List ℕ) → pointwise eqb (take 3 text) mark ≡ true → drop 3 text ≡ strip_bom text
unfolding strip_bom
marked [] is = absurd (let never = is in cc)
marked (a ∷ []) is = absurd (let never = is in grind (arith, common_steps))
marked (a ∷ b ∷ []) is = absurd (let never = is in grind (arith, common_steps))
marked (a ∷ b ∷ c ∷ rest) is = grind (arith, common_steps, nat_tests)

plain : (text : List ℕ) → pointwise eqb (take 3 text) mark ≡ false → text ≡ strip_bom text
unfolding strip_bom
plain [] not = refl
plain (a ∷ []) not = refl
plain (a ∷ b ∷ []) not = refl
plain (a ∷ b ∷ c ∷ rest) not = grind (arith, common_steps, nat_tests)

by_mark : (text : Bor (List ℕ)) (found : Option (Bor (List ℕ)))
    → MatchOption found (pointwise eqb (take 3 text.now) mark ≡ false)
    (λ x. (pointwise eqb (take 3 text.now) mark ≡ true) × (x.now ≡ drop 3 text.now) × (length x.now + 3 ≡ length text.now))
    → (unwrap_or found text).now ≡ strip_bom text.now
by_mark text None other = plain text.now other
by_mark text (Some rest) (is, after, size) = after ∙ marked text.now is

pub returns : goal.returns
returns c = rw c.unwrap_or.ensures (by_mark c.args.bytes c.strip_prefix.result c.strip_prefix.ensures.cases)
