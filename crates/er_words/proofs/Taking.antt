-- Words are there to be taken.
use Rattle.std.proofs.Common.{◌≡◌, ℕ, ◌≤◌, List, [], ◌∷◌, length, map, refl, arith}

-- words that are there
pub some_word : {S : Type 0} (text : S → List ℕ) (items : List S) → 1 ≤ length items
    → (word : List ℕ) × (rest : List (List ℕ)) × (map text items ≡ word ∷ rest)
some_word text [] is = absurd (omega (arith, is))
some_word text (item ∷ items) is = (text item, map text items, refl)
