use Rattle.std.proofs.Common.{◌≡◌, ℕ, List, ◌∷◌, Bor, map, take, codes}
use Rattle.er_words.proofs.fields.words_of.Given as goal

abbrev pub invariant-loop-value : goal.invariant-loop-value
invariant-loop-value l = map (λ (word : Bor (List ℕ)). word.now) l.words.items ≡ l.name ∷ codes "script" ∷ map
    (λ (value : Bor (List ℕ)). value.now) (take l.value-index l.values)
