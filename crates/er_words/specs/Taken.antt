-- Words are taken one after the other, from the first one after the subcommand's name on.
use Rattle.std.specs.Prelude.{◌≡◌, ◌⊎◌, ℕ, List, [], ◌∷◌, map, Option, Some, None, Result, MatchResult}
use Rattle.std.specs.Borrow.{Bor}
use Rattle.er_event.specs.declared.scores.Games.{Games}
use Rattle.er_words.specs.Kinds.{score_kinds, score_values, values_of}
use Rattle.er_words.specs.Faults.{values_fault}
use Rattle.er_words.specs.declared.usage.UsageFault.{UsageFault}
use Rattle.er_words.specs.declared.usage.UsageFault.TheVariants.{TooFew, TooMany}

-- the words that are lent
abbrev pub lent : Bor (List (Bor (List ℕ))) → List (List ℕ)
lent words = map (λ (word : Bor (List ℕ)). word.now) words.now

-- the first word is given with those after it, or there is none
abbrev pub TakesText : ℕ → List (List ℕ) → Result (Bor (List ℕ) × Bor (List (Bor (List ℕ)))) UsageFault → Type 0
TakesText place words result =
    MatchResult result (λ it. words ≡ it.0.now ∷ lent it.1) (λ fault. (words ≡ []) × (fault ≡ TooFew place))

-- the first word is read, and the value is given with the words after it; or there is none, or it has this fault
abbrev pub Takes : {V : Type 0} → (List ℕ → Option V) → UsageFault → ℕ → List (List ℕ)
    → Result (V × Bor (List (Bor (List ℕ)))) UsageFault → Type 0
Takes read bad place words result =
    MatchResult result
    (λ it. (word : List ℕ) × (words ≡ word ∷ lent it.1) × (read word ≡ Some it.0))
    (λ fault. ((words ≡ []) × (fault ≡ TooFew place))
    ⊎ ((word : List ℕ) × (rest : List (List ℕ)) × (words ≡ word ∷ rest) × (read word ≡ None) × (fault ≡ bad)))

-- there is no word, or one too many
abbrev pub Ends : ℕ → List (List ℕ) → Result (Unit {0}) UsageFault → Type 0
Ends place words result =
    MatchResult result (λ it. words ≡ [])
    (λ fault. (word : List ℕ) × (rest : List (List ℕ)) × (words ≡ word ∷ rest) × (fault ≡ TooMany place))

-- the last three words are read as games
abbrev pub ReadsScore : List (List ℕ) → Result Games UsageFault → Type 0
ReadsScore words result =
    MatchResult result (λ games. (values_of score_kinds words ≡ Some (score_values games)) × (values_fault score_kinds 4 words ≡ None))
    (λ fault. (values_of score_kinds words ≡ None) × (values_fault score_kinds 4 words ≡ Some fault))
