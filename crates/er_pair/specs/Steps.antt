-- How many candidates a search for the earliest pairing looks at.
use Rattle.std.specs.Prelude.{ℕ, zero, ◌+◌, ◌<◌, ◌==◌, nat_le, Bool, not, List, [], ◌∷◌, filter, sum_by, Contains, slice_index}
use Rattle.er_pair.specs.Pairing.{Pair, IsLegalOf, IsEarliestOf, all_positions}

abbrev pub met_at : (ℕ → ℕ → Bool) → List ℕ → ℕ → ℕ → Bool
met_at met order p q = met (slice_index order p) (slice_index order q)

-- the later positions that the first hasn't met
abbrev pub candidates : (ℕ → ℕ → Bool) → List ℕ → ℕ → List ℕ → List ℕ
candidates met order first later = filter (λ other. not (met_at met order first other)) later

-- the candidates that are tried: those up to the first one's partner in the earliest legal pairing, and all if none is legal
pub data AreTried (met : ℕ → ℕ → Bool) (order : List ℕ) (first : ℕ) (later : List ℕ) : List ℕ → Type 0 where
  up_to_partner : {partner : ℕ} {more : List Pair} → IsEarliestOf met order (first ∷ later) ((first, partner) ∷ more)
      → AreTried met order first later (filter (λ other. nat_le other partner) (candidates met order first later))
  all : ((pairs : List Pair) → IsLegalOf met order (first ∷ later) pairs → ⊥)
      → AreTried met order first later (candidates met order first later)

abbrev pub without : ℕ → List ℕ → List ℕ
without position positions = filter (λ other. not (other == position)) positions

-- the steps that a list of positions needs: for each candidate that is tried, one, and those of the list without the two
pub data Needs (met : ℕ → ℕ → Bool) (order : List ℕ) : List ℕ → ℕ → Type 0 where
  empty : Needs met order [] zero
  first_with : {first : ℕ} {later tried : List ℕ} (steps : ℕ → ℕ) → AreTried met order first later tried
      → ((candidate : ℕ) → Contains tried candidate → Needs met order (without candidate later) (steps candidate))
      → Needs met order (first ∷ later) (sum_by (λ candidate. 1 + steps candidate) tried)

-- the order needs more steps than the budget
abbrev pub NeedsMore : (ℕ → ℕ → Bool) → List ℕ → ℕ → Type 0
NeedsMore met order budget = (steps : ℕ) × Needs met order (all_positions order) steps × (budget < steps)
