-- What is true of every order and every legal pairing, and of the steps that a short order needs.
use Rattle.std.specs.Prelude.{◌≡◌, ◌≢◌, ℕ, ◌<◌, ◌≤◌, Bool, IsFalse, List, length, All, AllPairs, IsPermutation}
use Rattle.er_event.specs.Event.{EventValue}
use Rattle.er_event.specs.Sound.{IsSoundButForSeeds}
use Rattle.er_pair.specs.Order.{IsOrder}
use Rattle.er_pair.specs.Pairing.{Pair, first, second, positions, all_positions, entries, IsLegal, IsEarliest}
use Rattle.er_pair.specs.Steps.{Needs}

-- under given keys an event has at most one order
abbrev pub OneOrder : Type 0
OneOrder = (event : EventValue) (key : ℕ → ℕ) (order other : List ℕ)
    → IsOrder event key order → IsOrder event key other → order ≡ other

-- in an order of a sound event nobody stands twice, nor does the bye
abbrev pub StandOnce : Type 0
StandOnce = (event : EventValue) (key : ℕ → ℕ) (order : List ℕ)
    → IsSoundButForSeeds event → IsOrder event key order → AllPairs (λ p q. p ≢ q) order

-- an order has at most one earliest legal pairing
abbrev pub OneEarliest : Type 0
OneEarliest = (met : ℕ → ℕ → Bool) (order : List ℕ) (pairs other : List Pair)
    → IsEarliest met order pairs → IsEarliest met order other → pairs ≡ other

-- each entry sits once, no pair has met before, and the first of a pair stands before the second
pub record SeatsEach (met : ℕ → ℕ → Bool) (order : List ℕ) (pairs : List Pair) : Type 0 where
  pub each_once : IsPermutation order (positions (entries order pairs))
  pub new_opponents : All (λ (pair : Pair). IsFalse (met (first pair) (second pair))) (entries order pairs)
  pub in_order : All (λ (pair : Pair). first pair < second pair) pairs

abbrev pub LegalSeats : Type 0
LegalSeats = (met : ℕ → ℕ → Bool) (order : List ℕ) (pairs : List Pair)
    → IsLegal met order pairs → SeatsEach met order pairs

-- an order of up to 14 entries needs at most 325,767 steps, whoever has met
abbrev pub ShortNeeds : Type 0
ShortNeeds = (met : ℕ → ℕ → Bool) (order : List ℕ) (steps : ℕ)
    → length order ≤ 14 → Needs met order (all_positions order) steps → steps ≤ 325767
