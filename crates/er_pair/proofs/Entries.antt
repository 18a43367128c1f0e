-- The search of an order's positions, and what it says of the order.
use Rattle.std.proofs.{lemmas.Grind.common_steps, Common.{◌≡◌, inl, inr, ℕ, zero, suc, ◌+◌, ◌<◌, ◌≤◌, Bool, List, [], ◌∷◌, length, map}}
use Rattle.std.proofs.Common.{Option, Some, None, refl, sym, ◌∙◌, subst, arith, slice_index, get_or, not-suc-le-zero}
use Rattle.std.proofs.lemmas.List.FromFn.{length-range_with_len}
use Rattle.std.specs.List.{range_with_len}
use Rattle.er_pair.specs.{Pairing.{Pair, IsLegal, IsEarliest, all_positions}, Steps.{met_at, Needs, NeedsMore}, inside.Search.search_of}
use Rattle.er_pair.proofs.{Picking.{In, Picked-In, Picked-kept, Picked-length, Rises-range, In-range}, Searching.tries-same}
use Rattle.er_pair.proofs.{Searching.{search_of-none, search_of-cons}, Bounds.search_of-short, Settling.{Outcome, Settled, settled}}
use Rattle.er_pair.proofs.Needing.{needs_search, needs_are}

-- the entries at a run of places from a on
map-range : (xs : List ℕ) (passed : ℕ) (f : ℕ → ℕ) → ((k : ℕ) → k < length xs → f (passed + k) ≡ get_or xs k 0)
    → map f (range_with_len passed (length xs)) ≡ xs
map-range [] passed f is = refl
map-range (x ∷ xs) passed f is =
    let head = is 0 (omega arith) in
    let rest = map-range xs (passed + 1) f (λ k below. let next = is (suc k) (omega arith) in grind arith) in
    grind arith

pub entries_at_places : (order : List ℕ) → map (slice_index order) (all_positions order) ≡ order
entries_at_places order = map-range order 0 (slice_index order) (λ k below. grind arith)

-- ---- searches that agree on whom the positions have met

search-agree : (one two : ℕ → ℕ → Bool) (n : ℕ) → ((p q : ℕ) → p < n → q < n → one p q ≡ two p q) → (bound : ℕ) (list : List ℕ)
    → length list ≤ bound → ((x : ℕ) → In x list → x < n) → search_of one list ≡ search_of two list
search-agree one two n agree bound [] short small = search_of-none one ∙ sym (search_of-none two)
search-agree one two n agree zero (first ∷ rest) short small = absurd (not-suc-le-zero short)
search-agree one two n agree (suc bound) (first ∷ rest) short small =
    search_of-cons one first rest
    ∙ (tries-same one two (search_of one) (search_of two) first [] rest (λ c o p. (
      agree first c (small first (inl refl)) (small c (inr (Picked-In p))),
      search-agree one two n agree bound o
          (omega (arith, Picked-length p)) (λ x found. small x (inr (Picked-kept x p found))),
    ))
    ∙ sym (search_of-cons two first rest))

pub search_of-agree : (one two : ℕ → ℕ → Bool) (order : List ℕ)
    → ((p q : ℕ) → p < length order → q < length order → one p q ≡ two p q)
    → search_of one (all_positions order) ≡ search_of two (all_positions order)
search_of-agree one two order agree = search-agree one two (length order) agree (length (all_positions order)) (all_positions order)
    (omega arith) (λ x found. omega (arith, In-range x 0 (length order) found))

-- ---- the search of the order's positions

module _ (met : ℕ → ℕ → Bool) (order : List ℕ) where
  search-settled : Settled met order (all_positions order) (search_of (met_at met order) (all_positions order))
  search-settled = settled met order (length (all_positions order)) (all_positions order) (omega arith) (Rises-range 0 (length order))

  -- the pairs that it finds are the earliest pairing
  pub earliest_found : (found : List Pair) → (search_of (met_at met order) (all_positions order)).0 ≡ Some found
      → IsEarliest met order found
  earliest_found found is = grind (arith, common_steps, search-settled)

  -- if it finds none, there is none
  pub none_found : (search_of (met_at met order) (all_positions order)).0 ≡ None → (pairs : List Pair) → IsLegal met order pairs → ⊥
  none_found is = subst (Outcome (IsLegal met order)) is search-settled

  -- so there is one earliest pairing
  pub one_earliest : (one other : List Pair) → IsEarliest met order one → IsEarliest met order other → one ≡ other
  one_earliest one other earliest also = by_outcome (search_of (met_at met order) (all_positions order)).0 search-settled
    where
      by_outcome : (answer : Option (List Pair)) → Outcome (IsLegal met order) answer → one ≡ other
      by_outcome h1 none = grind (arith, common_steps)

  -- and the order needs just the steps that it makes
  pub needs_steps : (steps : ℕ) → Needs met order (all_positions order) steps
      → steps ≡ (search_of (met_at met order) (all_positions order)).1
  needs_steps steps needs = needs_are met order (length (all_positions order)) (all_positions order) steps (omega arith)
      (Rises-range 0 (length order)) needs

  needs_search_of : Needs met order (all_positions order) (search_of (met_at met order) (all_positions order)).1
  needs_search_of = needs_search met order (length (all_positions order)) (all_positions order) (omega arith)
      (Rises-range 0 (length order))

  pub more_needed : (budget : ℕ) → budget < (search_of (met_at met order) (all_positions order)).1 → NeedsMore met order budget
  more_needed budget less = ((search_of (met_at met order) (all_positions order)).1, needs_search_of, less)

  pub no_more_needed : (budget : ℕ) → (search_of (met_at met order) (all_positions order)).1 ≤ budget → NeedsMore met order budget → ⊥
  no_more_needed budget within more = omega (arith, needs_steps more.0 more.1, more.2)

  -- a short order needs few steps
  pub short_needs : (steps : ℕ) → length order ≤ 14 → Needs met order (all_positions order) steps → steps ≤ 325767
  short_needs steps short needs = grind (arith, common_steps, length-range_with_len, needs_steps, search_of-short)
