-- What the end of the search says of the order.
use Rattle.std.proofs.{lemmas.Grind.common_steps, Common.{◌≡◌, ℕ, ◌*◌, ◌%◌, ◌<◌, ◌≤◌, not, Bool, false, IsFalse, List, [], ◌∷◌, length}}
use Rattle.std.proofs.{Common.{All, AllPairs, Some, None, ap, ◌∙◌, arith}, lemmas.List.Elements.{All-nil, All-cons, All-head, All-tail}}
use Rattle.std.proofs.{lemmas.List.Elements.All-from_get_or, lemmas.List.FromFn.{length-range_with_len, get_or-range_with_len}}
use Rattle.std.proofs.lemmas.List.Sorted.{All-permutation}
use Rattle.std.specs.List.{range_with_len}
use Rattle.er_pair.specs.{declared.places.Cursor.Cursor, declared.places.Places.Places}
use Rattle.er_pair.specs.declared.search.Outcome.TheVariants.{Paired, DeadEnd}
use Rattle.er_pair.specs.{declared.pairings.TheConstants.MAX_STEPS, Pairing.{Pair, positions, all_positions, IsLegal, IsEarliest}}
use Rattle.er_pair.specs.{inside.Places.{has_place, ahead_of, row_at}, Steps.{NeedsMore, met_at}, inside.Search.{SearchAnswers, search_of}}
use Rattle.er_pair.specs.inside.Search.{free_ahead, answer_ahead}
use Rattle.er_pair.proofs.{Bounds.{search_of-short, search_of-fresh}, Entries.{search_of-agree, earliest_found, none_found, no_more_needed}}
use Rattle.er_pair.proofs.Passing.{passing-all}

-- ---- the search of rows by position

module _ (used : Places) (ahead : Cursor) (none : (p : ℕ) → has_place used p ≡ false)
    (all : (p : ℕ) → ahead_of used used ahead p ≡ not (has_place used p)) where
  -- before the search each position is free, and ahead
  all_free : (n : ℕ) → free_ahead used ahead n ≡ range_with_len 0 n
  unfolding free_ahead
  all_free n = passing-all (ahead_of used used ahead) 0 n (λ p. all p ∙ ap not (none p))

  pub as_long : (n : ℕ) → length (free_ahead used ahead n) ≡ n
  as_long n = ap length (all_free n) ∙ length-range_with_len 0 n

  -- and it is a search of the order
  pub of_order : (met : ℕ → ℕ → Bool) (order : List ℕ) (rows : List Places) → length rows ≡ length order
      → ((p q : ℕ) → p < length order → q < length order → has_place (row_at rows p) q ≡ met_at met order p q)
      → answer_ahead rows used ahead ≡ search_of (met_at met order) (all_positions order)
  of_order met order rows size same = grind (arith, common_steps, all_free, search_of-agree)

-- ---- what the answer says

module _ (met : ℕ → ℕ → Bool) (order : List ℕ) where
  abbrev IsPlace : ℕ → Type 0
  IsPlace n = n < length order

  abbrev ArePlaces : Pair → Type 0
  ArePlaces p = (p.0 < length order) × (p.1 < length order)

  by_two : (pairs : List Pair) → All IsPlace (positions pairs) → All ArePlaces pairs
  by_two [] all = All-nil ArePlaces
  by_two (p ∷ pairs) all =
      let more = All-tail IsPlace p.0 (p.1 ∷ positions pairs) all in
      All-cons ArePlaces p pairs
      (All-head IsPlace p.0 (p.1 ∷ positions pairs) all, All-head IsPlace p.1 (positions pairs) more)
      (by_two pairs (All-tail IsPlace p.1 (positions pairs) more))

  pub within_order : (pairs : List Pair) → IsLegal met order pairs → All (λ (p : Pair). (p.0 < length order) × (p.1 < length order)) pairs
  within_order pairs legal =
      let size = length-range_with_len 0 (length order) in
      let each = All-from_get_or IsPlace (all_positions order) 0
      (λ i below. omega (arith, get_or-range_with_len 0 (length order) i 0 (omega arith))) in
      by_two pairs (All-permutation IsPlace (all_positions order) (positions pairs) legal.each_once each)

  pub paired : (steps left : ℕ) (found : List Pair)
      → SearchAnswers (search_of (met_at met order) (all_positions order)) steps found left Paired
      → IsEarliest met order found × (NeedsMore met order steps → ⊥)
  paired steps left found answers = (earliest_found met order found answers.0, no_more_needed met order steps (omega (arith, answers.1)))

  pub unpaired : (steps left : ℕ) (found : List Pair)
      → SearchAnswers (search_of (met_at met order) (all_positions order)) steps found left DeadEnd
      → ((pairs : List Pair) → IsLegal met order pairs → ⊥) × (NeedsMore met order steps → ⊥)
  unpaired steps left found answers = (none_found met order answers.0, no_more_needed met order steps (omega (arith, answers.1)))

  pub short_within : MAX_STEPS < (search_of (met_at met order) (all_positions order)).1 → length order ≤ 14 → ⊥
  short_within more short = grind (arith, common_steps, length-range_with_len, search_of-short)

  -- if no two entries have met, no two positions have
  module _ (fresh : AllPairs (λ p q. IsFalse (met p q)) order) (even : length order % 2 ≡ 0) where
    fresh_search : ((pairs : List Pair) × ((search_of (met_at met order) (all_positions order)).0 ≡ Some pairs))
        × ((search_of (met_at met order) (all_positions order)).1 * 2 ≡ length order)
    fresh_search =
        let size = length-range_with_len 0 (length order) in
        let at = get_or-range_with_len 0 (length order) in
        let steps = search_of-fresh (met_at met order) (all_positions order) (omega arith) (λ i j d before within.
        let one = at i d (omega arith) in
        let two = at j d (omega arith) in
        let new = fresh i j 0 before (omega arith) in
        grind arith) in
        (steps.0, omega (arith, steps.1, size))

    pub fresh_within : MAX_STEPS < (search_of (met_at met order) (all_positions order)).1 → length order ≤ 512 → ⊥
    fresh_within more few = omega (arith, fresh_search.1)

    pub fresh_pairs : (search_of (met_at met order) (all_positions order)).0 ≡ None → ⊥
    fresh_pairs none = grind (arith, common_steps, fresh_search)
