-- The steps that a list of positions needs are those of its search.
use Rattle.std.proofs.{Common.{◌≡◌, inl, inr, ℕ, zero, suc, ◌+◌, ◌<◌, ◌≤◌, ◌==◌, nat_le, not, Bool, true, false}}
use Rattle.std.proofs.Common.{List, [], ◌∷◌, ◌++◌, length, filter, Contains, Option, Some, None, refl, sym, ap, subst, ◌∙◌, arith}
use Rattle.std.proofs.{Common.{append_assoc, not-suc-le-zero}, lemmas.Bool.{cond_both, cases_Bool}, lemmas.Bool.Decides.nat_tests}
use Rattle.std.proofs.lemmas.List.Sums.{sum_by-cons}
use Rattle.std.specs.List.{sum_by}
use Rattle.er_pair.specs.{Pairing.{Pair, IsLegalOf}, Steps.{met_at, candidates, AreTried, without, Needs}}
use Rattle.er_pair.specs.{Steps.AreTried.{up_to_partner, all}, inside.Search.{Answer, after_step, tries, search_of}}
use Rattle.er_pair.proofs.Picking.{In, Above, Rises, Above-In, In-from_Contains, Contains-from_In}
use Rattle.er_pair.proofs.{Searching.{search_of-none, search_of-cons}, Settling.{Outcome, settled}}
use Rattle.er_pair.specs.Steps.Needs.{empty, first_with}

-- ---- a list that rises, without one

Above-filter : (test : ℕ → Bool) (x : ℕ) (ys : List ℕ) → Above x ys → Above x (filter test ys)
Above-filter test x [] above = tt
Above-filter test x (y ∷ ys) above = elim (cases_Bool (test y)) [
  | inl kept ↦ rw kept (above.0, Above-filter test x ys above.1)
  | inr gone ↦ rw gone (Above-filter test x ys above.1)
]

Rises-filter : (test : ℕ → Bool) (xs : List ℕ) → Rises xs → Rises (filter test xs)
Rises-filter test [] rises = tt
Rises-filter test (x ∷ xs) rises = elim (cases_Bool (test x)) [
  | inl kept ↦ rw kept (Above-filter test x xs rises.0, Rises-filter test xs rises.1)
  | inr gone ↦ rw gone (Rises-filter test xs rises.1)
]

shorter : (test : ℕ → Bool) (xs : List ℕ) → length (filter test xs) ≤ length xs
shorter test [] = omega arith
shorter test (x ∷ xs) =
    let more = shorter test xs in
    elim (cases_Bool (test x)) [ inl kept ↦ rw kept (omega arith) | inr gone ↦ rw gone (omega arith) ]

without_above : (c : ℕ) (left : List ℕ) → Above c left → without c left ≡ left
without_above c [] above = refl
without_above c (x ∷ left) above = let more = without_above c left above.1 in let less = above.0 in grind (arith, nat_tests)

in_mid : (c : ℕ) (passed left : List ℕ) → In c (passed ++ c ∷ left)
in_mid c [] left = inl refl
in_mid c (x ∷ passed) left = inr (in_mid c passed left)

without_mid : (c : ℕ) (passed left : List ℕ) → Rises (passed ++ c ∷ left) → without c (passed ++ c ∷ left) ≡ passed ++ left
without_mid c [] left rises = let more = without_above c left rises.0 in grind (arith, nat_tests)
without_mid c (x ∷ passed) left rises =
    let more = without_mid c passed left rises.1 in
    let less : x < c = Above-In x (passed ++ c ∷ left) c rises.0 (in_mid c passed left) in
    grind (arith, nat_tests)

above_mid : (c : ℕ) (passed left : List ℕ) → Rises (passed ++ c ∷ left) → Above c left
above_mid c [] left rises = rises.0
above_mid c (x ∷ passed) left rises = above_mid c passed left rises.1

none_up_to : (c : ℕ) (test : ℕ → Bool) (left : List ℕ) → Above c left → filter (λ x. nat_le x c) (filter test left) ≡ []
none_up_to c test [] above = refl
none_up_to c test (x ∷ left) above =
    let more = none_up_to c test left above.1 in
    let less : c < x = above.0 in
    elim (cases_Bool (test x)) [ inl kept ↦ rw kept (grind (arith, nat_tests)) | inr gone ↦ rw gone more ]

-- ---- the sum over the candidates

module _ (t : ℕ → ℕ → Bool) (first : ℕ) (cost : ℕ → ℕ) where
  abbrev new_ones : List ℕ → List ℕ
  new_ones left = filter (λ c. not (t first c)) left

  -- the steps are those of the candidates up to the partner that was found, or of all
  abbrev pub Counts : List ℕ → Answer → Type 0
  Counts left (None, n) = n ≡ sum_by cost (new_ones left)
  Counts left (Some [], n) = ⊥
  Counts left (Some ((f, p) ∷ more), n) = (f ≡ first) × In p left × (n ≡ sum_by cost (filter (λ c. nat_le c p) (new_ones left)))

  Counts-met : (c : ℕ) (left : List ℕ) (later : Answer) → t first c ≡ true → Counts left later → Counts (c ∷ left) later
  Counts-met c left (None, n) met h = rw met h
  Counts-met c left (Some [], n) met h = h
  Counts-met c left (Some ((f, p) ∷ more), n) met h = (h.0, inr h.1, rw met h.2)

  Counts-new : (c : ℕ) (left : List ℕ) (own : Option (List Pair)) (inner : ℕ) (later : Answer) → t first c ≡ false → cost c ≡ suc inner
      → Above c left → Counts left later → Counts (c ∷ left) (after_step (first, c) own inner later)
  unfolding after_step
  Counts-new c left None inner (None, n) new is above h = rw new (omega (arith, sum_by-cons cost c (new_ones left), h))
  Counts-new c left None inner (Some [], n) new is above h = h
  Counts-new c left None inner (Some ((f, p) ∷ more), n) new is above h =
      let up_to = filter (λ x. nat_le x p) (new_ones left) in
      let less : c < p = Above-In c left p above h.1 in
      let kept : nat_le c p ≡ true = grind (arith, nat_tests) in
      (h.0, inr h.1, rw new (rw kept (omega (arith, sum_by-cons cost c up_to, h.2))))
  Counts-new c left (Some more) inner later new is above h =
      let kept : nat_le c c ≡ true = grind (arith, nat_tests) in
      let one = sum_by-cons cost c [] in
      (refl, inl refl, rw new (rw kept (rw (none_up_to c (λ x. not (t first x)) left above) (omega arith))))

  module _ (others : List ℕ → Answer) (list : List ℕ) (rises : Rises list)
      (costs : (c : ℕ) → cost c ≡ suc (others (without c list)).1) where
    counts : (passed left : List ℕ) → list ≡ passed ++ left → Counts left (tries t others first passed left)
    unfolding tries
    counts passed [] is = refl
    counts passed (c ∷ left) is =
        let later = tries t others first (passed ++ c ∷ []) left in
        let own = others (passed ++ left) in
        let all_rise = rw is at rises in
        let rest : without c list ≡ passed ++ left = ap (without c) is ∙ without_mid c passed left all_rise in
        let price : cost c ≡ suc own.1 = costs c ∙ ap (λ (l : List ℕ). suc (others l).1) rest in
        let over = counts (passed ++ c ∷ []) left (is ∙ sym (append_assoc passed (c ∷ []) left)) in
        cond_both (t first c) later (after_step (first, c) own.0 own.1 later) (Counts (c ∷ left))
        (λ met. Counts-met c left later met over)
        (λ new. Counts-new c left own.0 own.1 later new price (above_mid c passed left all_rise) over)

-- ---- what is tried

module _ (met : ℕ → ℕ → Bool) (order : List ℕ) where
  abbrev steps_without : List ℕ → ℕ → ℕ
  steps_without later c = (search_of (met_at met order) (without c later)).1

  abbrev Counted : ℕ → List ℕ → Answer → Type 0
  Counted first later answer = Counts (met_at met order) first (λ c. 1 + steps_without later c) later answer

  counted : (first : ℕ) (later : List ℕ) → Rises (first ∷ later) → Counted first later (search_of (met_at met order) (first ∷ later))
  counted first later rises =
      let t = met_at met order in
      rw (search_of-cons t first later)
      (counts t first (λ c. 1 + steps_without later c) (search_of t) later rises.1 (λ c. omega arith) [] later refl)

  tried_of : (first : ℕ) (later : List ℕ) (answer : Answer) → Outcome (IsLegalOf met order (first ∷ later)) answer.0
      → Counted first later answer → (tried : List ℕ) × AreTried met order first later tried
  tried_of first later (None, n) none h = (candidates met order first later, all none)
  tried_of first later (Some [], n) found h = absurd h
  tried_of first later (Some ((f, p) ∷ more), n) found h =
      let e = rw h.0 at found in
      (filter (λ c. nat_le c p) (candidates met order first later), up_to_partner (record { legal = e.is; none_earlier = e.none_earlier }))

  sum_is : (first : ℕ) (later tried : List ℕ) (answer : Answer) → Outcome (IsLegalOf met order (first ∷ later)) answer.0
      → Counted first later answer → AreTried met order first later tried
      → answer.1 ≡ sum_by (λ c. 1 + steps_without later c) tried
  sum_is first later tried (None, n) none h (all dead) = h
  sum_is first later tried (None, n) none h (up_to_partner e) = absurd (none _ e.legal)
  sum_is first later tried (Some [], n) found h are = absurd h
  sum_is first later tried (Some ((f, p) ∷ more), n) found h (all dead) = absurd (dead _ found.is)
  sum_is first later tried (Some ((f, p) ∷ more), n) found h (up_to_partner {partner = q} {more = rest} e) =
      elim (found.or_later ((first, q) ∷ rest) e.legal) [
        | inl same ↦ let own : p ≡ q = cc in rw (← own) h.2
        | inr earlier ↦ absurd (e.none_earlier _ found.is earlier)
      ]

  abbrev outcome : (free : List ℕ) → Rises free → Outcome (IsLegalOf met order free) (search_of (met_at met order) free).0
  outcome free rises = settled met order (length free) free (omega arith) rises

  -- ---- the steps

  pub needs_search : (bound : ℕ) (free : List ℕ) → length free ≤ bound → Rises free
      → Needs met order free (search_of (met_at met order) free).1
  needs_search bound [] short rises = rw (search_of-none (met_at met order)) empty
  needs_search zero (first ∷ later) short rises = absurd (not-suc-le-zero short)
  needs_search (suc bound) (first ∷ later) short rises =
      let answer = search_of (met_at met order) (first ∷ later) in
      let h = counted first later rises in
      let tried = tried_of first later answer (outcome (first ∷ later) rises) h in
      let is = sum_is first later tried.0 answer (outcome (first ∷ later) rises) h tried.1 in
      let other : ℕ → ℕ → Bool = λ c x. not (x == c) in
      subst (Needs met order (first ∷ later)) (sym is) (first_with (steps_without later) tried.1 (λ c among.
      needs_search bound (without c later) (omega (arith, shorter (other c) later)) (Rises-filter (other c) later rises.1)))

  sum-same : (one two : ℕ → ℕ) (tried : List ℕ) → ((c : ℕ) → Contains tried c → one c ≡ two c)
      → sum_by (λ c. 1 + one c) tried ≡ sum_by (λ c. 1 + two c) tried
  sum-same one two [] same = refl
  sum-same one two (c ∷ tried) same =
      let here = same c (Contains-from_In (c ∷ tried) c (inl refl)) in
      let more = sum-same one two tried (λ d among. same d (Contains-from_In (c ∷ tried) d (inr (In-from_Contains tried d among)))) in
      omega (arith, sum_by-cons (λ c. 1 + one c) c tried, sum_by-cons (λ c. 1 + two c) c tried)

  pub needs_are : (bound : ℕ) (free : List ℕ) (steps : ℕ) → length free ≤ bound → Rises free → Needs met order free steps
      → steps ≡ (search_of (met_at met order) free).1
  needs_are bound [] steps short rises empty = rw (search_of-none (met_at met order)) refl
  needs_are zero (first ∷ later) steps short rises h = absurd (not-suc-le-zero short)
  needs_are (suc bound) (first ∷ later) steps short rises (first_with {tried = tried} own are more) =
      let answer = search_of (met_at met order) (first ∷ later) in
      let is = sum_is first later tried answer (outcome (first ∷ later) rises) (counted first later rises) are in
      let other : ℕ → ℕ → Bool = λ c x. not (x == c) in
      let less : (c : ℕ) → length (without c later) ≤ bound = λ c. omega (arith, shorter (other c) later) in
      sum-same own (steps_without later) tried (λ c among.
      needs_are bound (without c later) (own c) (less c) (Rises-filter (other c) later rises.1) (more c among)) ∙ sym is
