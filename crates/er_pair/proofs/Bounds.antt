-- How many steps a search makes at most, and how many if nobody has met.
use Rattle.std.proofs.{lemmas.Grind.common_steps, Common.{◌≡◌, ℕ, zero, suc, ◌+◌, ◌*◌, ◌%◌, ◌≤◌, nat_lt, Bool, true, IsFalse, List, []}}
use Rattle.std.proofs.Common.{◌∷◌, ◌++◌, length, AllPairs, Option, Some, refl, ap, ◌∙◌, arith, append_assoc, not-suc-le-zero}
use Rattle.std.proofs.{lemmas.Bool.{agree_below_at, cond_both, cond-false}, lemmas.Bool.Decides.nat_tests}
use Rattle.er_pair.specs.{Pairing.Pair, inside.Search.{Answer, after_step, tries, search_of}}
use Rattle.er_pair.proofs.{Picking.{Picked, Picked-length}, Picking.Picked.{here, there}, Searching.{search_of-none, search_of-cons}}

-- each candidate costs at most one step and those of the others
abbrev most : ℕ → ℕ
most zero = 0
most (suc zero) = 0
most (suc (suc n)) = suc n * suc (most n)

after_step-most : (pair : Pair) (o : Option (List Pair)) (steps : ℕ) (later : Answer)
    → (after_step pair o steps later).1 ≤ suc (steps + later.1)
unfolding after_step
after_step-most pair h1 steps later = grind (arith, common_steps)

one_more : (s m l n k : ℕ) → s ≤ m → l ≤ n * suc m → k ≤ suc (s + l) → k ≤ suc n * suc m
one_more s m l n k a b c = omega arith

tries-most : (met : ℕ → ℕ → Bool) (others : List ℕ → Answer) (top first : ℕ) (passed left : List ℕ)
    → ((c : ℕ) (o : List ℕ) → Picked left c o → (others (passed ++ o)).1 ≤ top)
    → (tries met others first passed left).1 ≤ length left * suc top
unfolding tries
tries-most met others top first passed [] few = omega arith
tries-most met others top first passed (c ∷ left) few =
    let later = tries met others first (passed ++ c ∷ []) left in
    let over = tries-most met others top first (passed ++ c ∷ []) left
    (λ d o p. rw (append_assoc passed (c ∷ []) o) (few d (c ∷ o) (there p))) in
    let own = others (passed ++ left) in
    cond_both (met first c) later (after_step (first, c) own.0 own.1 later) (λ a. a.1 ≤ suc (length left) * suc top)
    (λ is. omega arith)
    (λ new. one_more own.1 top later.1 (length left) _ (few c left here) over (after_step-most (first, c) own.0 own.1 later))

search_of-most : (met : ℕ → ℕ → Bool) (bound : ℕ) (list : List ℕ) → length list ≤ bound → (search_of met list).1 ≤ most (length list)
search_of-most met bound [] short = rw (search_of-none met) (omega arith)
search_of-most met zero (first ∷ rest) short = absurd (not-suc-le-zero short)
search_of-most met (suc bound) (first ∷ []) short =
    rw (search_of-cons met first []) (tries-most met (search_of met) 0 first [] [] (λ c o p. elim p [ ]))
search_of-most met (suc bound) (first ∷ (c ∷ left)) short =
    rw (search_of-cons met first (c ∷ left)) (tries-most met (search_of met) (most (length left)) first [] (c ∷ left) (λ d o p.
    let size : length o ≡ length left = omega (arith, Picked-length p) in
    rw (← size) (search_of-most met bound o (omega arith))))

-- an order of at most 14 entries needs at most 325,767 steps
pub search_of-short : (met : ℕ → ℕ → Bool) (list : List ℕ) → length list ≤ 14 → (search_of met list).1 ≤ 325767
search_of-short met list short =
    let few = agree_below_at (λ n. nat_lt (most n) 325768) (λ n. true) 15 (length list) refl (omega arith) in
    let all = search_of-most met (length list) list (omega arith) in
    grind (arith, nat_tests)

-- if no two have met, each table takes one step
pub search_of-fresh : (met : ℕ → ℕ → Bool) (list : List ℕ) → length list % 2 ≡ 0 → AllPairs (λ p q. IsFalse (met p q)) list
    → ((pairs : List Pair) × ((search_of met list).0 ≡ Some pairs)) × ((search_of met list).1 * 2 ≡ length list)
unfolding tries after_step
search_of-fresh met [] even fresh = (([], rw (search_of-none met)), rw (search_of-none met))
search_of-fresh met (first ∷ []) even fresh = absurd (omega arith)
search_of-fresh met (first ∷ (c ∷ left)) even fresh =
    let rest = search_of-fresh met left (omega arith)
    (λ i j d before within. fresh (suc (suc i)) (suc (suc j)) d (omega arith) (omega arith)) in
    let inner = search_of met left in
    let later = tries met (search_of met) first (c ∷ []) left in
    let new : met first c ≡ _ = fresh 0 1 first (omega arith) (omega arith) in
    let is = search_of-cons met first (c ∷ left) ∙ cond-false (met first c) later (after_step (first, c) inner.0 inner.1 later) new
    ∙ ap (λ (o : Option (List Pair)). after_step (first, c) o inner.1 later) rest.0.1 in
    (((first, c) ∷ rest.0.0, rw is), rw is (omega (arith, rest.1)))
