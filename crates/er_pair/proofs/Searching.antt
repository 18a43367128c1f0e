-- The search as a function of what is left to pair, which needs no bound.
use Rattle.std.proofs.{lemmas.Grind.common_steps, Common.{◌≡◌, ℕ, zero, suc, ◌≤◌, Bool, List, [], ◌∷◌, ◌++◌, length, Some, refl, sym, ◌∙◌}}
use Rattle.std.proofs.Common.{arith, append_assoc, not-suc-le-zero}
use Rattle.er_pair.specs.inside.Search.{Answer, tries, search_within, search_of}
use Rattle.er_pair.proofs.{Picking.{Picked, Picked-length}, Picking.Picked.{here, there}}

-- only the candidates that are left are tested, and only the lists without one are searched
pub tries-same : (one two : ℕ → ℕ → Bool) (these those : List ℕ → Answer) (first : ℕ) (passed left : List ℕ)
    → ((c : ℕ) (o : List ℕ) → Picked left c o → (one first c ≡ two first c) × (these (passed ++ o) ≡ those (passed ++ o)))
    → tries one these first passed left ≡ tries two those first passed left
unfolding tries
tries-same one two these those first passed [] same = refl
tries-same one two these those first passed (c ∷ left) same =
    let own = same c left here in
    let over = tries-same one two these those first (passed ++ c ∷ []) left (λ d o p.
    let later = same d (c ∷ o) (there p) in
    (later.0, rw (append_assoc passed (c ∷ []) o) later.1)) in
    cc

search_within-none : (met : ℕ → ℕ → Bool) (bound : ℕ) → search_within met bound [] ≡ (Some [], zero)
unfolding search_within
search_within-none met h1 = grind (arith, common_steps)

-- a greater bound changes nothing
search_within-same : (met : ℕ → ℕ → Bool) (one two : ℕ) (list : List ℕ) → length list ≤ one → length list ≤ two
    → search_within met one list ≡ search_within met two list
unfolding search_within
search_within-same met one two [] a b = search_within-none met one ∙ sym (search_within-none met two)
search_within-same met zero two (first ∷ rest) a b = absurd (not-suc-le-zero a)
search_within-same met (suc one) zero (first ∷ rest) a b = absurd (not-suc-le-zero b)
search_within-same met (suc one) (suc two) (first ∷ rest) a b =
    tries-same met met (search_within met one) (search_within met two) first [] rest (λ c o p.
    let size = Picked-length p in
    (refl, search_within-same met one two o (omega arith) (omega arith)))

pub search_of-none : (met : ℕ → ℕ → Bool) → search_of met [] ≡ (Some [], zero)
unfolding search_of search_within
search_of-none met = refl

pub search_of-cons : (met : ℕ → ℕ → Bool) (first : ℕ) (rest : List ℕ)
    → search_of met (first ∷ rest) ≡ tries met (search_of met) first [] rest
unfolding search_of search_within
search_of-cons met first rest = tries-same met met (search_within met (length rest)) (search_of met) first [] rest (λ c o p.
    let size = Picked-length p in
    (refl, search_within-same met (length rest) (length o) o (omega arith) (omega arith)))
