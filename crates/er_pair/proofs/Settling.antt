-- What the search answers is the earliest legal pairing of the free positions, or that there is none.
use Rattle.std.proofs.{lemmas.Grind.common_steps, Common.{◌≡◌, ◌⊎◌, inl, inr, ℕ, zero, suc, ◌<◌, ◌≤◌, Bool, false, List, [], ◌∷◌, ◌++◌}}
use Rattle.std.proofs.Common.{length, Some, None, Option, MatchOption, refl, sym, ap, ◌∙◌, arith, append_assoc, not-suc-le-zero}
use Rattle.std.proofs.lemmas.Bool.{true≢false, cond_both}
use Rattle.er_pair.specs.{Pairing.{Pair, IsLegalOf, IsEarlier}, Steps.met_at, inside.Search.{Answer, after_step, tries, search_of}}
use Rattle.er_pair.proofs.{Picking.{Rises, Picked, Above-In, Picked-In, Picked-Rises, Picked-length}, Picking.Picked.{here, there}}
use Rattle.er_pair.proofs.{Opening.{Opens, opens, closes, legal_none, none_legal}, Opening.Opens.opened, Searching.search_of-none}
use Rattle.er_pair.proofs.Searching.{search_of-cons}

-- ---- the first of some pairings

-- of these pairings no other is earlier, and each other is later
pub record IsFirst (These : List Pair → Type 0) (pairs : List Pair) : Type 0 where
  pub is : These pairs
  pub none_earlier : (other : List Pair) → These other → IsEarlier other pairs → ⊥
  pub or_later : (other : List Pair) → These other → (pairs ≡ other) ⊎ IsEarlier pairs other

-- the first of them, or that there is none
abbrev pub Outcome : (List Pair → Type 0) → Option (List Pair) → Type 0
Outcome These answer = MatchOption answer ((pairs : List Pair) → These pairs → ⊥) (IsFirst These)

-- if the pairings are the same, so is their first
Outcome-same : (These Those : List Pair → Type 0) → ((pairs : List Pair) → These pairs → Those pairs)
    → ((pairs : List Pair) → Those pairs → These pairs) → (answer : Option (List Pair)) → Outcome These answer → Outcome Those answer
Outcome-same h1 h2 to from h3 none = grind (arith, common_steps)

earlier_on : (pair : Pair) (one other : List Pair) → IsEarlier one other → IsEarlier (pair ∷ one) (pair ∷ other)
earlier_on pair one other e = record {
  at = suc e.at;
  of_one = e.of_one;
  of_other = e.of_other;
  same_before = ap (λ (l : List Pair). pair ∷ l) e.same_before;
  here = e.here;
  smaller = e.smaller;
}

here_first : (first a b : ℕ) (one other : List Pair) → a < b → IsEarlier ((first, a) ∷ one) ((first, b) ∷ other)
here_first first a b one other less = record {
  at = 0;
  of_one = (first, a);
  of_other = (first, b);
  same_before = refl;
  here = (refl, refl);
  smaller = less;
}

-- what is earlier has a smaller partner in the first pair, or the same one there and is earlier in the others
earlier_off : (first a b : ℕ) (one other : List Pair) → IsEarlier ((first, a) ∷ one) ((first, b) ∷ other)
    → (a < b) ⊎ ((a ≡ b) × IsEarlier one other)
earlier_off first a b one other e = grind (arith, common_steps)

-- ---- of the pairings of a first position

module _ (met : ℕ → ℕ → Bool) (order : List ℕ) where
  -- the free positions can be paired
  abbrev CanPair : List ℕ → Type 0
  CanPair free = (pairs : List Pair) × IsLegalOf met order free pairs

  -- a candidate that goes over to those passed
  over : (first c : ℕ) (passed left : List ℕ) {pairs : List Pair}
      → Opens met order first (passed ++ c ∷ []) left pairs → Opens met order first passed (c ∷ left) pairs
  over first c passed left (opened {others = o} p new legal) = opened (there p) new (rw (← append_assoc passed (c ∷ []) o) legal)

  back : (first c : ℕ) (passed left : List ℕ) {pairs : List Pair}
      → (met_at met order first c ≡ false → CanPair (passed ++ left) → ⊥)
      → Opens met order first passed (c ∷ left) pairs → Opens met order first (passed ++ c ∷ []) left pairs
  back first c passed left none (opened {more = more} here new legal) = absurd (none new (more, legal))
  back first c passed left none (opened (there {others = o} p) new legal) = opened p new (rw (append_assoc passed (c ∷ []) o) legal)

  Outcome-over : (first c : ℕ) (passed left : List ℕ) (answer : Option (List Pair))
      → (met_at met order first c ≡ false → CanPair (passed ++ left) → ⊥)
      → Outcome (Opens met order first (passed ++ c ∷ []) left) answer → Outcome (Opens met order first passed (c ∷ left)) answer
  Outcome-over first c passed left answer none =
      Outcome-same (Opens met order first (passed ++ c ∷ []) left) (Opens met order first passed (c ∷ left))
      (λ pairs. over first c passed left) (λ pairs. back first c passed left none) answer

  module _ (first c : ℕ) (passed left : List ℕ) (more : List Pair) (rises : Rises (c ∷ left))
      (h : IsFirst (IsLegalOf met order (passed ++ left)) more) where
    not_before : {other : List Pair} → Opens met order first passed (c ∷ left) other → IsEarlier other ((first, c) ∷ more) → ⊥
    not_before (opened {more = m} here new legal) e = elim (earlier_off first c c m more e) [
      | inl less ↦ omega arith
      | inr later ↦ h.none_earlier m legal later.1
    ]
    not_before (opened {candidate = d} {more = m} (there p) new legal) e =
        let above = Above-In c left d rises.0 (Picked-In p) in
        elim (earlier_off first d c m more e) [ inl less ↦ omega arith | inr later ↦ omega (arith, later.0) ]

    here_or_later : {other : List Pair} → Opens met order first passed (c ∷ left) other
        → ((first, c) ∷ more ≡ other) ⊎ IsEarlier ((first, c) ∷ more) other
    here_or_later (opened {more = m} here new legal) = elim (h.or_later m legal) [
      | inl same ↦ inl (ap (λ (l : List Pair). (first, c) ∷ l) same)
      | inr later ↦ inr (earlier_on (first, c) more m later)
    ]
    here_or_later (opened {candidate = d} {more = m} (there p) new legal) =
        inr (here_first first c d more m (Above-In c left d rises.0 (Picked-In p)))

    -- the first candidate that leaves others that can be paired, with their first pairing
    first_here : met_at met order first c ≡ false → IsFirst (Opens met order first passed (c ∷ left)) ((first, c) ∷ more)
    first_here new = record {
      is = opened here new h.is;
      none_earlier = λ other. not_before;
      or_later = λ other. here_or_later;
    }

  -- ---- the search

  abbrev pub Settled : List ℕ → Answer → Type 0
  Settled free answer = Outcome (IsLegalOf met order free) answer.0

  abbrev Tried : ℕ → List ℕ → List ℕ → Answer → Type 0
  Tried first passed left answer = Outcome (Opens met order first passed left) answer.0

  Tried-new : (first c : ℕ) (passed left : List ℕ) (own : Option (List Pair)) (inner : ℕ) (later : Answer) → Rises (c ∷ left)
      → met_at met order first c ≡ false → Settled (passed ++ left) (own, inner) → Tried first (passed ++ c ∷ []) left later
      → Tried first passed (c ∷ left) (after_step (first, c) own inner later)
  unfolding after_step
  Tried-new first c passed left None inner later rises new dead h =
      let none : CanPair (passed ++ left) → ⊥ = λ can. dead can.0 can.1 in
      Outcome-over first c passed left later.0 (λ _. none) h
  Tried-new first c passed left (Some more) inner later rises new found h =
      first_here first c passed left more rises found new

  none_open : (first : ℕ) (passed : List ℕ) {pairs : List Pair} → Opens met order first passed [] pairs → ⊥
  none_open first passed (opened p new legal) = elim p [ ]

  -- if the lists without a candidate are settled, so are the candidates of the first
  tried : (first : ℕ) (passed left : List ℕ) → Rises left
      → ((c : ℕ) (o : List ℕ) → Picked left c o → Settled (passed ++ o) (search_of (met_at met order) (passed ++ o)))
      → Tried first passed left (tries (met_at met order) (search_of (met_at met order)) first passed left)
  unfolding tries
  tried first passed [] rises settled = λ pairs. none_open first passed
  tried first passed (c ∷ left) rises settled =
      let t = met_at met order in
      let own = search_of t (passed ++ left) in
      let later = tries t (search_of t) first (passed ++ c ∷ []) left in
      let over = tried first (passed ++ c ∷ []) left rises.1 (λ d o p. rw (append_assoc passed (c ∷ []) o) (settled d (c ∷ o) (there p))) in
      cond_both (t first c) later (after_step (first, c) own.0 own.1 later) (Tried first passed (c ∷ left))
      (λ is. Outcome-over first c passed left later.0 (λ new. absurd (true≢false (sym is ∙ new))) over)
      (λ new. Tried-new first c passed left own.0 own.1 later rises new (settled c left here) over)

  nothing_else : IsFirst (IsLegalOf met order []) []
  nothing_else = record {
    is = legal_none met order;
    none_earlier = λ other legal e. let f : ◌≡◌ {A = Option Pair} None (Some e.of_other) = e.here.1 in absurd (cc);
    or_later = λ other legal. inl (sym (none_legal met order other legal));
  }

  -- each search of a list that rises
  pub settled : (bound : ℕ) (free : List ℕ) → length free ≤ bound → Rises free → Settled free (search_of (met_at met order) free)
  settled bound [] short rises = rw (search_of-none (met_at met order)) nothing_else
  settled zero (first ∷ rest) short rises = absurd (not-suc-le-zero short)
  settled (suc bound) (first ∷ rest) short rises =
      let all = tried first [] rest rises.1 (λ c o p. settled bound o (omega (arith, Picked-length p)) (Picked-Rises p rises.1)) in
      rw (search_of-cons (met_at met order) first rest) (Outcome-same (Opens met order first [] rest) (IsLegalOf met order (first ∷ rest))
      (λ pairs. closes met order first rest rises) (opens met order first rest rises) _ all)
