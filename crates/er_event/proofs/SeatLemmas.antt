-- Who sits where in a round.
use Rattle.er_event.proofs.Prelude.{is_same_pairing, matches_of, seats, Match, Round, All, AllPairs, IsFalse, List, [], ap, arith, false}
use Rattle.er_event.proofs.Prelude.{flat_map, get_or, length, not-suc-le-zero, refl, subst, suc, sym, take, zero, ℕ, ◌*◌, ◌++◌, ◌+◌, ◌<◌}
use Rattle.er_event.proofs.Prelude.{◌∙◌, ◌∷◌, ◌≡◌, ◌≢◌, set, common_steps, All-cons, All-from_recursion, recursion_from_All, list_any_none}
use Rattle.er_event.proofs.Prelude.{all_pairs_push, take_more, AllByRecursion, list_any}
use Rattle.std.proofs.{lemmas.List.Elements.All-more, lemmas.List.Kept.AllPairs-cons, lemmas.List.get_or-take}
use Rattle.er_event.proofs.Pairs.{none-of}
use Rattle.er_event.specs.Match.{shares_seat}

-- ---- each seat

module _ (P : ℕ → Type 0) where
  abbrev Both : Match → Type 0
  Both m = P m.a × P m.b

  all-seats : (ms : List Match) → AllByRecursion Both ms → AllByRecursion P (flat_map seats ms)
  all-seats [] h = tt
  all-seats (m ∷ ms) h = (h.0.0, (h.0.1, all-seats ms h.1))

  seats-all : (ms : List Match) → AllByRecursion P (flat_map seats ms) → AllByRecursion Both ms
  seats-all [] h = tt
  seats-all (m ∷ ms) h = ((h.0, h.1.0), seats-all ms h.1.1)

  pub All-seats : (ms : List Match) → All (λ (m : Match). P m.a × P m.b) ms → All P (flat_map seats ms)
  All-seats ms h = All-from_recursion P _ (all-seats ms (recursion_from_All Both ms h))

  pub seats-All : (ms : List Match) → All P (flat_map seats ms) → All (λ (m : Match). P m.a × P m.b) ms
  seats-All ms h = All-from_recursion Both ms (seats-all ms (recursion_from_All P _ h))

seats-length : (ms : List Match) → length (flat_map seats ms) ≡ 2 * length ms
seats-length [] = refl
seats-length (m ∷ ms) = let rest = seats-length ms in omega arith

seats-at : (ms : List Match) (i : ℕ) (d : Match) → i < length ms
    → (get_or (flat_map seats ms) (2 * i) 0 ≡ (get_or ms i d).a) × (get_or (flat_map seats ms) (2 * i + 1) 0 ≡ (get_or ms i d).b)
seats-at [] i d below = absurd (omega arith)
seats-at (m ∷ ms) zero d below = (refl, refl)
seats-at (m ∷ ms) (suc i) d below =
    let e : 2 * suc i ≡ suc (suc (2 * i)) = omega arith in
    let f : 2 * suc i + 1 ≡ suc (suc (2 * i + 1)) = omega arith in
    let rest = seats-at ms i d (omega arith) in (rw e rest.0, rw f rest.1)

-- ---- the same seats

module _ (ms ns : List Match) (same : flat_map seats ms ≡ flat_map seats ns) where
  pub same-length : length ms ≡ length ns
  same-length = let a = seats-length ms in let b = seats-length ns in let c = ap length same in omega arith

  same-at : (i : ℕ) (d : Match) → i < length ms → ((get_or ms i d).a ≡ (get_or ns i d).a) × ((get_or ms i d).b ≡ (get_or ns i d).b)
  same-at i d below = let x = seats-at ms i d below in let y = seats-at ns i d (omega (arith, same-length)) in (
    sym x.0 ∙ (ap (λ (s : List ℕ). get_or s (2 * i) 0) same ∙ y.0),
    sym x.1 ∙ (ap (λ (s : List ℕ). get_or s (2 * i + 1) 0) same ∙ y.1),
  )

  pub pairings-same : AllPairs (λ m n. IsFalse (is_same_pairing m n)) ms → AllPairs (λ m n. IsFalse (is_same_pairing m n)) ns
  pairings-same h i j d before within =
      let x = same-at i d (omega (arith, same-length)) in
      let y = same-at j d (omega (arith, same-length)) in
      rw (x.0, x.1, y.0, y.1) at (h i j d before (omega (arith, same-length)))

pub seats-set : (n : Match) (i : ℕ) (ms : List Match) → (get_or ms i n).a ≡ n.a → (get_or ms i n).b ≡ n.b
    → flat_map seats ms ≡ flat_map seats (set ms i n)
seats-set n i [] a b = refl
seats-set n zero (m ∷ ms) a b = rw (a, b) refl
seats-set n (suc i) (m ∷ ms) a b = ap (λ (s : List ℕ). m.a ∷ m.b ∷ s) (seats-set n i ms a b)

pub seats-rounds : (r : Round) (j : ℕ) (rs : List Round) → flat_map seats (get_or rs j r).matches ≡ flat_map seats r.matches
    → flat_map seats (matches_of rs) ≡ flat_map seats (matches_of (set rs j r))
seats-rounds r j [] h = refl
seats-rounds r zero (s ∷ rs) h = grind (arith, common_steps)
seats-rounds r (suc j) (s ∷ rs) h = grind (arith, common_steps, seats-rounds r j rs h)

-- ---- nobody sits twice

-- nobody sits in both
abbrev pub AreApart : Match → Match → Type 0
AreApart m n = (m.a ≢ n.a) × (m.a ≢ n.b) × (m.b ≢ n.a) × (m.b ≢ n.b)

abbrev Differ : ℕ → ℕ → Type 0
Differ p q = p ≢ q

pub sit-apart : (ms : List Match) → AllPairs (λ p q. p ≢ q) (flat_map seats ms) → All (λ (m : Match). m.a ≢ m.b) ms × AllPairs AreApart ms
sit-apart ms h = (
  λ k d below. (let at = seats-at ms k d below in let long = seats-length ms in
      λ same. h (2 * k) (2 * k + 1) 0 (omega arith) (omega arith) (at.0 ∙ (same ∙ sym at.1))),
  λ i j d before within. (let x = seats-at ms i d (omega arith) in let y = seats-at ms j d within in let long = seats-length ms in (
    λ same. h (2 * i) (2 * j) 0 (omega arith) (omega arith) (x.0 ∙ (same ∙ sym y.0)),
    λ same. h (2 * i) (2 * j + 1) 0 (omega arith) (omega arith) (x.0 ∙ (same ∙ sym y.1)),
    λ same. h (2 * i + 1) (2 * j) 0 (omega arith) (omega arith) (x.1 ∙ (same ∙ sym y.0)),
    λ same. h (2 * i + 1) (2 * j + 1) 0 (omega arith) (omega arith) (x.1 ∙ (same ∙ sym y.1)),
  )),
)

apart-sit : (ms : List Match) → All (λ (m : Match). m.a ≢ m.b) ms → AllPairs AreApart ms → AllPairs Differ (flat_map seats ms)
apart-sit [] h u = λ i j d before within. absurd (not-suc-le-zero within)
apart-sit (m ∷ ms) h u =
    let later = λ (k : ℕ) (d : Match) (below : k < length ms). u 0 (suc k) d (omega arith) (omega arith) in
    AllPairs-cons Differ m.a (m.b ∷ flat_map seats ms) (All-cons (Differ m.a) m.b (flat_map seats ms) (h 0 m (omega arith))
    (All-seats (Differ m.a) ms (λ k d below. ((later k d below).0, (later k d below).1))))
    (AllPairs-cons Differ m.b (flat_map seats ms) (All-seats (Differ m.b) ms (λ k d below. ((later k d below).2, (later k d below).3)))
    (apart-sit ms (λ k d below. h (suc k) d (omega arith)) (λ i j d before within. u (suc i) (suc j) d (omega arith) (omega arith))))

shares-none : (m n : Match) → shares_seat m n ≡ false → AreApart m n
shares-none m n none = grind (arith, common_steps)

none-shares : (m n : Match) → AreApart m n → shares_seat m n ≡ false
none-shares m n apart = grind (arith, common_steps)

module _ (ms : List Match) (i : ℕ) (m d : Match) (within : i < length ms) (here : get_or ms i d ≡ m) where
  pub seats-more : AllPairs (λ p q. p ≢ q) (flat_map seats (take i ms)) → list_any (λ n. shares_seat n m) (take i ms) ≡ false → m.a ≢ m.b
      → AllPairs (λ p q. p ≢ q) (flat_map seats (take (i + 1) ms))
  seats-more h free apart =
      let before = sit-apart (take i ms) h in
      apart-sit (take (i + 1) ms) (All-more (λ (n : Match). n.a ≢ n.b) ms i d within before.0 (rw here apart))
      (subst (AllPairs AreApart) (sym (take_more ms i d within ∙ ap (λ (n : Match). take i ms ++ n ∷ []) here))
      (all_pairs_push AreApart (take i ms) m before.1
      (λ k e below. shares-none (get_or (take i ms) k e) m (none-of (λ (n : Match). shares_seat n m) (take i ms) free k e below))))

  module _ (h : AllPairs (λ p q. p ≢ q) (flat_map seats ms)) where
    -- of the whole round, up to this match
    pub seats-free : list_any (λ n. shares_seat n m) (take i ms) ≡ false
    seats-free = list_any_none (λ n. shares_seat n m) (take i ms) (λ k e below. none-shares (get_or (take i ms) k e) m
        (grind (arith, common_steps, (sit-apart ms h).1 k i e, get_or-take, here)))

    pub seats-apart : m.a ≢ m.b
    seats-apart = rw here at ((sit-apart ms h).0 i d within)
