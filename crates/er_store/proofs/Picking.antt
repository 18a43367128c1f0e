-- How a WHERE picks the one row of a player, among rows that the players' numbers lead.
use Rattle.er_store.proofs.Prelude.{number_value, is_eq, column, value_cmp, common_steps, IsPermutation-map, IsPermutation-sym, map-append}
use Rattle.er_store.proofs.Prelude.{filter, List, Bool, refl, subst, true, not, false, sym, map, ap, ◌≡◌, ◌∷◌, [], ◌∙◌, ◌++◌, IsPermutation}
use Rattle.er_store.proofs.Prelude.{Row, filter-map, arith, nat_tests, IsPermutation-filter_both, player_columns, Contains, zero, cond}
use Rattle.er_store.proofs.Prelude.{drop, ap₂, pos, length, ℕ, Some, not-suc-le-zero, suc, get_or, ◌-◌, ◌≤◌, ◌+◌, ◌==◌, ◌<◌, ◌&&◌}
use Rattle.er_store.proofs.Prelude.{length-map, get_or-range_with_len, length-range_with_len, ne_eqb, range_with_len, dropped_at, numbers}
use Rattle.er_store.proofs.Prelude.{Player, player_row, value_cmp-Int, is_true, from_truth, Binary, Null, Value, Eq, Compare, map-map}
use Rattle.er_store.proofs.Prelude.{binary, find, slice_get, filter_same}
use Rattle.sqlite_keyed.proofs.ListLemmas.{slice_get-filter}

-- ---- among rows that a test picks one of, that one gives way to another

-- what is shown of each before and after, which differs if the test picks it
module _ {X : Type 0} (columns after : X → Row) (test : Row → Bool) (xs : List X) (it : X)
    (others : (x : X) → test (columns x) ≡ false → after x ≡ columns x) (alone : filter (λ x. test (columns x)) xs ≡ it ∷ []) where
  pub picked-alone : filter test (map columns xs) ≡ columns it ∷ []
  picked-alone = filter-map test columns xs ∙ ap (map columns) alone

  abbrev rest : List X → List X
  rest ys = filter (λ x. not (test (columns x))) ys

  kept : (ys : List X) → map after (rest ys) ≡ map columns (rest ys)
  kept [] = refl
  kept (y ∷ ys) = grind (arith, nat_tests, kept ys, others y)

  double : (b : Bool) → b ≡ not (not b)
  double true = refl
  double false = refl

  pub picked-replaced : IsPermutation (filter (λ r. not (test r)) (map columns xs) ++ after it ∷ []) (map after xs)
  picked-replaced =
      let both = IsPermutation-map after xs _ (IsPermutation-filter_both (λ x. not (test (columns x))) (λ x. test (columns x))
      (λ x. double (test (columns x))) xs) in
      let are : map after (rest xs ++ filter (λ x. test (columns x)) xs) ≡ filter (λ r. not (test r)) (map columns xs) ++ after it ∷ [] =
      ap (λ ys. map after (rest xs ++ ys)) alone ∙ map-append after (rest xs) (it ∷ [])
      ∙ ap (λ ys. ys ++ after it ∷ []) (kept xs ∙ sym (filter-map (λ r. not (test r)) columns xs)) in
      IsPermutation-sym _ _ (subst (IsPermutation (map after xs)) are both)

-- ---- how a WHERE picks the one row of a player, among rows that the players' numbers lead

-- the test of the WHERE
abbrev pub picks : ℕ → Row → Bool
picks n row = is_true (binary (Compare Eq Binary) (column row 0) (number_value n)) && true

abbrev pub is_another : ℕ → Row → Bool
is_another n row = not (picks n row)

abbrev pub row_of : Player → Row
row_of p = player_columns (player_row p)

abbrev pub rows_of : List Player → List Row
rows_of players = map player_columns (map player_row players)

-- ---- the test, of a player's row

pub numbers_equal : (n k : ℕ) → is_eq (value_cmp (number_value n) (number_value k)) ≡ (n == k)
numbers_equal n k = ap is_eq (value_cmp-Int (pos n) (pos k)) ∙ grind (arith, nat_tests)

pub same_number : (n k : ℕ) → n ≡ k → (n == k) ≡ true
same_number n k e = grind (arith, nat_tests)

-- it compares the first column
pub picks-compares : (n : ℕ) (row : Row) → picks n row ≡ is_eq (value_cmp (column row 0) (number_value n))
unfolding binary value_cmp
picks-compares n row = by_value (column row 0)
  where
    said : (b : Bool) → (is_true (from_truth (Some b)) && true) ≡ b
    said true = refl
    said false = refl

    by_value : (v : Value) → (is_true (binary (Compare Eq Binary) v (number_value n)) && true) ≡ is_eq (value_cmp v (number_value n))
    by_value Null = refl
    by_value v = said (is_eq (value_cmp v (number_value n)))

pub picks-number : (k n : ℕ) (row : Row) → column row 0 ≡ number_value n → picks k row ≡ (n == k)
picks-number k n row is = picks-compares k row ∙ (ap (λ v. is_eq (value_cmp v (number_value k))) is ∙ numbers_equal n k)

-- ---- players who are numbered

pub first_number : (p : Player) (ps : List Player) (a : ℕ) → numbers (p ∷ ps) ≡ range_with_len a (length (p ∷ ps))
    → (p.no ≡ a) × (numbers ps ≡ range_with_len (a + 1) (length ps))
first_number p ps a e = (ap (λ (ns : List ℕ). get_or ns 0 0) e, ap (Rattle.std.specs.Prelude.drop 1) e)

pub within : (n k : ℕ) → Contains (range_with_len 1 n) k → (1 ≤ k) × (k ≤ n)
within n k has = grind (arith, common_steps, get_or-range_with_len, length-range_with_len)

abbrev pub has_number : ℕ → Player → Bool
has_number k p = p.no == k

-- a number below them all is nobody's
none_below : (k a : ℕ) (ps : List Player) → k < a → numbers ps ≡ range_with_len a (length ps) → filter (has_number k) ps ≡ []
none_below k a [] low numbered = refl
none_below k a (p ∷ ps) low numbered =
    let both = first_number p ps a numbered in
    let no = both.0 in
    grind (arith, nat_tests, none_below k (a + 1) ps (omega arith) both.1)

record HasOne (k : ℕ) (ps : List Player) : Type 0 where
  it : Player
  is : it.no ≡ k
  alone : filter (has_number k) ps ≡ it ∷ []

one_numbered : (k a i : ℕ) (ps : List Player) → k ≡ a + i → i < length ps → numbers ps ≡ range_with_len a (length ps) → HasOne k ps
one_numbered k a i [] at below numbered = absurd (not-suc-le-zero below)
one_numbered k a zero (p ∷ ps) at below numbered =
    let both = first_number p ps a numbered in
    let here : (p.no == k) ≡ true = same_number p.no k (omega (arith, both.0)) in
    record { it = p; is = omega (arith, both.0); alone = rw (here, none_below k (a + 1) ps (omega arith) both.1) refl }
one_numbered k a (suc i) (p ∷ ps) at below numbered =
    let both = first_number p ps a numbered in
    let more = one_numbered k (a + 1) i ps (omega arith) (omega arith) both.1 in
    record { it = more.it; is = more.is; alone = rw (ne_eqb p.no k (λ e. absurd (omega (arith, both.0)))) more.alone }

-- a row for each player, before and after, which changes only for one number
pub record AreRowsBy (before after : Player → Row) (k : ℕ) : Type 0 where
  pub numbered : (p : Player) → column (before p) 0 ≡ number_value p.no
  pub others : (p : Player) → has_number k p ≡ false → after p ≡ before p

-- the number picks only one player's row, and the rows of the others with the new one are those after
pub record PicksRow (k : ℕ) (before after : Player → Row) (ps : List Player) (old new : List Row) : Type 0 where
  pub it : Player
  pub is : it.no ≡ k
  pub first : find (has_number k) ps ≡ Some it
  pub alone : filter (picks k) old ≡ before it ∷ []
  pub replaced : IsPermutation (filter (is_another k) old ++ after it ∷ []) new

-- one of them is picked by number
pub picks_row : (before after : Player → Row) (k : ℕ) → AreRowsBy before after k → (ps : List Player)
    → numbers ps ≡ range_with_len 1 (length ps) → Contains (numbers ps) k → {old new : List Row} → old ≡ map before ps
    → new ≡ map after ps → PicksRow k before after ps old new
picks_row before after k are ps numbered known was is =
    let here = within (length ps) k (subst (λ (ns : List ℕ). Contains ns k) numbered known) in
    let low = here.0 in
    let high = here.1 in
    let one = one_numbered k 1 (k - 1) ps (omega arith) (omega arith) numbered in
    let told = λ (p : Player). picks-number k p.no (before p) (are.numbered p) in
    let others = λ (p : Player) (no : picks k (before p) ≡ false). are.others p (sym (told p) ∙ no) in
    let alone = filter_same (λ (p : Player). picks k (before p)) (has_number k) told ps ∙ one.alone in
    record {
      it = one.it;
      is = one.is;
      first = sym (slice_get-filter (has_number k) ps) ∙ ap (λ all. slice_get all 0) one.alone;
      alone = rw was (picked-alone before after (picks k) ps one.it others alone);
      replaced = rw (was, is) (picked-replaced before after (picks k) ps one.it others alone);
    }

-- ---- one of them is dropped

pub picks_one : (ps : List Player) (k : ℕ) → numbers ps ≡ range_with_len 1 (length ps) → Contains (numbers ps) k
    → PicksRow k row_of (λ p. row_of (dropped_at k p)) ps (rows_of ps) (rows_of (map (dropped_at k) ps))
picks_one ps k numbered known = grind (arith, common_steps, dropped_at, map-map, picks_row, player_columns, player_row)

-- no player has a number below 1
pub picks_none : (ps : List Player) (k : ℕ) → k < 1 → numbers ps ≡ range_with_len 1 (length ps) → filter (picks k) (rows_of ps) ≡ []
picks_none ps k low numbered =
    ap (filter (picks k)) (map-map player_columns player_row ps) ∙ filter-map (picks k) row_of ps
    ∙ ap (map row_of) (filter_same (λ p. picks k (row_of p)) (has_number k) (λ p. picks-number k p.no (row_of p) refl) ps
    ∙ none_below k 1 ps low numbered)

-- ---- what a drop leaves

pub numbers-dropped_at : (k : ℕ) (ps : List Player) → numbers (map (dropped_at k) ps) ≡ numbers ps
numbers-dropped_at k [] = refl
numbers-dropped_at k (p ∷ ps) = ap₂ ◌∷◌ (same (p.no == k)) (numbers-dropped_at k ps)
  where
    same : (b : Bool) → (cond b (record p { dropped = true }) p).no ≡ p.no
    same true = refl
    same false = refl

-- who is numbered after the drop was so before
pub numbered_before : (k : ℕ) (ps : List Player)
    → numbers (map (dropped_at k) ps) ≡ range_with_len 1 (length (map (dropped_at k) ps)) → numbers ps ≡ range_with_len 1 (length ps)
numbered_before k ps numbered = sym (numbers-dropped_at k ps) ∙ (numbered ∙ ap (range_with_len 1) (length-map ps (dropped_at k)))
