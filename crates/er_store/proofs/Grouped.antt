-- Rows of rounds or of stages, one after the other, and what is listed of rows that rise.
use Rattle.er_store.proofs.Prelude.{Match, Round, bracket_rows_from, pairing_rows_from, round_rows, stage_rows, enumerate_from, arith, List}
use Rattle.er_store.proofs.Prelude.{Bool, refl, subst, append-nil, ap₂, false, sym, length, map, ℕ, ap, ◌≡◌, ◌∷◌, ◌+◌, [], ◌∙◌, ◌<◌, ◌++◌}
use Rattle.er_store.proofs.Prelude.{all-append, common_steps, column, Row, Value, IsAscending, map-append, IsPermutation-sym}
use Rattle.er_store.proofs.Prelude.{IsPermutation-trans, nat_tests, Less, true, pos, filter, Equal, cond, range_with_len, AllByRecursion}
use Rattle.er_store.proofs.Prelude.{IsPermutation, ordering_then, by_first, Lists, by_first_two, number_value, Player, numbers}
use Rattle.er_store.proofs.Prelude.{value_cmp_total}
use Rattle.er_store.proofs.Prelude.{value_cmp-Int, value_cmp}
use Rattle.std.proofs.{Common.append_assoc, lemmas.Cmp.{on_total, then_total}}
use Rattle.sqlite_keyed.proofs.{SortLemmas.sorted_unique, ListLemmas.ascending-append}
use Rattle.er_store.proofs.Picking.{first_number}

-- ---- rows of rounds or of stages, one after the other, and in each by the number of the match

module _ {L X : Type 0} (rows : ℕ → L → List X) where
  -- those of each, from this number on
  abbrev pub rows_from : ℕ → List L → List X
  rows_from k [] = []
  rows_from k (l ∷ ls) = rows k l ++ rows_from (k + 1) ls

  -- ---- one more

  pub rows_more : (k : ℕ) (ls : List L) (l : L) → rows_from k (ls ++ l ∷ []) ≡ rows_from k ls ++ rows (k + length ls) l
  rows_more k [] l = let here : k ≡ k + 0 = omega arith in append-nil (rows k l) ∙ ap (λ n. rows n l) here
  rows_more k (x ∷ ls) l =
      let on : k + 1 + length ls ≡ k + length (x ∷ ls) = omega arith in
      ap (λ xs. rows k x ++ xs) (rows_more (k + 1) ls l ∙ ap (λ n. rows_from (k + 1) ls ++ rows n l) on)
      ∙ sym (append_assoc (rows k x) (rows_from (k + 1) ls) (rows (k + length (x ∷ ls)) l))

-- ---- the rows of an event

pub pairing_rows_are : (k : ℕ) (rounds : List Round)
    → pairing_rows_from k rounds ≡ rows_from (λ n (r : Round). round_rows n r.matches) k rounds
pairing_rows_are k [] = refl
pairing_rows_are k (r ∷ rounds) = ap (λ rows. round_rows k r.matches ++ rows) (pairing_rows_are (k + 1) rounds)

pub bracket_rows_are : (k : ℕ) (stages : List (List Match)) → bracket_rows_from k stages ≡ rows_from stage_rows k stages
bracket_rows_are k [] = refl
bracket_rows_are k (ms ∷ stages) = ap (λ rows. stage_rows k ms ++ rows) (bracket_rows_are (k + 1) stages)

-- ---- one match more of the newest

numbered_more : {X : Type 0} (row : ℕ × Match → X) (n : ℕ) (ms : List Match) (m : Match)
    → map row (enumerate_from n (ms ++ m ∷ [])) ≡ map row (enumerate_from n ms) ++ row (n + length ms, m) ∷ []
numbered_more row n [] m = let here : n ≡ n + 0 = omega arith in ap (λ k. row (k, m) ∷ []) here
numbered_more row n (x ∷ ms) m =
    let on : n + 1 + length ms ≡ n + length (x ∷ ms) = omega arith in
    ap (λ rows. row (n, x) ∷ rows) (numbered_more row (n + 1) ms m ∙ ap (λ k. map row (enumerate_from (n + 1) ms) ++ row (k, m) ∷ []) on)

pub newest_more : {L X : Type 0} (row : ℕ → ℕ × Match → X) (matches : L → List Match) (all : ℕ → List L → List X)
    → ((k : ℕ) (ls : List L) → all k ls ≡ rows_from (λ n l. map (row n) (enumerate_from 1 (matches l))) k ls) → (ls : List L) (old new : L)
    (m : Match) → matches new ≡ matches old ++ m ∷ []
    → all 1 (ls ++ new ∷ []) ≡ all 1 (ls ++ old ∷ []) ++ row (length ls + 1) (length (matches old) + 1, m) ∷ []
newest_more row matches all are ls old new m more =
    grind (arith, common_steps, append_assoc, enumerate_from, numbered_more, rows_more, are)

-- ---- rows that rise by their first columns, and what is listed of them

abbrev pub IsBelow : Row → Row → Type 0
IsBelow a b = by_first_two a b ≡ Less

lower : (m n : ℕ) (v w : Value) → v ≡ number_value m → w ≡ number_value n → m < n → value_cmp v w ≡ Less
lower m n v w at bt less = ap₂ value_cmp at bt ∙ (value_cmp-Int (pos m) (pos n) ∙ grind (arith, nat_tests))

level : (k : ℕ) (v w : Value) → v ≡ number_value k → w ≡ number_value k → value_cmp v w ≡ Equal
level k v w at bt = ap₂ value_cmp at bt ∙ (value_cmp-Int (pos k) (pos k) ∙ grind (arith, nat_tests))

-- ---- what is listed

pub listed_by_one : (shown listed all : List Row) → IsAscending (λ a b. by_first a b ≡ Less) all → IsPermutation shown all
    → Lists by_first shown listed → listed ≡ all
listed_by_one shown listed all up same h =
    sorted_unique by_first (on_total (λ (r : Row). column r 0) value_cmp_total) all listed up
    (IsPermutation-trans _ _ _ (IsPermutation-sym _ _ same) h.same) h.sorted

pub listed_by_two : (shown listed all : List Row) → IsAscending IsBelow all → IsPermutation shown all
    → Lists by_first_two shown listed → listed ≡ all
listed_by_two shown listed all up same h =
    sorted_unique by_first_two
    (then_total (on_total (λ (r : Row). column r 0) value_cmp_total) (on_total (λ (r : Row). column r 1) value_cmp_total)) all listed up
    (IsPermutation-trans _ _ _ (IsPermutation-sym _ _ same) h.same) h.sorted

-- ---- rows that the players' numbers lead

module _ (row : Player → Row) (led : (p : Player) → column (row p) 0 ≡ number_value p.no) where
  below_numbered : (a : Row) (m n : ℕ) (ps : List Player) → column a 0 ≡ number_value m → m < n → numbers ps ≡ range_with_len n (length ps)
      → AllByRecursion (λ b. by_first a b ≡ Less) (map row ps)
  below_numbered a m n [] at low all = tt
  below_numbered a m n (q ∷ ps) at low all =
      let both = first_number q ps n all in
      (lower m q.no _ _ at (led q) (omega (arith, both.0)), below_numbered a m (n + 1) ps at (omega arith) both.1)

  pub numbered_rise : (n : ℕ) (ps : List Player) → numbers ps ≡ range_with_len n (length ps)
      → IsAscending (λ a b. by_first a b ≡ Less) (map row ps)
  numbered_rise n [] all = tt
  numbered_rise n (p ∷ ps) all =
      let both = first_number p ps n all in
      (below_numbered (row p) p.no (n + 1) ps (led p) (omega (arith, both.0)) both.1, numbered_rise (n + 1) ps both.1)

-- ---- rows of matches, that the number of the round or stage leads

module _ {X : Type 0} (columns : X → Row) (row : ℕ → ℕ × Match → X)
    (first : (k : ℕ) (n : ℕ × Match) → column (columns (row k n)) 0 ≡ number_value k) where
  abbrev Rise : List X → Type 0
  Rise xs = IsAscending IsBelow (map columns xs)

  abbrev Below : Row → List X → Type 0
  Below a xs = AllByRecursion (IsBelow a) (map columns xs)

  -- those that pass a test are told apart by their numbers
  module _ (k : ℕ) (test : ℕ × Match → Bool)
      (second : (n : ℕ × Match) → test n ≡ true → column (columns (row k n)) 1 ≡ number_value n.0) where
    abbrev tested : ℕ → List Match → List (ℕ × Match)
    tested j ms = filter test (enumerate_from j ms)

    pub below_tested : (i j : ℕ) (a : Row) (ms : List Match) → column a 0 ≡ number_value k → column a 1 ≡ number_value i → i < j
        → Below a (map (row k) (tested j ms))
    below_tested i j a [] at ai less = tt
    below_tested i j a (m ∷ ms) at ai less = by_test (test (j, m)) refl (below_tested i (j + 1) a ms at ai (omega arith))
      where
        by_test : (b : Bool) → test (j, m) ≡ b → Below a (map (row k) (tested (j + 1) ms))
            → Below a (map (row k) (cond b ((j, m) ∷ tested (j + 1) ms) (tested (j + 1) ms)))
        by_test true is more =
            let below : IsBelow a (columns (row k (j, m))) =
            ap (λ o. ordering_then o (value_cmp (column a 1) (column (columns (row k (j, m))) 1))) (level k _ _ at (first k (j, m)))
            ∙ lower i j _ _ ai (second (j, m) is) less in
            (below, more)
        by_test false is more = more

    pub tested_rise : (j : ℕ) (ms : List Match) → Rise (map (row k) (tested j ms))
    tested_rise j [] = tt
    tested_rise j (m ∷ ms) = by_test (test (j, m)) refl (tested_rise (j + 1) ms)
      where
        by_test : (b : Bool) → test (j, m) ≡ b → Rise (map (row k) (tested (j + 1) ms))
            → Rise (map (row k) (cond b ((j, m) ∷ tested (j + 1) ms) (tested (j + 1) ms)))
        by_test true is more = (below_tested j (j + 1) (columns (row k (j, m))) ms (first k (j, m)) (second (j, m) is) (omega arith), more)
        by_test false is more = more

  -- if those of each round rise, all do
  module _ {L : Type 0} (numbered : L → List (ℕ × Match)) where
    abbrev rows : ℕ → L → List X
    rows k l = map (row k) (numbered l)

    below_all : (i k : ℕ) (a : Row) (ns : List (ℕ × Match)) → column a 0 ≡ number_value i → i < k → Below a (map (row k) ns)
    below_all i k a [] at less = tt
    below_all i k a (n ∷ ns) at less =
        let below : IsBelow a (columns (row k n)) =
        ap (λ o. ordering_then o (value_cmp (column a 1) (column (columns (row k n)) 1))) (lower i k _ _ at (first k n) less) in
        (below, below_all i k a ns at less)

    below_from : (i k : ℕ) (a : Row) (ls : List L) → column a 0 ≡ number_value i → i < k → Below a (rows_from rows k ls)
    below_from i k a [] at less = tt
    below_from i k a (l ∷ ls) at less =
        grind (arith, common_steps, all-append, below_all, map-append, rows_from, below_from i (k + 1) a ls at (omega arith))

    all_below : (k : ℕ) (ns : List (ℕ × Match)) (ls : List L)
        → AllByRecursion (λ a. Below a (rows_from rows (k + 1) ls)) (map columns (map (row k) ns))
    all_below k [] ls = tt
    all_below k (n ∷ ns) ls = (below_from k (k + 1) (columns (row k n)) ls (first k n) (omega arith), all_below k ns ls)

    pub rises_from : (k : ℕ) (ls : List L) → AllByRecursion (λ l. (n : ℕ) → Rise (rows n l)) ls → Rise (rows_from rows k ls)
    rises_from k [] each = tt
    rises_from k (l ∷ ls) each =
        subst (IsAscending IsBelow) (sym (map-append columns (rows k l) (rows_from rows (k + 1) ls)))
        (ascending-append IsBelow (map columns (rows k l)) (map columns (rows_from rows (k + 1) ls))
        (each.0 k) (rises_from (k + 1) ls each.1) (all_below k (numbered l) ls))
