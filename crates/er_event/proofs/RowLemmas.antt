-- Rows, of whichever table, that show matches one after the other, and groups of them in turn.
use Rattle.er_event.proofs.Prelude.{enumerate_from, Match, All, Bool, List, [], ap, ap₂, arith, drop, false, get_or, length}
use Rattle.er_event.proofs.Prelude.{length-append, map, refl, subst, sym, take, true, ℕ, ℤ, ◌&&◌, ◌++◌, ◌+◌, ◌-◌, ◌<◌, ◌∙◌, ◌∷◌}
use Rattle.er_event.proofs.Prelude.{◌≡◌, ◌≤◌, length-map, Decides-int_eq, common_steps, All-drop, drop_all, drop_more, length-drop}
use Rattle.er_event.proofs.Prelude.{map-append, take_all, take_more, take_rest, Decides, AllByRecursion}
use Rattle.std.proofs.{lemmas.List.Elements.All-head, Math.Seq.{drop-append_seam, drop-drop, take-add, take-append_seam}}
use Rattle.std.proofs.lemmas.Bool.Decides.{Decides-and}
use Rattle.std.proofs.lemmas.List.{get_or-map}
use Rattle.std.proofs.lemmas.List.FromFn.{length-enumerate_from, get_or-enumerate_from}
use Rattle.std.proofs.{Common.{Option, Result, Some, nat_abs, of_z, pos, to_z, ◌^◌}, lemmas.{Int.to_z_pos, Result.Ok-from_Ok_iff}}
use Rattle.std.specs.{Int.{FitsUnsignedBits, w64}, List.prefix_len, Ordering.int_eq, Result.{OkIff, result_ok}}

-- ---- rows that agree in each column

-- whether the two of each pair, a column of two rows, are the same
abbrev pub agree : List (ℤ × ℤ) → Bool
agree [] = true
agree (p ∷ []) = int_eq p.0 p.1
agree (p ∷ q ∷ more) = int_eq p.0 p.1 && agree (q ∷ more)

pub agree-Decides : (columns : List (ℤ × ℤ)) → Decides (agree columns) (AllByRecursion (λ (p : ℤ × ℤ). p.0 ≡ p.1) columns)
agree-Decides [] = (λ _. tt, λ _. refl)
agree-Decides (p ∷ []) = let same = Decides-int_eq p.0 p.1 in (λ is. (same.0 is, tt), λ is. same.1 is.0)
agree-Decides (p ∷ q ∷ more) = Decides-and _ _ (Decides-int_eq p.0 p.1) (agree-Decides (q ∷ more))

-- ---- a number in a column

module _ {E : Type 0} (n : ℕ) (z : ℤ) (r : Result ℕ E) (o : Option ℕ) (is : o ≡ result_ok r) (shows : z ≡ pos n) where
  column_read : (bits : ℕ) → OkIff r (FitsUnsignedBits bits (to_z w64 (of_z w64 z))) (nat_abs (to_z w64 (of_z w64 z)))
      → n < 2 ^ bits → n < 65536 → o ≡ Some n
  column_read bits reads fits few =
      let same = ap (λ (z : ℤ). to_z w64 (of_z w64 z)) shows ∙ to_z_pos w64 n (omega arith) in
      is ∙ ap result_ok (Ok-from_Ok_iff r (n < 2 ^ bits) n (rw same at reads) fits)

  -- a column that shows a number is read as the number, if it fits 8 bits, or 16
  pub read_8 : OkIff r (FitsUnsignedBits 8 (to_z w64 (of_z w64 z))) (nat_abs (to_z w64 (of_z w64 z))) → n < 256 → o ≡ Some n
  read_8 reads fits = column_read 8 reads fits (omega arith)

  pub read_16 : OkIff r (FitsUnsignedBits 16 (to_z w64 (of_z w64 z))) (nat_abs (to_z w64 (of_z w64 z))) → n < 65536 → o ≡ Some n
  read_16 reads fits = column_read 16 reads fits fits

-- ---- the rows of matches one after the other

pub numbered-push : (n : ℕ) (ms : List Match) (m : Match) → enumerate_from n (ms ++ m ∷ []) ≡ enumerate_from n ms ++ (n + length ms, m) ∷ []
numbered-push n [] m = let e : n ≡ n + 0 = omega arith in ap (λ k. (k, m) ∷ []) e
numbered-push n (k ∷ ms) m = grind (arith, common_steps, numbered-push (n + 1) ms m)

module _ {R : Type 0} (row_of : ℕ × Match → R) (d : R) where
  shown-from : (n i : ℕ) (ms : List Match) (e : Match) → i < length ms
      → get_or (map row_of (enumerate_from n ms)) i d ≡ row_of (n + i, get_or ms i e)
  shown-from n i ms e below =
      get_or-map row_of (enumerate_from n ms) i (0, e) d (omega (arith, length-enumerate_from n ms, below))
      ∙ ap row_of (get_or-enumerate_from n ms i (0, e) below)

  module _ (rows : List R) (i : ℕ) (below : i < length rows) where
    pub rows_more : (items : List Match) (m : Match) → length items ≡ i → take i rows ≡ map row_of (enumerate_from 1 items)
        → get_or rows i d ≡ row_of (i + 1, m) → take (i + 1) rows ≡ map row_of (enumerate_from 1 (items ++ m ∷ []))
    rows_more items m count before here =
        let at : i + 1 ≡ 1 + length items = omega arith in
        take_more rows i d below
        ∙ (ap₂ (λ (xs : List R) (x : R). xs ++ x ∷ []) before (here ∙ ap (λ k. row_of (k, m)) at)
        ∙ (sym (map-append row_of (enumerate_from 1 items) ((1 + length items, m) ∷ [])) ∙ ap (map row_of) (sym (numbered-push 1 items m))))

    -- the match that stands here
    pub here_shown : (ms : List Match) (e : Match) → rows ≡ map row_of (enumerate_from 1 ms)
        → (i < length ms) × (get_or rows i d ≡ row_of (i + 1, get_or ms i e))
    here_shown ms e are =
        let count = ap length are ∙ (length-map (enumerate_from 1 ms) row_of ∙ length-enumerate_from 1 ms) in
        let at : 1 + i ≡ i + 1 = omega arith in
        let within : i < length ms = omega arith in
        (within, ap (λ (rs : List R). get_or rs i d) are ∙ (shown-from 1 i ms e within ∙ ap (λ k. row_of (k, get_or ms i e)) at))

  pub all_shown : (rows : List R) (i : ℕ) (ms : List Match) → length rows ≤ i → rows ≡ map row_of (enumerate_from 1 ms) → take i ms ≡ ms
  all_shown rows i ms short are =
      let count = ap length are ∙ (length-map (enumerate_from 1 ms) row_of ∙ length-enumerate_from 1 ms) in take_all i ms (omega arith)

-- ---- groups of rows in turn

-- each group has a row, and its rows tell its number
pub record AreInTurn {G R : Type 0} (Shown : G → Type 0) (entries : G → List (ℕ × Match)) (row : ℕ → ℕ × Match → R)
    (is_of : ℕ → R → Bool) (all : ℕ → List G → List R) : Type 0 where
  pub none : (n : ℕ) → all n [] ≡ []
  pub more : (n : ℕ) (g : G) (gs : List G) → all n (g ∷ gs) ≡ map (row n) (entries g) ++ all (n + 1) gs
  pub some : (g : G) → Shown g → 0 < length (entries g)
  pub own : (n : ℕ) (x : ℕ × Match) → is_of n (row n x) ≡ true
  pub other : (n : ℕ) (x : ℕ × Match) → is_of n (row (n + 1) x) ≡ false

module _ {G R : Type 0} {Shown : G → Type 0} {entries : G → List (ℕ × Match)} {row : ℕ → ℕ × Match → R} {is_of : ℕ → R → Bool}
    {all : ℕ → List G → List R} (t : AreInTurn Shown entries row is_of all) where
  abbrev rows_of : ℕ → G → List R
  rows_of n g = map (row n) (entries g)

  own_rows : (n : ℕ) (xs : List (ℕ × Match)) (ys : List R) → prefix_len (is_of n) ys ≡ 0
      → prefix_len (is_of n) (map (row n) xs ++ ys) ≡ length (map (row n) xs)
  own_rows n [] ys e = e
  own_rows n (x ∷ xs) ys e = let here = t.own n x in rw here (let rest = own_rows n xs ys e in omega arith)

  leads : (n : ℕ) (xs : List (ℕ × Match)) (ys : List R) → 0 < length xs → prefix_len (is_of n) (map (row (n + 1)) xs ++ ys) ≡ 0
  leads n [] ys some = absurd (omega arith)
  leads n (x ∷ xs) ys some = let here = t.other n x in rw here

  later_none : (n : ℕ) (gs : List G) → All Shown gs → prefix_len (is_of n) (all (n + 1) gs) ≡ 0
  later_none n [] shown = ap (prefix_len (is_of n)) (t.none (n + 1))
  later_none n (g ∷ gs) shown = ap (prefix_len (is_of n)) (t.more (n + 1) g gs)
      ∙ leads n (entries g) (all (n + 1 + 1) gs) (t.some g (All-head Shown g gs shown))

  module _ (n : ℕ) (rows : List R) (g : G) (later : List G) (shown : Shown g) (rest : All Shown later)
      (are : rows ≡ rows_of n g ++ all (n + 1) later) (count : ℕ) (is : count ≡ prefix_len (is_of n) rows) where
    pub count_is : count ≡ length (rows_of n g)
    count_is = is ∙ (ap (prefix_len (is_of n)) are ∙ own_rows n (entries g) (all (n + 1) later) (later_none n later rest))

    pub first_rows : take count rows ≡ rows_of n g
    first_rows = ap₂ take count_is are ∙ take-append_seam (rows_of n g) (all (n + 1) later)

    pub some_count : count ≡ 0 → ⊥
    some_count none = let some = t.some g shown in let count = count_is in let long = length-map (entries g) (row n) in omega arith

  push : (n : ℕ) (gs : List G) (g : G) → all n (gs ++ g ∷ []) ≡ all n gs ++ rows_of (n + length gs) g
  push n [] g = grind (arith, common_steps, t.more n g [], t.none (n + 1), t.none n)
  push n (h ∷ gs) g = grind (arith, common_steps, t.more n h gs, t.more n h (gs ++ g ∷ []), push (n + 1) gs g)

  all_none : (n : ℕ) (gs : List G) → All Shown gs → length (all n gs) ≡ 0 → gs ≡ []
  all_none n [] shown none = refl
  all_none n (g ∷ gs) shown none =
      let some = t.some g (All-head Shown g gs shown) in let long = length-map (entries g) (row n) in
      absurd (omega (arith, simp length-append at (ap length (t.more n g gs))))

  module _ (rows : List R) (read : ℕ) (items : List G) (k : ℕ) (k_is : k ≡ length items) where
    pub value_more : (g : G) (count : ℕ) → take read rows ≡ all 1 items
        → take count (take (length rows - read) (drop read rows)) ≡ rows_of (k + 1) g → take (read + count) rows ≡ all 1 (items ++ g ∷ [])
    value_more g count before here =
        let at : k + 1 ≡ 1 + length items = omega arith in
        take-add read count rows ∙ (ap₂ ◌++◌ before (ap (take count) (sym (take_rest rows read)) ∙ (here ∙ ap (λ n. rows_of n g) at))
        ∙ sym (push 1 items g))

    module _ (gs : List G) (shown : All Shown gs) (before : drop read rows ≡ all (length items + 1) (drop (length items) gs)) where
      left : drop read rows ≡ all (k + 1) (drop k gs)
      left = subst (λ n. drop read rows ≡ all (n + 1) (drop n gs)) (sym k_is) before

      -- the group that comes next
      pub next_within : read < length rows → k < length gs
      next_within more =
          let none : length gs ≤ k → ⊥ = λ past.
          (let len = ap length (left ∙ (ap (all (k + 1)) (drop_all k gs past) ∙ t.none (k + 1))) in
          let count = length-drop read rows in omega arith) in
          omega arith

      pub next_shown : (d : G) → k < length gs
          → take (length rows - read) (drop read rows) ≡ rows_of (k + 1) (get_or gs k d) ++ all (k + 1 + 1) (drop (k + 1) gs)
      next_shown d within = take_rest rows read ∙ (left ∙ (ap (all (k + 1)) (drop_more gs k d within)
          ∙ t.more (k + 1) (get_or gs k d) (drop (k + 1) gs)))

      pub drop_next : (d : G) (count n : ℕ) → k < length gs → count ≡ length (rows_of (k + 1) (get_or gs k d)) → n ≡ k + 1
          → drop (read + count) rows ≡ all (n + 1) (drop n gs)
      drop_next d count n within is next = subst (λ m. drop (read + count) rows ≡ all (m + 1) (drop m gs)) (sym next)
          (sym (drop-drop count read rows) ∙ (ap₂ drop is (sym (take_rest rows read) ∙ next_shown d within)
          ∙ drop-append_seam (rows_of (k + 1) (get_or gs k d)) (all (k + 1 + 1) (drop (k + 1) gs))))

      pub none_left : length rows ≤ read → take (length items) gs ≡ gs
      none_left short =
          let none = ap length (all_none (k + 1) (drop k gs) (All-drop Shown k gs shown)
          (sym (ap length left) ∙ ap length (drop_all read rows short))) in
          take_all (length items) gs (let count = length-drop k gs in omega arith)
