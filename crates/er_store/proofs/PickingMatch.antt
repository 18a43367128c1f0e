-- How a WHERE picks the one match of a round and a table, or of a stage and a slot.
use Rattle.er_store.proofs.Prelude.{slice_get, get_or, match_with_score, pairing_row, bracket_row, is_true, binary, unary, number_value}
use Rattle.er_store.proofs.Prelude.{pairing_columns}
use Rattle.er_store.proofs.Prelude.{bracket_columns, common_steps, ◌||◌, ◌∙◌, sym, List, ap, refl, [], ◌∷◌, map, false, true, arith, Bool}
use Rattle.er_store.proofs.Prelude.{◌++◌, ◌+◌, ap₂, filter, ◌≤◌, Some, ◌≢◌, ◌<◌, None, Option, suc, ◌==◌, not, All, zero, ◌-◌}
use Rattle.er_store.proofs.Prelude.{if◌then◌else◌, append-nil, ◌&&◌, option_map, IfSome, find, option_to_list, ne_eqb, nat_tests}
use Rattle.er_store.proofs.Prelude.{map-append, All-head, All-tail, filter-append, none-some, same_Some, IsPermutation, is_eq, slot_at}
use Rattle.er_store.proofs.Prelude.{with_slot_score, with_score, EventValue, enumerate_from, is_bye, table_of, match_at, is_at, match_in}
use Rattle.er_store.proofs.Prelude.{pairing_rows, pairing_rows_from, bracket_rows_from, bracket_rows, Match, Round, Games, Binary}
use Rattle.er_store.proofs.Prelude.{from_truth, Row, column, value_cmp, filter_same, Compare, Eq, ToNumeric, filter-map, map-map}
use Rattle.er_store.proofs.Prelude.{◌≡◌, ℕ}
use Rattle.std.proofs.{Math.ListN.set, lemmas.Option.{get_or_from_slice_get, option_and_then_some}}
use Rattle.er_event.specs.Bracket.{open_match}
use Rattle.er_store.proofs.{Picking.{same_number, numbers_equal, picked-alone, picked-replaced}, Grouped.pairing_rows_are}
use Rattle.er_store.proofs.Grouped.{bracket_rows_are, rows_from}

-- the test of the WHERE, on columns of which the first two are the round and the table
abbrev pub picks_table : ℕ → ℕ → Row → Bool
picks_table k t row = is_true (binary (Compare Eq Binary) (column row 0) (unary ToNumeric (number_value k)))
    && (is_true (binary (Compare Eq Binary) (column row 1) (unary ToNumeric (number_value t))) && true)

abbrev pub is_elsewhere : ℕ → ℕ → Row → Bool
is_elsewhere k t row = not (picks_table k t row)

equal : (n k : ℕ) → is_true (binary (Compare Eq Binary) (number_value n) (unary ToNumeric (number_value k))) ≡ (n == k)
unfolding binary unary
equal n k = grind (arith, common_steps, from_truth, is_eq, is_true, numbers_equal, value_cmp)

-- ---- the matches of a group, a round or a stage, of which one number tells which pass a test

module _ (t : ℕ) (at : ℕ × Match → Bool) (tells : (n : ℕ × Match) → at n ≡ true → n.0 ≡ t) where
  none_later : (n : ℕ) (ms : List Match) → t < n → filter at (enumerate_from n ms) ≡ []
  none_later n [] low = refl
  none_later n (m ∷ ms) low = grind (arith, nat_tests, tells (n, m), none_later (n + 1) ms (omega arith))

  pub one_at : (n : ℕ) (ms : List Match) → filter at (enumerate_from n ms) ≡ option_to_list (find at (enumerate_from n ms))
  one_at n [] = refl
  one_at n (m ∷ ms) = grind (arith, common_steps, nat_tests, none_later, enumerate_from, one_at (n + 1) ms)

-- those of a group, of which those that pass have this score
abbrev again : (ℕ × Match → Bool) → Games → ℕ → List Match → List Match
again at s n ms = map (λ (x : ℕ × Match). if at x then match_with_score s x.1 else x.1) (enumerate_from n ms)

-- ---- the matches of some groups, each with the number of its group

abbrev placed : {L : Type 0} → (L → List Match) → ℕ → List L → List (ℕ × (ℕ × Match))
placed matches = rows_from (λ j l. map (λ n. (j, n)) (enumerate_from 1 (matches l)))

rows_placed : {L X : Type 0} (matches : L → List Match) (row : ℕ → ℕ × Match → X) (j : ℕ) (ls : List L)
    → map (λ x. row x.0 x.1) (placed matches j ls) ≡ rows_from (λ n l. map (row n) (enumerate_from 1 (matches l))) j ls
rows_placed matches row j [] = refl
rows_placed matches row j (l ∷ ls) = grind (arith, common_steps, map-append, map-map, enumerate_from, rows_placed matches row (j + 1) ls)

module _ {L : Type 0} (matches : L → List Match) (at : ℕ × Match → Bool) (k : ℕ) where
  abbrev picked : ℕ × (ℕ × Match) → Bool
  picked x = (x.0 == k) && (at x.1 && true)

  own_group : (ns : List (ℕ × Match)) → filter picked (map (λ n. (k, n)) ns) ≡ map (λ n. (k, n)) (filter at ns)
  own_group [] = refl
  own_group (n ∷ ns) = grind (arith, nat_tests, own_group ns)

  other_group : (j : ℕ) (ns : List (ℕ × Match)) → j ≢ k → filter picked (map (λ n. (j, n)) ns) ≡ []
  other_group j [] apart = refl
  other_group j (n ∷ ns) apart = grind (arith, nat_tests, other_group j ns apart)

  later_groups : (j : ℕ) (ls : List L) → k < j → filter picked (placed matches j ls) ≡ []
  later_groups j [] low = refl
  later_groups j (l ∷ ls) low = grind (arith, common_steps, filter-append, other_group, later_groups (j + 1) ls (omega arith))

  abbrev pub passing : Option L → List (ℕ × Match)
  passing None = []
  passing (Some l) = filter at (enumerate_from 1 (matches l))

  one_group : (j i : ℕ) (ls : List L) → k ≡ j + i → filter picked (placed matches j ls) ≡ map (λ n. (k, n)) (passing (slice_get ls i))
  one_group j i [] is = refl
  one_group j zero (l ∷ ls) is = grind (arith, common_steps, append-nil, filter-append, later_groups, enumerate_from, own_group)
  one_group j (suc i) (l ∷ ls) is = grind (arith, common_steps, filter-append, other_group, one_group (j + 1) i ls (omega arith))

  -- ---- a score for those

  module _ (s : Games) where
    abbrev changed : ℕ × (ℕ × Match) → ℕ × (ℕ × Match)
    changed x = (x.0, (x.1.0, if picked x then match_with_score s x.1.1 else x.1.1))

    own_changed : (n : ℕ) (ms : List Match)
        → map changed (map (λ m. (k, m)) (enumerate_from n ms)) ≡ map (λ m. (k, m)) (enumerate_from n (again at s n ms))
    own_changed n [] = refl
    own_changed n (m ∷ ms) = grind (arith, nat_tests, own_changed (n + 1) ms)

    other_same : (j : ℕ) (ns : List (ℕ × Match)) → j ≢ k → map changed (map (λ n. (j, n)) ns) ≡ map (λ n. (j, n)) ns
    other_same j [] apart = refl
    other_same j (n ∷ ns) apart = grind (arith, nat_tests, other_same j ns apart)

    later_same : (j : ℕ) (ls : List L) → k < j → map changed (placed matches j ls) ≡ placed matches j ls
    later_same j [] low = refl
    later_same j (l ∷ ls) low = grind (arith, common_steps, map-append, enumerate_from, other_same, later_same (j + 1) ls (omega arith))

    set_group : (j i : ℕ) (ls : List L) (was is : L) → k ≡ j + i → slice_get ls i ≡ Some was → matches is ≡ again at s 1 (matches was)
        → map changed (placed matches j ls) ≡ placed matches j (set ls i is)
    set_group j i [] was is here found new = absurd (none-some was found)
    set_group j zero (l ∷ ls) was is here found new =
        let own : j ≡ k = omega arith in
        let same : l ≡ was = same_Some l was found in
        map-append changed (map (λ n. (j, n)) (enumerate_from 1 (matches l))) (placed matches (j + 1) ls)
        ∙ ap₂ ◌++◌ (rw (own, new, same) (own_changed 1 (matches was))) (later_same (j + 1) ls (omega arith))
    set_group j (suc i) (l ∷ ls) was is here found new =
        grind (arith, common_steps, map-append, other_same, set_group (j + 1) i ls was is (omega arith) found new)

-- Only the match is picked. The rows of the others with that of the scored match are those after the change.
pub record Picks (row : ℕ × Match → Row) (k t : ℕ) (s : Games) (old new : List Row) : Type 0 where
  pub it : ℕ × Match
  pub alone : filter (picks_table k t) old ≡ row it ∷ []
  pub replaced : IsPermutation (filter (is_elsewhere k t) old ++ row (it.0, match_with_score s it.1) ∷ []) new

-- ---- their rows, if the WHERE makes this test

module _ {L : Type 0} (matches : L → List Match) (row : ℕ → ℕ × Match → Row) (k t : ℕ) (at : ℕ × Match → Bool)
    (told : (j : ℕ) (n : ℕ × Match) → picks_table k t (row j n) ≡ ((j == k) && (at n && true))) where
  abbrev shown : List L → List Row
  shown ls = map (λ x. row x.0 x.1) (placed matches 1 ls)

  abbrev place : List L → Option L
  place ls = if k == 0 then None else slice_get ls (k - 1)

  found_at : (ls : List L) → filter (picked matches at k) (placed matches 1 ls) ≡ map (λ n. (k, n)) (passing matches at k (place ls))
  found_at ls = (elim (k == 0) as (λ b. (k == 0) ≡ b → filter (picked matches at k) (placed matches 1 ls)
      ≡ map (λ n. (k, n)) (passing matches at k (if b then None else slice_get ls (k - 1)))) [
        | true ↦ λ is. later_groups matches at k 1 ls (grind (arith, nat_tests))
        | false ↦ λ is. one_group matches at k 1 (k - 1) ls (grind (arith, nat_tests))
      ]) refl

  pub all_picked : (ls : List L) → filter (picks_table k t) (shown ls) ≡ map (row k) (passing matches at k (place ls))
  all_picked ls =
      filter-map (picks_table k t) (λ x. row x.0 x.1) (placed matches 1 ls)
      ∙ ap (map (λ x. row x.0 x.1)) (filter_same (λ x. picks_table k t (row x.0 x.1)) (picked matches at k) (λ x. told x.0 x.1)
      (placed matches 1 ls) ∙ found_at ls) ∙ map-map (λ x. row x.0 x.1) (λ n. (k, n)) (passing matches at k (place ls))

  pub picks_match : (s : Games) (ls : List L) (was is : L) (it : ℕ × Match) → 1 ≤ k → slice_get ls (k - 1) ≡ Some was
      → at it ≡ true → filter at (enumerate_from 1 (matches was)) ≡ it ∷ [] → matches is ≡ again at s 1 (matches was)
      → Picks (row k) k t s (shown ls) (shown (set ls (k - 1) is))
  picks_match s ls was is it low found passes alone new =
      let after : ℕ × (ℕ × Match) → Row = λ x. row x.0 (x.1.0, if picked matches at k x then match_with_score s x.1.1 else x.1.1) in
      let group : map (λ n. (k, n)) (passing matches at k (slice_get ls (k - 1))) ≡ (k, it) ∷ [] =
      ap (λ o. map (λ n. (k, n)) (passing matches at k o)) found ∙ ap (map (λ n. (k, n))) alone in
      let single = filter_same (λ x. picks_table k t (row x.0 x.1)) (picked matches at k) (λ x. told x.0 x.1) (placed matches 1 ls)
      ∙ one_group matches at k 1 (k - 1) ls (omega arith) ∙ group in
      let others = λ (x : ℕ × (ℕ × Match)) (no : picks_table k t (row x.0 x.1) ≡ false).
      ap (λ (b : Bool). row x.0 (x.1.0, if b then match_with_score s x.1.1 else x.1.1)) (sym (told x.0 x.1) ∙ no) in
      let own : after (k, it) ≡ row k (it.0, match_with_score s it.1) = rw (same_number k k refl, passes) refl in
      let all : map after (placed matches 1 ls) ≡ shown (set ls (k - 1) is) =
      sym (map-map (λ x. row x.0 x.1) (changed matches at k s) (placed matches 1 ls))
      ∙ ap (map (λ x. row x.0 x.1)) (set_group matches at k s 1 (k - 1) ls was is (omega arith) found new) in
      record {
        it = it;
        alone = picked-alone (λ x. row x.0 x.1) after (picks_table k t) (placed matches 1 ls) (k, it) others single;
        replaced = rw (← own, ← all)
            (picked-replaced (λ x. row x.0 x.1) after (picks_table k t) (placed matches 1 ls) (k, it) others single);
      }

-- ---- what is found in a group holds of it

module _ (P : Match → Type 0) (at : ℕ × Match → Bool) where
  abbrev pub Finds : ℕ × Match → Type 0
  Finds n = P n.1 × (at n ≡ true) × (1 ≤ n.0)

  pub found_in : (n : ℕ) (ms : List Match) → 1 ≤ n → All P ms → IfSome (find at (enumerate_from n ms)) Finds
  found_in n [] low all = tt
  found_in n (m ∷ ms) low all =
      let more = found_in (n + 1) ms (omega arith) (All-tail P m ms all) in
      (elim (at (n, m)) as (λ b. at (n, m) ≡ b → IfSome (if b then Some (n, m) else find at (enumerate_from (n + 1) ms)) Finds) [
        | true ↦ λ is. (All-head P m ms all, is, low)
        | false ↦ λ is. more
      ]) refl

not_none : {A : Type 0} (b : Bool) (o : Option A) (x : A) → (if b then None else o) ≡ Some x → (b ≡ false) × (o ≡ Some x)
not_none true o x found = absurd (none-some x found)
not_none false o x found = (refl, found)

-- ---- the matches of the rounds

pub table_tells : (t : ℕ) → 1 ≤ t → (n : ℕ × Match) → is_at t n ≡ true → n.0 ≡ t
table_tells t low n at = grind (arith, nat_tests)

pub table_told : (k t j : ℕ) (n : ℕ × Match) → picks_table k t (pairing_columns (pairing_row j n)) ≡ ((j == k) && (is_at t n && true))
table_told k t j n = ap₂ (λ a b. a && (b && true)) (equal j k) (equal (table_of n) t)

abbrev pub of_round : Round → List Match
of_round r = r.matches

pub pairings_shown : (rounds : List Round)
    → map (λ x. pairing_columns (pairing_row x.0 x.1)) (placed of_round 1 rounds) ≡ map pairing_columns (pairing_rows_from 1 rounds)
pairings_shown rounds = sym (map-map pairing_columns (λ x. pairing_row x.0 x.1) (placed of_round 1 rounds))
    ∙ ap (map pairing_columns) (rows_placed of_round pairing_row 1 rounds ∙ sym (pairing_rows_are 1 rounds))

-- the rows that the round and the table pick
abbrev pub rows_at : EventValue → ℕ → ℕ → List Row
rows_at e k t = filter (picks_table k t) (map pairing_columns (pairing_rows e))

abbrev pub PicksTable : EventValue → ℕ → ℕ → Games → Type 0
PicksTable e k t s = Picks (λ n. pairing_columns (pairing_row k n)) k t s (map pairing_columns (pairing_rows e))
    (map pairing_columns (pairing_rows (with_score e k t s)))

pub picks_one_table : (e : EventValue) (k t : ℕ) (s : Games) (m : Match) → match_at e k t ≡ Some m → is_bye m ≡ false → PicksTable e k t s
picks_one_table e k t s m found seat =
    let group = not_none (k == 0) _ m found in
    let low : 1 ≤ k = grind (arith, nat_tests, group.0) in
    option_and_then_some (λ (r : Round). match_in r.matches t) (slice_get e.stored (k - 1)) m group.1 (λ r is here.
    by_found r is (find (is_at t) (enumerate_from 1 r.matches)) refl here
    (found_in (λ m. Unit) (is_at t) 1 r.matches (omega arith) (λ i d below. tt)) low)
  where
    by_found : (r : Round) → slice_get e.stored (k - 1) ≡ Some r → (o : Option (ℕ × Match))
        → find (is_at t) (enumerate_from 1 r.matches) ≡ o
        → option_map (λ (n : ℕ × Match). n.1) o ≡ Some m → IfSome o (Finds (λ m. Unit) (is_at t)) → 1 ≤ k → PicksTable e k t s
    by_found r is None at here finds low = absurd (none-some m here)
    by_found r is (Some it) at here finds low =
        let same : it.1 ≡ m = same_Some it.1 m here in
        let some : 1 ≤ t = grind (arith, nat_tests, finds.1, finds.2) in
        let alone = one_at t (is_at t) (table_tells t some) 1 r.matches ∙ ap option_to_list at in
        let new : Round = record { matches = again (is_at t) s 1 r.matches } in
        let none : Round = record { matches = [] } in
        let read : get_or e.stored (k - 1) none ≡ r = get_or_from_slice_get e.stored (k - 1) r none is in
        rw (read, ← pairings_shown e.stored, ← pairings_shown (set e.stored (k - 1) new))
        (picks_match of_round (λ j n. pairing_columns (pairing_row j n)) k t (is_at t) (table_told k t) s e.stored r new it low is
        finds.1 alone refl)

-- ---- the matches of the stages

module _ (t : ℕ) (s : Games) where
  abbrev has_slot : ℕ × Match → Bool
  has_slot n = n.0 == t

  slot_tells : (n : ℕ × Match) → has_slot n ≡ true → n.0 ≡ t
  slot_tells n at = grind (arith, nat_tests)

  slot_found : (n i : ℕ) (ms : List Match) (m : Match) → t ≡ n + i → slice_get ms i ≡ Some m
      → find has_slot (enumerate_from n ms) ≡ Some (t, m)
  slot_found n i [] m at is = absurd (none-some m is)
  slot_found n zero (x ∷ ms) m at is = let here : n ≡ t = omega arith in rw (same_number n t here, same_Some x m is, here) refl
  slot_found n (suc i) (x ∷ ms) m at is = rw (ne_eqb n t (λ e. absurd (omega arith))) (slot_found (n + 1) i ms m (omega arith) is)

  slots_after : (n : ℕ) (ms : List Match) → t < n → ms ≡ again has_slot s n ms
  slots_after n [] low = refl
  slots_after n (m ∷ ms) low = grind (arith, nat_tests, slots_after (n + 1) ms (omega arith))

  slots_again : (n i : ℕ) (ms : List Match) (m : Match) → t ≡ n + i → slice_get ms i ≡ Some m
      → set ms i (match_with_score s m) ≡ again has_slot s n ms
  slots_again n i [] m at is = absurd (none-some m is)
  slots_again n zero (x ∷ ms) m at is = grind (arith, common_steps, same_Some, same_number, slots_after)
  slots_again n (suc i) (x ∷ ms) m at is = grind (arith, common_steps, ne_eqb, slots_again (n + 1) i ms m (omega arith) is)

slot_told : (k t j : ℕ) (n : ℕ × Match) → picks_table k t (bracket_columns (bracket_row j n)) ≡ ((j == k) && ((n.0 == t) && true))
slot_told k t j n = ap₂ (λ a b. a && (b && true)) (equal j k) (equal n.0 t)

abbrev of_stage : List Match → List Match
of_stage ms = ms

slots_shown : (stages : List (List Match))
    → map (λ x. bracket_columns (bracket_row x.0 x.1)) (placed of_stage 1 stages) ≡ map bracket_columns (bracket_rows_from 1 stages)
slots_shown stages = sym (map-map bracket_columns (λ x. bracket_row x.0 x.1) (placed of_stage 1 stages))
    ∙ ap (map bracket_columns) (rows_placed of_stage bracket_row 1 stages ∙ sym (bracket_rows_are 1 stages))

abbrev pub PicksSlot : EventValue → ℕ → ℕ → Games → Type 0
PicksSlot e k t s = Picks (λ n. bracket_columns (bracket_row k n)) k t s (map bracket_columns (bracket_rows e))
    (map bracket_columns (bracket_rows (with_slot_score e k t s)))

pub picks_one_slot : (e : EventValue) (k t : ℕ) (s : Games) (m : Match) → slot_at e k t ≡ Some m → PicksSlot e k t s
picks_one_slot e k t s m found =
    let stages = e.bracket.stages in
    let group = not_none (k == 0 || t == 0) _ m found in
    let low : 1 ≤ k = grind (arith, nat_tests, group.0) in
    let some : 1 ≤ t = grind (arith, nat_tests, group.0) in
    option_and_then_some (λ (ms : List Match). slice_get ms (t - 1)) (slice_get stages (k - 1)) m group.1 (λ ms is here.
    let new = set ms (t - 1) (match_with_score s m) in
    let alone = one_at t (has_slot t s) (slot_tells t s) 1 ms ∙ ap option_to_list (slot_found t s 1 (t - 1) ms m (omega arith) here) in
    let read : get_or stages (k - 1) [] ≡ ms = get_or_from_slice_get stages (k - 1) ms [] is in
    let match : get_or ms (t - 1) (open_match 0 0) ≡ m = get_or_from_slice_get ms (t - 1) m (open_match 0 0) here in
    rw (read, match, ← slots_shown stages, ← slots_shown (set stages (k - 1) new))
    (picks_match of_stage (λ j n. bracket_columns (bracket_row j n)) k t (has_slot t s) (slot_told k t) s stages ms new
    (t, m) low is (same_number t t refl) alone (slots_again t s 1 (t - 1) ms m (omega arith) here)))
