-- What the reading statements show, and that it is the rows of an event in order.
use Rattle.er_store.proofs.Prelude.{Query, common_steps, ◌≡◌, ◌+◌, ◌<◌, ℕ, List, [], ◌∷◌, map, length, get_or, flat_map, refl, sym, ap, ap₂}
use Rattle.er_store.proofs.Prelude.{subst, ◌∙◌, arith, Ordering, Bool, true, false, cond, None, ordering_then, AllByRecursion}
use Rattle.er_store.proofs.Prelude.{IsPermutation, IsPermutation-map, All-from_recursion, recursion_from_All, Row, column, eval_all}
use Rattle.er_store.proofs.Prelude.{IsAnswer, output, Output, overlay, Trees, Term, at_places}
use Rattle.er_store.proofs.Prelude.{Layout, ◌==◌, if◌then◌else◌, player2_places, player_places, number_value, ◌++◌}
use Rattle.er_store.proofs.Prelude.{player_shown, by_first, by_first_two, Lists, first_columns}
use Rattle.er_store.proofs.Prelude.{table_query, all-map, value_cmp, ◌≢◌, filter, range_with_len, IsPermutation-sym}
use Rattle.er_store.proofs.Prelude.{IsPermutation-trans, Error, SqliteFailure, IsAscending, Database, one_permutation}
use Rattle.er_store.proofs.Prelude.{BracketTable, EventTable, PlayerTable, TallyTable, EventValue, Player, Match}
use Rattle.er_store.proofs.Prelude.{numbers, enumerate_from, event_row, player_row, player_rows, bracket_row}
use Rattle.er_store.proofs.Prelude.{bracket_rows, tally_row, tally_rows, stage_rows, totals, event_columns, player_columns, bracket_columns}
use Rattle.er_store.proofs.Prelude.{tally_columns, event_places, bracket_places, tally_places, RepresentsAt, out_of_memory}
use Rattle.er_store.proofs.Meaning.{columns, read_terms}
use Rattle.er_store.proofs.Prelude.{Int, pos}
use Rattle.sqlite.specs.Term.{lit}
use Rattle.std.specs.{List.Sorted.IsSorted, Prelude.All}
use Rattle.std.proofs.{lemmas.List.Sorted.All-permutation, Common.{unwrap_or, is_lt}, Math.ListN.{get_or-map, length-map}}
use Rattle.sqlite.specs.{Query.output_cmp, declared.error.ErrorCode.TheVariants.OutOfMemory}
use Rattle.sqlite_keyed.proofs.ListLemmas.{map-map}
use Rattle.er_store.proofs.Grouped.{numbered_rise, listed_by_one, listed_by_two, IsBelow, tested_rise, rises_from, bracket_rows_are}

-- ---- the rows of one table, in the order of its key

-- no table is laid over those of the file
neither : (b : Bool) (rows : List Row) → unwrap_or (cond b None None) rows ≡ rows
neither true rows = refl
neither false rows = refl

pub bare : (trees : Trees) (tree : ℕ) → overlay trees [] tree ≡ trees tree
bare trees tree = neither _ (trees tree)

pub columns_shown : (places : List ℕ) (r : Row) → eval_all (columns places) ([] ∷ r ∷ []) ≡ at_places places r
columns_shown [] r = refl
columns_shown (place ∷ places) r = ap (λ values. column r place ∷ values) (columns_shown places r)

-- the terms of a query show a row so, and what it is sorted by stands first in what is shown
pub record IsShownByKeys (tree : ℕ) (terms : List Term) (keys : List ℕ) (shown : Row → Row) (order : Row → Row → Ordering) : Type 1 where
  pub shows : (r : Row) → eval_all terms ([] ∷ r ∷ []) ≡ shown r
  pub Keyed : Output → Type 0
  pub keyed : (r : Row) → Keyed (output (table_query tree terms keys) ([] ∷ r ∷ []))
  pub agrees : (o p : Output) → Keyed o → Keyed p → is_lt (order o.1 p.1) ≡ is_lt (output_cmp (table_query tree terms keys) o p)

sorted_rows : (Keyed : Output → Type 0) (cmp : Output → Output → Ordering) (order : Row → Row → Ordering)
    → ((o p : Output) → Keyed o → Keyed p → is_lt (order o.1 p.1) ≡ is_lt (cmp o p))
    → (outs : List Output) → All Keyed outs → IsSorted cmp outs → IsSorted order (map (λ (o : Output). o.1) outs)
sorted_rows Keyed cmp order agrees outs keyed sorted k d low high =
    let e : Output = (d, d) in
    let len : k + 1 < length outs = subst (λ n. k + 1 < n) (length-map {A = Output} {B = Row} outs (λ o. o.1)) high in
    let here = keyed k e (omega arith) in
    let next = keyed (k + 1) e len in
    ap₂ (λ x y. is_lt (order x y)) (get_or-map (λ (o : Output). o.1) outs (k + 1) e) (get_or-map (λ (o : Output). o.1) outs k e)
    ∙ (agrees (get_or outs (k + 1) e) (get_or outs k e) next here ∙ sorted k e low len)

-- so what is shown of an answer is listed by it
pub shows_sorted : (q : Query) (Keyed : Output → Type 0) (order : Row → Row → Ordering)
    → ((o p : Output) → Keyed o → Keyed p → is_lt (order o.1 p.1) ≡ is_lt (output_cmp q o p)) → (all : List Output)
    {kept ordered : List Output} {shown rows : List Row} → kept ≡ all → AllByRecursion Keyed all → map (λ (o : Output). o.1) all ≡ shown
    → IsPermutation kept ordered → IsSorted (output_cmp q) ordered → rows ≡ map (λ (o : Output). o.1) ordered → Lists order shown rows
shows_sorted q Keyed order agrees all {ordered = ordered} are keyed shows same sorted rows =
    let permuted = rw are at same in
    let keys = All-permutation Keyed all ordered permuted (All-from_recursion Keyed all keyed) in
    record {
      same = rw (← shows, rows) (IsPermutation-map (λ (o : Output). o.1) all ordered permuted);
      sorted = rw rows (sorted_rows Keyed (output_cmp q) order agrees ordered keys sorted);
    }

module _ (tree : ℕ) (terms : List Term) (keys : List ℕ) (shown : Row → Row) (order : Row → Row → Ordering)
    (by : IsShownByKeys tree terms keys shown order) where
  -- each row once, with its key and what is shown of it
  abbrev each : List Row → List Output
  each rows = map (output (table_query tree terms keys)) (flat_map (λ r. ([] ∷ r ∷ []) ∷ []) rows)

  each_shown : (rows : List Row) → map (λ (o : Output). o.1) (each rows) ≡ map shown rows
  each_shown [] = refl
  each_shown (r ∷ rows) = ap₂ ◌∷◌ (by.shows r) (each_shown rows)

  each_keyed : (rows : List Row) → AllByRecursion by.Keyed (each rows)
  each_keyed [] = tt
  each_keyed (r ∷ rows) = (by.keyed r, each_keyed rows)

  pub answer_lists : (trees : Trees) (rows : List Row) → IsAnswer (table_query tree terms keys) (overlay trees []) [] rows
      → Lists order (map shown (trees tree)) rows
  answer_lists trees rows a =
      shows_sorted (table_query tree terms keys) by.Keyed order by.agrees (each (trees tree)) (a.distinct
      ∙ (ap (map (output (table_query tree terms keys))) a.grouped ∙ ap each (bare trees tree)))
      (each_keyed (trees tree)) (each_shown (trees tree)) a.same a.sorted a.shown

-- ---- the two kinds of key

first_agrees : (o p : Output) → column o.0 0 ≡ column o.1 0 → column p.0 0 ≡ column p.1 0
    → is_lt (by_first o.1 p.1) ≡ is_lt (ordering_then (value_cmp (column o.0 0) (column p.0 0)) Rattle.std.proofs.Common.Equal)
first_agrees o p a b = grind (arith, common_steps)

pub two_agree : (o p : Output) → (column o.0 0 ≡ column o.1 0) × (column o.0 1 ≡ column o.1 1)
    → (column p.0 0 ≡ column p.1 0) × (column p.0 1 ≡ column p.1 1) → is_lt (by_first_two o.1 p.1)
    ≡ is_lt (ordering_then (value_cmp (column o.0 0) (column p.0 0))
    (ordering_then (value_cmp (column o.0 1) (column p.0 1)) Rattle.std.proofs.Common.Equal))
two_agree o p a b = grind (arith, common_steps)

pub sorted_by_one : (tree place : ℕ) (places : List ℕ)
    → IsShownByKeys tree (columns (place ∷ places)) (place ∷ []) (at_places (place ∷ places)) by_first
sorted_by_one tree place places = record {
  shows = columns_shown (place ∷ places);
  Keyed = λ o. column o.0 0 ≡ column o.1 0;
  keyed = λ r. refl;
  agrees = first_agrees;
}

-- a player, of either version
pub sorted_players : (tree version : ℕ) → IsShownByKeys tree (read_terms version) (0 ∷ []) (player_shown version) by_first
sorted_players tree version = by_version (version == 2)
  where
    by_version : (second : Bool) → IsShownByKeys tree (if second then columns player2_places else columns player_places ++ lit
        (Int (pos 0)) ∷ [])
        (0 ∷ []) (λ row. if second then at_places player2_places row else at_places player_places row ++ number_value 0 ∷ []) by_first
    by_version true = sorted_by_one tree 0 (2 ∷ 3 ∷ 4 ∷ [])
    by_version false = record { shows = λ r. refl; Keyed = λ o. column o.0 0 ≡ column o.1 0; keyed = λ r. refl; agrees = first_agrees }

pub sorted_by_two : (tree first second : ℕ) (places : List ℕ)
    → IsShownByKeys tree (columns (first ∷ second ∷ places)) (first ∷ second ∷ []) (at_places (first ∷ second ∷ places)) by_first_two
sorted_by_two tree first second places = record {
  shows = columns_shown (first ∷ second ∷ places);
  Keyed = λ o. (column o.0 0 ≡ column o.1 0) × (column o.0 1 ≡ column o.1 1);
  keyed = λ r. (refl, refl);
  agrees = two_agree;
}

-- ---- as typed rows

whole : (width : ℕ) (rows : List Row) → AllByRecursion (λ row. first_columns width row ≡ row) rows → map (first_columns width) rows ≡ rows
whole width [] all = refl
whole width (r ∷ rows) all = ap₂ ◌∷◌ all.0 (whole width rows all.1)

shown_whole : (width : ℕ) (shown : Row → Row) (rows : List Row) → ((r : Row) → first_columns width (shown r) ≡ shown r)
    → AllByRecursion (λ row. first_columns width row ≡ row) (map shown rows)
shown_whole width shown rows all = all-map (λ row. first_columns width row ≡ row) shown all rows

-- the rows that are listed have the columns that are shown, and no more
pub listed_whole : (order : Row → Row → Ordering) (width : ℕ) (shown : Row → Row) (rows listed : List Row)
    → ((r : Row) → first_columns width (shown r) ≡ shown r)
    → Lists order (map shown rows) listed → map (first_columns width) listed ≡ listed
listed_whole order width shown rows listed all h =
    let P : Row → Type 0 = λ row. first_columns width row ≡ row in
    whole width listed (recursion_from_All P listed (All-permutation P (map shown rows) listed h.same
    (All-from_recursion P (map shown rows) (shown_whole width shown rows all))))

-- ---- rows that show the same are the same

pub map-same : {T S : Type 0} (columns : T → S) → ((r s : T) → columns r ≡ columns s → r ≡ s) → (xs ys : List T)
    → map columns xs ≡ map columns ys → xs ≡ ys
map-same columns inj [] [] h = refl
map-same columns inj [] (y ∷ ys) h = absurd (cc)
map-same columns inj (x ∷ xs) [] h = absurd (cc)
map-same columns inj (x ∷ xs) (y ∷ ys) h = ap₂ ◌∷◌ (inj x y (cc)) (map-same columns inj xs ys (cc))

-- ---- the event's row

pub event_exact : (l : Layout) (db : Database) (e : EventValue) (s : ℕ) (listed : List Row) → RepresentsAt l db e s
    → Lists by_first (map (at_places event_places) (db.trees (l.tree EventTable))) listed
    → listed ≡ map event_columns (event_row l.version e s ∷ [])
event_exact l db e s listed represents h = one_permutation (event_columns (event_row l.version e s)) listed
    (IsPermutation-trans _ _ _ (IsPermutation-sym _ _ (represents.has.rows EventTable)) h.same)

-- ---- the players

pub players_exact : (l : Layout) (db : Database) (e : EventValue) (s : ℕ) (listed : List Row) → RepresentsAt l db e s
    → numbers e.players ≡ range_with_len 1 (length e.players)
    → Lists by_first (map (player_shown l.version) (db.trees (l.tree PlayerTable))) listed → listed ≡ map player_columns (player_rows e)
players_exact l db e s listed represents numbered h =
    listed_by_one _ listed (map player_columns (player_rows e)) (rw (map-map player_columns player_row e.players)
    (numbered_rise (λ p. player_columns (player_row p)) (λ p. refl) 1 e.players numbered)) (represents.has.rows PlayerTable) h

-- ---- the totals

pub tallies_exact : (l : Layout) (db : Database) (e : EventValue) (s : ℕ) (listed : List Row) → RepresentsAt l db e s
    → numbers e.players ≡ range_with_len 1 (length e.players)
    → Lists by_first (map (at_places tally_places) (db.trees (l.tree TallyTable))) listed → listed ≡ map tally_columns (tally_rows e)
tallies_exact l db e s listed represents numbered h =
    listed_by_one _ listed (map tally_columns (tally_rows e))
    (rw (map-map tally_columns (λ (p : Player). tally_row p.no (totals e p.no)) e.players)
    (numbered_rise (λ p. tally_columns (tally_row p.no (totals e p.no))) (λ p. refl) 1 e.players numbered))
    (represents.has.rows TallyTable) h

-- ---- the matches of the playoff

slots_rise : (k : ℕ) (ms : List Match) → IsAscending IsBelow (map bracket_columns (stage_rows k ms))
slots_rise k ms =
    subst (λ ns. IsAscending IsBelow (map bracket_columns (map (bracket_row k) ns))) (all_kept (enumerate_from 1 ms))
    (tested_rise bracket_columns bracket_row (λ k n. refl) k (λ n. true) (λ n is. refl) 1 ms)
  where
    all_kept : (ns : List (ℕ × Match)) → filter (λ n. true) ns ≡ ns
    all_kept [] = refl
    all_kept (n ∷ ns) = ap (λ rest. n ∷ rest) (all_kept ns)

stages_rise : (stages : List (List Match))
    → AllByRecursion (λ ms. (k : ℕ) → IsAscending IsBelow (map bracket_columns (stage_rows k ms))) stages
stages_rise [] = tt
stages_rise (ms ∷ later) = (λ k. slots_rise k ms, stages_rise later)

pub bracket_exact : (l : Layout) (db : Database) (e : EventValue) (s : ℕ) (listed : List Row) → RepresentsAt l db e s
    → Lists by_first_two (map (at_places bracket_places) (db.trees (l.tree BracketTable))) listed
    → listed ≡ map bracket_columns (bracket_rows e)
bracket_exact l db e s listed represents h =
    let stages = e.bracket.stages in
    let rise = rises_from bracket_columns bracket_row (λ k n. refl) (enumerate_from 1) 1 stages (stages_rise stages) in
    listed_by_two _ listed (map bracket_columns (bracket_rows e))
    (subst (λ rows. IsAscending IsBelow (map bracket_columns rows)) (sym (bracket_rows_are 1 stages)) rise)
    (represents.has.rows BracketTable) h

-- ---- why a row is refused

-- no other error but that of memory
pub is_memory : (e : Error) → ((e ≢ out_of_memory) → ⊥) → e ≡ out_of_memory
is_memory (SqliteFailure OutOfMemory) h = refl
is_memory e h = absurd (h (λ same. cc))
