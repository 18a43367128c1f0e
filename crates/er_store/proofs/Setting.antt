-- What an UPDATE does to the one row that its WHERE picks.
use Rattle.er_store.proofs.Prelude.{has_rowid, numbers, tally_columns, rowid, value_cmp, nat_tests, arith, ◌≡◌, ℕ, List, [], ◌∷◌, ◌++◌, map}
use Rattle.er_store.proofs.Prelude.{filter, flat_map, Bool, false, if◌then◌else◌, refl, sym, ap, subst, ◌∙◌, ℤ, pos, slice_get, Some, not}
use Rattle.er_store.proofs.Prelude.{list_all, IsPermutation, IsPermutation-sym, Row, column, Term, eval_all, holds, IsAnswer, overlay}
use Rattle.er_store.proofs.Prelude.{Trees, put_row, without_rowid, cast, cast_row, is_taken, Update, State, Table, one_permutation}
use Rattle.er_store.proofs.Prelude.{filter-map, IsPermutation-filter, filter_same, at_places, number_value, Layout}
use Rattle.er_store.proofs.Prelude.{Ran, Goes}
use Rattle.er_store.proofs.Prelude.{length, Contains, true, range_with_len, IsPermutation-trans, Int, Text, PlayerTable, Player, EventValue}
use Rattle.er_store.proofs.Prelude.{dropped_at, TallyRow, player, set_dropped, stored_player, RepresentsWith, BringsToWith, TallyTable}
use Rattle.er_store.proofs.Prelude.{Totals, tally_row, tally_rows_by, tally, set_tally, stored_tally, set_for, map-map, true≢false, Less}
use Rattle.er_store.proofs.Prelude.{Equal, is_eq, AllByRecursion, Value, Null, value_cmp_total, is_int, filter_all, all_weaker}
use Rattle.er_store.proofs.Prelude.{all_from_test, test_from_all, BracketTable, PairingTable, Games, Match, is_bye, match_at, slot_at}
use Rattle.er_store.proofs.Prelude.{match_with_score, with_score, with_slot_score, pairing_row, bracket_row, pairing, bracket, set_score}
use Rattle.er_store.proofs.Prelude.{set_slot_score, pairing_columns, bracket_columns, IsKeyed}
use Rattle.er_store.proofs.Prelude.{player_shown, player2, set_dropped2, stored_player2}
use Rattle.er_store.proofs.Exact.{bare}
use Rattle.std.specs.Ordering.{is_lt}
use Rattle.std.proofs.lemmas.Cmp.{tied_itself}
use Rattle.er_event.specs.Change.{with_dropped}
use Rattle.sqlite.specs.declared.types.Value.TheVariants.{Real, Blob}
use Rattle.sqlite_trees.specs.Tree.{IsTable}
use Rattle.sqlite_trees.proofs.TreeLemmas.{later_rowids}
use Rattle.sqlite_keyed.proofs.ListLemmas.{all-filter, ascending-filter}
use Rattle.er_store.proofs.{Picking.{has_number, picks, is_another, picks-compares, picks_one, same_number, picks_row, AreRowsBy}}
use Rattle.er_store.proofs.Effects.{one_of}
use Rattle.er_store.proofs.Prelude.{All, All-weaker, find, ◌==◌}
use Rattle.sqlite_keyed.proofs.SliceLemmas.{All-find}
use Rattle.std.proofs.lemmas.List.Elements.{All-map}
use Rattle.er_event.specs.Version.{KeepsPlayers}
use Rattle.er_store.proofs.{Layouts.{found, no_parent, player_there, player2_there}, Updates.{totals_means, dropped_means, dropped2_means}}
use Rattle.er_store.proofs.{Updates.{score_means, slot_score_means}, Writing.IsNoParent}
use Rattle.er_store.proofs.{Meaning.{rows_query, dropped_tests, Means, score_tests}, Together.{shows_more, players_set}}
use Rattle.er_store.proofs.{Together.{tallies_set, pairings_set, bracket_set}, Writing.{replaces, cast_int, cast_null, one_shown}}
use Rattle.er_store.proofs.{PickingMatch.{picks_table, is_elsewhere, picks_one_table, picks_one_slot}, Adding.keyed_put}

-- ---- what an UPDATE shows of the one row that its WHERE picks

picked : (test : Row → Bool) (params : Row) (rows : List Row)
    → flat_map (λ r. if test r then (params ∷ r ∷ []) ∷ [] else []) rows ≡ map (λ r. params ∷ r ∷ []) (filter test rows)
picked test params [] = refl
picked test params (r ∷ rows) = grind (arith, nat_tests, picked test params rows)

pub picked_rows : (tree : ℕ) (tests terms : List Term) (db : Trees) (params r : Row) (rows : List Row)
    → filter (λ x. list_all (holds (params ∷ x ∷ [])) tests) (overlay db [] tree) ≡ r ∷ []
    → IsAnswer (rows_query tree tests terms) (overlay db []) params rows → rows ≡ eval_all terms (params ∷ r ∷ []) ∷ []
picked_rows tree tests terms db params r rows one a =
    one_shown (rows_query tree tests terms) params (params ∷ r ∷ []) (a.grouped
    ∙ picked (λ x. list_all (holds (params ∷ x ∷ [])) tests) params (overlay db [] tree) ∙ ap (map (λ x. params ∷ x ∷ [])) one)
    a.distinct a.same a.shown

-- one stored row shows the one that is picked
pub one_picked : (shown : Row → Row) (test : Row → Bool) (rows : List Row) (all : List Row) (row : Row)
    → IsPermutation (map shown rows) all → filter test all ≡ row ∷ []
    → (r : Row) × (filter (λ x. test (shown x)) rows ≡ r ∷ []) × (shown r ≡ row)
one_picked shown test rows all row same one =
    let both = IsPermutation-filter test (map shown rows) all same in
    let single = one_permutation row (filter test (map shown rows))
    (IsPermutation-sym _ _ (subst (IsPermutation (filter test (map shown rows))) one both)) in
    one_of shown (filter (λ x. test (shown x)) rows) row (sym (filter-map test shown rows) ∙ single)

-- the row of the table is replaced, and the others stay
pub shows_replaced : (shown : Row → Row) (test : Row → Bool) (id : ℤ) (row : Row) (rows new all : List Row)
    → IsPermutation (map shown rows) all → without_rowid id rows ≡ filter (λ x. not (test (shown x))) rows
    → new ≡ put_row row (without_rowid id rows) → is_taken (without_rowid id rows) row ≡ false
    → IsPermutation (map shown new) (filter (λ x. not (test x)) all ++ shown row ∷ [])
shows_replaced shown test id row rows new all same kept put free =
    let rest : Row → Bool = λ x. not (test x) in
    let others = subst (λ l. IsPermutation l (filter rest all)) (filter-map rest shown rows ∙ ap (map shown) (sym kept))
    (IsPermutation-filter rest (map shown rows) all same) in
    subst (λ l. IsPermutation (map shown l) (filter rest all ++ shown row ∷ [])) (sym put)
    (shows_more shown row (without_rowid id rows) (shown row) _ free refl others)

-- ---- an UPDATE of the row with a number, of a table that the number leads

-- the number, and then these columns
abbrev led : (Row → Row) → Row → Row
led more row = column row 0 ∷ more row

left_of : (n : ℕ) (more : Row → Row) (rows : List Row) → without_rowid (pos n) rows ≡ filter (λ x. is_another n (led more x)) rows
left_of n more = filter_same (λ x. not (has_rowid (pos n) x)) (λ x. is_another n (led more x))
    (λ x. sym (ap not (picks-compares n (led more x))))

-- The row is taken out and put in again, with other values. The others stay.
pub sets_number : (table : Table) (more : Row → Row) (n : ℕ) (row : Row) {values was : Row} {all : List Row}
    {terms : List Term} {at : ℕ} {sql : List ℕ} {old new : State}
    → Means sql (Update at (record { lets = []; body = rows_query table.tree dropped_tests terms })) old.now.schema
    → IsNoParent old.now.schema table.tree → slice_get old.now.schema.tables at ≡ Some table
    → ((r : Row) → led more r ≡ was → eval_all terms ((number_value n ∷ values) ∷ r ∷ []) ≡ number_value n ∷ row)
    → cast_row table row ≡ row → IsPermutation (map (led more) (old.now.trees table.tree)) all → filter (picks n) all ≡ was ∷ []
    → Ran sql (number_value n ∷ values) old new → Goes table.tree old new
    × IsPermutation (map (led more) (new.now.trees table.tree)) (filter (is_another n) all ++ led more row ∷ [])
sets_number table more n row {values} {was} {all} {terms} {old = old} {new} means apart found gives cast same one ran =
    let trees = old.now.trees in
    let it = one_picked (led more) (picks n) (trees table.tree) all was same one in
    let set = replaces table (pos n) row means apart found
    (λ rows answer. picked_rows table.tree dropped_tests terms trees (number_value n ∷ values) it.0 rows
    (ap (filter (λ x. picks n (led more x))) (bare trees table.tree) ∙ it.1) answer
    ∙ ap (λ x. x ∷ []) (gives it.0 it.2)) cast ran in (
      set.goes,
      shows_replaced (led more) (picks n) (pos n) row (trees table.tree) (new.now.trees table.tree) all same
          (left_of n more (trees table.tree)) set.rows set.free,
    )

-- ---- what the UPDATE of one player does, which a WHERE picks

-- in version 1 nobody has missed a round
is_early : (ps : List Player) (n : ℕ) (it : Player) → All (λ (p : Player). p.joined ≡ 0) ps → find (has_number n) ps ≡ Some it
    → it.joined ≡ 0
is_early ps n it all found = All-find (λ (p : Player). p.joined ≡ 0) (has_number n) ps it all found

-- who is dropped has missed what they had
dropped_keeps : {v : ℕ} (n : ℕ) (ps : List Player) → KeepsPlayers v ps → KeepsPlayers v (map (dropped_at n) ps)
dropped_keeps n ps keeps first =
    let IsEarly : Player → Type 0 = λ p. p.joined ≡ 0 in
    All-map IsEarly (dropped_at n) ps (All-weaker IsEarly (λ p. IsEarly (dropped_at n p)) (λ p early. same p (p.no == n) early) ps
    (keeps first))
  where
    same : (p : Player) (b : Bool) → p.joined ≡ 0 → (if b then record p { dropped = true } else p).joined ≡ 0
    same p true early = early
    same p false early = early

pub player_dropped : (n : ℕ) (l : Layout) → l.version ≡ 1 → {old new : State} {e : EventValue} {s : ℕ} {kept : List TallyRow}
    → RepresentsWith l old.now e s kept → numbers e.players ≡ range_with_len 1 (length e.players) → Contains (numbers e.players) n
    → Ran set_dropped (number_value n ∷ []) old new → BringsToWith l old new (with_dropped e n) s kept
player_dropped n l is {old} {new} {e} represents numbered known ran =
    let has = represents.has.tables in
    let there = (player_there l is has).1 in
    let shown : player_shown l.version ≡ (λ r. at_places (0 ∷ 2 ∷ 3 ∷ []) r ++ number_value 0 ∷ []) = rw is refl in
    let one = picks_one e.players n numbered known in
    let it = one.it in
    let row = stored_player n it.name true in
    let early : it.joined ≡ 0 = is_early e.players n it (represents.keeps.players is) one.first in
    let set = sets_number (player (l.tree PlayerTable)) (λ r. at_places (2 ∷ 3 ∷ []) r ++ number_value 0 ∷ []) n row (dropped_means there)
    (no_parent l has PlayerTable) there.is (λ r h. let is = one.is in cc) (simp (cast_int, cast_null))
    (rw shown at (represents.has.rows PlayerTable)) one.alone ran in
    players_set represents (map (dropped_at n) e.players) (dropped_keeps n e.players represents.keeps.players) set.0
    (rw shown (IsPermutation-trans _ _ _ set.1 (rw (same_number it.no n one.is, one.is, early) at one.replaced)))

-- a player of version 2
pub second_dropped : (n : ℕ) (l : Layout) → l.version ≡ 2 → {old new : State} {e : EventValue} {s : ℕ} {kept : List TallyRow}
    → RepresentsWith l old.now e s kept → numbers e.players ≡ range_with_len 1 (length e.players) → Contains (numbers e.players) n
    → Ran set_dropped2 (number_value n ∷ []) old new → BringsToWith l old new (with_dropped e n) s kept
second_dropped n l is {old} {new} {e} represents numbered known ran =
    let has = represents.has.tables in
    let there = (player2_there l is has).1 in
    let shown : player_shown l.version ≡ at_places (0 ∷ 2 ∷ 3 ∷ 4 ∷ []) = rw is refl in
    let one = picks_one e.players n numbered known in
    let it = one.it in
    let row = stored_player2 n it.name true it.joined in
    let set = sets_number (player2 (l.tree PlayerTable)) (at_places (2 ∷ 3 ∷ 4 ∷ [])) n row (dropped2_means there)
    (no_parent l has PlayerTable) there.is (λ r h. let is = one.is in cc) (simp (cast_int, cast_null))
    (rw shown at (represents.has.rows PlayerTable)) one.alone ran in
    players_set represents (map (dropped_at n) e.players) (dropped_keeps n e.players represents.keeps.players) set.0
    (rw shown (IsPermutation-trans _ _ _ set.1 (rw (same_number it.no n one.is, one.is) at one.replaced)))

-- ---- what the UPDATE of one player's totals does, which a WHERE picks

abbrev row_by : (ℕ → Totals) → Player → Row
row_by come_to p = tally_columns (tally_row p.no (come_to p.no))

-- the parameters of the statement
abbrev pub totals_row : ℕ → Totals → Row
totals_row n t = number_value n ∷ number_value t.points ∷ number_value t.rounds ∷ number_value t.game_points ∷ number_value t.games ∷ []

are_rows : (n : ℕ) (t : Totals) (come_to : ℕ → Totals) → AreRowsBy (row_by come_to) (row_by (set_for n t come_to)) n
are_rows n t come_to = record {
  numbered = λ p. refl;
  others = λ p apart. rw apart refl;
}

pub totals_set : (n : ℕ) (t : Totals) (come_to : ℕ → Totals) {l : Layout} {old new : State} {e : EventValue} {s : ℕ}
    → RepresentsWith l old.now e s (tally_rows_by come_to e.players) → numbers e.players ≡ range_with_len 1 (length e.players)
    → Contains (numbers e.players) n → Ran set_tally (totals_row n t) old new
    → BringsToWith l old new e s (tally_rows_by (set_for n t come_to) e.players)
totals_set n t come_to {l = l} {e = e} represents numbered known ran =
    let has = represents.has.tables in
    let rows : (ℕ → Totals) → List TallyRow = λ f. tally_rows_by f e.players in
    let shown : (f : ℕ → Totals) → map tally_columns (rows f) ≡ map (row_by f) e.players =
    λ f. map-map tally_columns (λ (p : Player). tally_row p.no (f p.no)) e.players in
    let next = set_for n t come_to in
    let one = picks_row (row_by come_to) (row_by next) n (are_rows n t come_to) e.players numbered known (shown come_to) (shown next) in
    let it = one.it in
    let set = sets_number (tally (l.tree TallyTable)) (at_places (2 ∷ 3 ∷ 4 ∷ 5 ∷ [])) n (stored_tally (tally_row n t))
    (totals_means (has.has TallyTable).1) (no_parent l has TallyTable) (found l has TallyTable).is (λ r h. let is = one.is in cc)
    (simp (cast_int, cast_null)) (represents.has.rows TallyTable) one.alone ran in
    tallies_set represents (rows next) set.0 (IsPermutation-trans _ _ _ set.1 (rw (same_number it.no n one.is, one.is) at one.replaced))

-- ---- the rows without the one that is picked

int_of : (v : Value) → is_int v ≡ true → (id : ℤ) × (v ≡ Int id)
int_of Null h = absurd (true≢false (sym h))
int_of (Int n) h = (n, refl)
int_of (Real x) h = absurd (true≢false (sym h))
int_of (Text t) h = absurd (true≢false (sym h))
int_of (Blob b) h = absurd (true≢false (sym h))

-- ---- of rows that rise, each with a rowid

module _ (test : Row → Bool) where
  IsKeyed-filter : (rows : List Row) → IsKeyed rows → IsKeyed (filter test rows)
  IsKeyed-filter rows keyed = record {
    rise = ascending-filter (λ a b. value_cmp (rowid a) (rowid b) ≡ Less) test rows keyed.rise;
    numbers = test_from_all (λ x. is_int (rowid x)) (filter test rows)
        (all-filter (λ x. is_int (rowid x) ≡ true) test rows (all_from_test (λ x. is_int (rowid x)) rows keyed.numbers));
  }

  rest-all : (rows : List Row) → filter test rows ≡ [] → filter (λ x. not (test x)) rows ≡ rows
  rest-all [] none = refl
  rest-all (x ∷ rows) none = grind (arith, nat_tests, rest-all rows)

  -- the rowid of the one row that is picked tells it from the others
  module _ (r : Row) (id : ℤ) (own : rowid r ≡ Int id) where
    itself : value_cmp (rowid r) (Int id) ≡ Equal
    itself = ap (λ v. value_cmp v (Int id)) own ∙ tied_itself value_cmp_total (Int id)

    later : (x : Row) (rows : List Row) → x ≡ r → AllByRecursion (λ y. value_cmp (rowid x) (rowid y) ≡ Less) rows
        → without_rowid id rows ≡ rows
    later x rows same above =
        let level : is_lt (value_cmp (rowid x) (Int id)) ≡ false = ap (λ y. is_lt (value_cmp (rowid y) (Int id))) same ∙ ap is_lt itself in
        filter_all (λ y. not (has_rowid id y)) rows (all_weaker (λ y. is_eq (value_cmp (rowid y) (Int id)) ≡ false)
        (λ y. not (has_rowid id y) ≡ true) (λ y fails. ap not fails) rows (later_rowids (Int id) x rows level above))

    rest : (rows : List Row) → IsTable rows → filter test rows ≡ r ∷ [] → without_rowid id rows ≡ filter (λ x. not (test x)) rows
    rest [] up one = absurd (cc)
    rest (x ∷ rows) up one = by_test (test x) one (rest rows up.1)
      where
        by_test : (b : Bool) → (if b then x ∷ filter test rows else filter test rows) ≡ r ∷ []
            → (filter test rows ≡ r ∷ [] → without_rowid id rows ≡ filter (λ y. not (test y)) rows)
            → without_rowid id (x ∷ rows) ≡ (if not b then x ∷ filter (λ y. not (test y)) rows else filter (λ y. not (test y)) rows)
        by_test true h more =
            let same : x ≡ r = cc in
            let none : filter test rows ≡ [] = cc in
            let has : has_rowid id x ≡ true = ap (has_rowid id) same ∙ ap is_eq itself in
            rw has (later x rows same up.0 ∙ sym (rest-all rows none))
        by_test false h more =
            let below = all-filter (λ y. value_cmp (rowid x) (rowid y) ≡ Less) test rows up.0 in
            let first : value_cmp (rowid x) (rowid r) ≡ Less =
            (subst (AllByRecursion (λ y. value_cmp (rowid x) (rowid y) ≡ Less)) h below).0 in
            let has : has_rowid id x ≡ false = ap (λ v. is_eq (value_cmp (rowid x) v)) (sym own) ∙ ap is_eq first in
            rw has (ap (λ ys. x ∷ ys) (more h))

-- ---- the row of the table

-- a table of which the first two columns after the rowid pick one row, and an UPDATE of that row by these terms
module _ (table : Table) (more : List ℕ) where
  abbrev places : List ℕ
  places = 1 ∷ 2 ∷ more

  -- what the step does to the table
  pub record Sets (k t : ℕ) (row : Row) (all : List Row) (old new : State) : Type 0 where
    pub goes : Goes table.tree old new
    pub rows : IsPermutation (map (at_places places) (new.now.trees table.tree)) (filter (is_elsewhere k t) all ++ row ∷ [])
    pub keyed : IsKeyed (new.now.trees table.tree)

  -- The row is taken out and put in again, with other values. The others stay.
  pub sets_row : (k t : ℕ) (is : Row) {values was : Row} {all : List Row} {terms : List Term} {at : ℕ} {sql : List ℕ}
      {old new : State} → Means sql (Update at (record { lets = []; body = rows_query table.tree score_tests terms })) old.now.schema
      → slice_get old.now.schema.tables at ≡ Some table → IsNoParent old.now.schema table.tree
      → ((r : Row) (id : ℤ) → rowid r ≡ Int id → map (column r) places ≡ was
      → eval_all terms ((number_value k ∷ number_value t ∷ values) ∷ r ∷ []) ≡ Int id ∷ Int id ∷ is)
      → ((id : ℤ) → cast_row table (Int id ∷ is) ≡ Int id ∷ is) → ((id : ℤ) → map (column (Int id ∷ is)) places ≡ is)
      → IsPermutation (map (at_places places) (old.now.trees table.tree)) all
      → IsKeyed (old.now.trees table.tree) → filter (picks_table k t) all ≡ was ∷ []
      → Ran sql (number_value k ∷ number_value t ∷ values) old new → Sets k t is all old new
  sets_row k t is {values} {was} {all} {terms} {old = old} {new} means found apart gives cast shows same keyed one ran =
      let rows = old.now.trees table.tree in
      let picks : Row → Bool = λ r. picks_table k t (map (column r) places) in
      let it = one_picked (at_places places) (picks_table k t) rows all was same one in
      let ints = all-filter (λ x. is_int (rowid x) ≡ true) picks rows (all_from_test (λ x. is_int (rowid x)) rows keyed.numbers) in
      let int = int_of (rowid it.0) (subst (AllByRecursion (λ x. is_int (rowid x) ≡ true)) it.1 ints).0 in
      let id = int.0 in
      let row : Row = Int id ∷ is in
      let set = replaces table id row means apart found
      (λ rows answer. picked_rows table.tree score_tests terms old.now.trees (number_value k ∷ number_value t ∷ values) it.0 rows
      (ap (filter picks) (bare old.now.trees table.tree) ∙ it.1) answer ∙ ap (λ x. x ∷ []) (gives it.0 id int.1 it.2)) (cast id) ran in
      let left = rest picks it.0 id int.1 rows keyed.rise it.1 in
      record {
        goes = set.goes;
        rows = subst (λ x. IsPermutation (map (at_places places) (new.now.trees table.tree)) (filter (is_elsewhere k t) all ++ x ∷ []))
            (shows id)
            (shows_replaced (at_places places) (picks_table k t) id row rows (new.now.trees table.tree) all same left set.rows set.free);
        keyed = subst IsKeyed (sym set.rows)
            (keyed_put id is (without_rowid id rows) (IsKeyed-filter (λ x. not (has_rowid id x)) rows keyed));
      }

-- ---- a match of two players

abbrev pub scores : ℕ → ℕ → Games → Row
scores k t s = number_value k ∷ number_value t ∷ number_value s.x ∷ number_value s.y ∷ number_value s.d ∷ []

pub pairing_scored : (k t : ℕ) (score : Games) {m : Match} {l : Layout} {old new : State} {e : EventValue} {s : ℕ} {kept : List TallyRow}
    → RepresentsWith l old.now e s kept → match_at e k t ≡ Some m → is_bye m ≡ false
    → Ran set_score (scores k t score) old new → BringsToWith l old new (with_score e k t score) s kept
pairing_scored k t score {m} {l} {e = e} represents stands seat ran =
    let has = represents.has.tables in
    let one = picks_one_table e k t score m stands seat in
    let row = pairing_row k (one.it.0, match_with_score score one.it.1) in
    let set = sets_row (pairing (l.tree PairingTable)) (3 ∷ 4 ∷ 5 ∷ 6 ∷ 7 ∷ 8 ∷ 9 ∷ []) k t (pairing_columns row)
    (score_means (has.has PairingTable).1) (found l has PairingTable).is (no_parent l has PairingTable) (λ r id own h. cc)
    (λ id. simp cast_int) (λ id. refl) (represents.has.rows PairingTable) represents.has.keyed.pairings one.alone ran in
    pairings_set represents (with_score e k t score).stored set.goes (IsPermutation-trans _ _ _ set.rows one.replaced) set.keyed

-- ---- a match of the playoff

pub slot_scored : (k t : ℕ) (score : Games) {m : Match} {l : Layout} {old new : State} {e : EventValue} {s : ℕ} {kept : List TallyRow}
    → RepresentsWith l old.now e s kept → slot_at e k t ≡ Some m
    → Ran set_slot_score (scores k t score) old new → BringsToWith l old new (with_slot_score e k t score) s kept
slot_scored k t score {m} {l} {e = e} represents stands ran =
    let has = represents.has.tables in
    let one = picks_one_slot e k t score m stands in
    let row = bracket_row k (one.it.0, match_with_score score one.it.1) in
    let set = sets_row (bracket (l.tree BracketTable)) (3 ∷ 4 ∷ 5 ∷ 6 ∷ 7 ∷ 8 ∷ []) k t (bracket_columns row)
    (slot_score_means (has.has BracketTable).1) (found l has BracketTable).is (no_parent l has BracketTable) (λ r id own h. cc)
    (λ id. simp cast_int) (λ id. refl) (represents.has.rows BracketTable) represents.has.keyed.bracket one.alone ran in
    bracket_set represents (with_slot_score e k t score).bracket.stages set.goes (IsPermutation-trans _ _ _ set.rows one.replaced) set.keyed
