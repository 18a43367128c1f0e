-- The meetings that are read of an event's tables, and those that count.
use Rattle.er_store.proofs.Prelude.{table_of, common_steps, ◌≡◌, ◌≢◌, ℕ, ℤ, pos, suc, ◌+◌, ◌-◌, ◌≤◌, min, max, Bool, true, false, not, cond}
use Rattle.er_store.proofs.Prelude.{List, [], ◌∷◌, ◌++◌, map, filter, find, take, length, Option, Some, None, option_map, All, IsTrue, refl}
use Rattle.er_store.proofs.Prelude.{sym, ap, ap₂, subst, ◌∙◌, arith, append-nil, true≢false, AllByRecursion, nat_tests, map-append}
use Rattle.er_store.proofs.Prelude.{filter-append, All-from_recursion, all-append, all-map, Match, Round, TallyRow, Totals, EventValue}
use Rattle.er_store.proofs.Prelude.{is_bye, enumerate_from, bye_score, numbers, IsSoundButForSeeds, meetings, totals, MeetingRow}
use Rattle.er_store.proofs.Prelude.{meeting_rows, is_outside, complete_rows, sides_in, sides_of, filter_all, ◌&&◌, flat_map, Contains}
use Rattle.er_store.proofs.Prelude.{Greater, Null}
use Rattle.er_store.proofs.Prelude.{list_all, Int, Binary, Database, is_true, Row, column, overlay, or_nulls, IsAnswer, Output, output}
use Rattle.er_store.proofs.Prelude.{State, Env, holds, Trees, IsAscending, Compare, Gt, value_cmp-Int, filter-map, IsPermutation-filter}
use Rattle.er_store.proofs.Prelude.{PairingTable, TallyTable, Player, pairing_row, round_rows, pairing_rows_from, pairing_rows, tally_row}
use Rattle.er_store.proofs.Prelude.{tally_rows, flag, by_first_two, Lists, first_columns, number_value, pairing_columns, tally_columns}
use Rattle.er_store.proofs.Prelude.{meeting_columns, at_places, pairing_places, tally_places, Layout, RepresentsAt, Selects, binary, Shown}
use Rattle.er_store.proofs.Prelude.{map-map}
use Rattle.std.proofs.{Common.{int_cmp, is_some}, lemmas.Bool.Decides.Decides-int_eq, lemmas.List.Folds.find-append}
use Rattle.std.specs.{Prelude.⊤, Option.option_or, Ordering.int_eq}
use Rattle.sqlite_sql.specs.declared.ops.BinaryOp.TheVariants.{Coalesce}
use Rattle.sqlite_keyed.proofs.ListLemmas.{filter_none}
use Rattle.er_event.specs.{declared.tallies.Meeting.Meeting, Round.is_complete, Tallies.{complete_matches, meeting_by}}
use Rattle.sqlite_trees.proofs.ListLemmas.{IsPermutation-flat_map}
use Rattle.er_store.specs.inside.Meetings.{meetings_from, open_round, meeting_row}
use Rattle.er_store.proofs.{Exact.{map-same, bare, shows_sorted, two_agree}, Joined.{IsMatch, all_matches, some_number, joined, numbered_as}}
use Rattle.er_store.proofs.{Meaning.{meeting_query, meeting_tests}, Picking.{picks, picks_row}, Setting.one_picked, Grouped.listed_by_two}
use Rattle.er_store.proofs.{Grouped.{IsBelow, tested_rise, rises_from, rows_from}, Refusals.answers, SlipLemmas.{of_max, of_min}}

-- ---- the rows of an event's matches, less those of an open round, are its meetings

abbrev is_open : MeetingRow → Bool
is_open row = int_eq row.done (pos 0)

-- of two players
abbrev pub is_pair : Match → Bool
is_pair m = not (is_bye m)

abbrev pub is_pair_at : ℕ × Match → Bool
is_pair_at n = is_pair n.1

-- a bye has its score
abbrev pub IsWon : Match → Type 0
IsWon m = IsTrue (is_bye m) → m.score ≡ Some bye_score

-- the pairs among these matches, each with its number
abbrev pub pairs_from : ℕ → List Match → List (ℕ × Match)
pairs_from j ms = filter is_pair_at (enumerate_from j ms)

int-same : (z : ℤ) → int_eq z z ≡ true
int-same z = (Decides-int_eq z z).1 refl

int-apart : (a b : ℕ) → a ≢ b → int_eq (pos a) (pos b) ≡ false
int-apart a b apart = grind (arith, nat_tests)

module _ (come_to : ℕ → Totals) where
  abbrev pub rows_of : ℕ → ℕ → List Match → List MeetingRow
  rows_of k j ms = map (meeting_row come_to k) (pairs_from j ms)

  -- the two sides of each pair
  abbrev met : List Match → List (TallyRow × TallyRow)
  met ms = map sides_of (map (meeting_by come_to) (filter is_pair ms))

  met-append : (xs ys : List Match) → met (xs ++ ys) ≡ met xs ++ met ys
  met-append xs ys = grind (arith, common_steps)

  -- ---- the rows of one round

  same-sides : (k j : ℕ) (ms : List Match) → map sides_in (rows_of k j ms) ≡ met ms
  same-sides k j [] = refl
  same-sides k j (m ∷ ms) = grind (arith, nat_tests, same-sides k (j + 1) ms)

  -- no row of a complete round is open
  none-open : (k j : ℕ) (ms : List Match) → is_complete ms ≡ true → find is_open (rows_of k j ms) ≡ None
  none-open k j [] counted = refl
  none-open k j (m ∷ ms) counted = grind (arith, nat_tests, none-open k (j + 1) ms)

  -- a row of an open one is
  some-open : (k j : ℕ) (ms : List Match) → is_complete ms ≡ false → All IsWon ms → open_round (rows_of k j ms) ≡ Some (pos k)
  some-open k j [] counted won = absurd (true≢false counted)
  some-open k j (m ∷ ms) counted won =
      let own = won 0 m (omega arith) in
      let more = λ (rest : is_complete ms ≡ false). some-open k (j + 1) ms rest (λ i d below. won (suc i) d (omega arith)) in
      grind (arith, nat_tests, own, more)

  -- the rows of another round than the open one stay, and its own go
  others-stay : (k o j : ℕ) (ms : List Match) → k ≢ o → filter (is_outside (Some (pos o))) (rows_of k j ms) ≡ rows_of k j ms
  others-stay k o j ms apart =
      filter_all (is_outside (Some (pos o))) (rows_of k j ms)
      (all-map (λ r. is_outside (Some (pos o)) r ≡ true) (meeting_row come_to k) (λ n. ap not (int-apart k o apart)) (pairs_from j ms))

  own-go : (k j : ℕ) (ms : List Match) → filter (is_outside (Some (pos k))) (rows_of k j ms) ≡ []
  own-go k j ms =
      filter_none (is_outside (Some (pos k))) (rows_of k j ms)
      (all-map (λ r. is_outside (Some (pos k)) r ≡ false) (meeting_row come_to k) (λ n. ap not (int-same (pos k))) (pairs_from j ms))

  all-stay : (rows : List MeetingRow) → filter (is_outside None) rows ≡ rows
  all-stay [] = refl
  all-stay (r ∷ rows) = ap (λ (rest : List MeetingRow). r ∷ rest) (all-stay rows)

  -- ---- the rounds

  -- the open round, if there is one, isn't before this one
  abbrev IsFrom : ℕ → Option ℤ → Type 0
  IsFrom k None = ⊤
  IsFrom k (Some z) = (o : ℕ) × (z ≡ pos o) × (k ≤ o)

  record AreCounted (k : ℕ) (rounds : List Round) : Type 0 where
    from : IsFrom k (open_round (meetings_from come_to k rounds))
    same : map sides_in (complete_rows (meetings_from come_to k rounds)) ≡ met (complete_matches rounds)

  none-counted : (k : ℕ) → AreCounted k []
  none-counted k = record { from = tt; same = refl }

  later-from : (k : ℕ) (o : Option ℤ) → IsFrom (k + 1) o → IsFrom k o
  later-from k None from = tt
  later-from k (Some z) from = (from.0, from.1, let high = from.2 in omega arith)

  stays : (k j : ℕ) (ms : List Match) (o : Option ℤ) → IsFrom (k + 1) o → filter (is_outside o) (rows_of k j ms) ≡ rows_of k j ms
  stays k j ms None from = all-stay (rows_of k j ms)
  stays k j ms (Some z) from = grind (arith, common_steps, is_outside, others-stay)

  -- a complete round before those that are counted
  one-more : (k : ℕ) (r : Round) (later : List Round) → is_complete r.matches ≡ true → AreCounted (k + 1) later → AreCounted k (r ∷ later)
  one-more k r later counted rest =
      let front = rows_of k 1 r.matches in
      let back = meetings_from come_to (k + 1) later in
      let opens : open_round (front ++ back) ≡ open_round back =
      ap (option_map (λ (row : MeetingRow). row.round)) (find-append is_open front back
      ∙ ap (λ (o : Option MeetingRow). option_or o (find is_open back)) (none-open k 1 r.matches counted)) in
      record {
        from = rw opens (later-from k (open_round back) rest.from);
        same = rw (
          opens,
          filter-append (is_outside (open_round back)) front back,
          stays k 1 r.matches (open_round back) rest.from,
          map-append sides_in front (complete_rows back),
          same-sides k 1 r.matches,
          rest.same,
          counted,
        )
            (sym (met-append r.matches (complete_matches later)));
      }

  -- an open one is the last
  last-open : (k : ℕ) (r : Round) → is_complete r.matches ≡ false → All IsWon r.matches → AreCounted k (r ∷ [])
  last-open k r counted won =
      let rows = rows_of k 1 r.matches in
      let bare : meetings_from come_to k (r ∷ []) ≡ rows = append-nil rows in
      let opens : open_round rows ≡ Some (pos k) = some-open k 1 r.matches counted won in
      record { from = rw (bare, opens) (k, refl, omega arith); same = rw (bare, opens, own-go k 1 r.matches, counted) refl }

  last-counted : (k : ℕ) (r : Round) → All IsWon r.matches → AreCounted k (r ∷ [])
  last-counted k r won = by_test (is_complete r.matches) refl
    where
      by_test : (test : Bool) → is_complete r.matches ≡ test → AreCounted k (r ∷ [])
      by_test true counted = one-more k r [] counted (none-counted (k + 1))
      by_test false counted = last-open k r counted won

  rounds-counted : (k : ℕ) (rounds : List Round) → All (λ (r : Round). All IsWon r.matches) rounds
      → All (λ (r : Round). IsTrue (is_complete r.matches)) (take (length rounds - 1) rounds) → AreCounted k rounds
  rounds-counted k [] won earlier = none-counted k
  rounds-counted k (r ∷ []) won earlier = last-counted k r (won 0 r (omega arith))
  rounds-counted k (r ∷ s ∷ later) won earlier =
      let Done : Round → Type 0 = λ (q : Round). IsTrue (is_complete q.matches) in
      let one : length (r ∷ s ∷ later) - 1 ≡ suc (length (s ∷ later) - 1) = omega arith in
      let all : All Done (r ∷ take (length (s ∷ later) - 1) (s ∷ later)) =
      subst (λ (n : ℕ). All Done (take n (r ∷ s ∷ later))) one earlier in
      one-more k r (s ∷ later) (all 0 r (omega arith))
      (rounds-counted (k + 1) (s ∷ later) (λ i d below. won (suc i) d (omega arith)) (λ i d below. all (suc i) d (omega arith)))

-- ---- the event

pub meetings-counted : (e : EventValue) → IsSoundButForSeeds e → map sides_in (complete_rows (meeting_rows e)) ≡ map sides_of (meetings e)
meetings-counted e sound = (rounds-counted (totals e) 1 e.stored
    (λ i d below. (sound.rounds.each i d below).byes_won) sound.rounds.earlier_done).same

pub meetings-same : (xs ys : List Meeting) → map sides_of xs ≡ map sides_of ys → xs ≡ ys
meetings-same = map-same sides_of (λ m n same. grind arith)

-- a row that shows a meeting of the event
pub record IsMeetingRow (e : EventValue) (row : MeetingRow) : Type 0 where
  pub it : Match
  pub low : 1 ≤ min it.a it.b
  pub high : max it.a it.b ≤ 512
  pub sides : sides_in row ≡ sides_of (meeting_by (totals e) it)

-- of any totals
sides-shown : (come_to : ℕ → Totals) (k j : ℕ) (m : Match) → sides_in (meeting_row come_to k (j, m)) ≡ sides_of (meeting_by come_to m)
sides-shown come_to k j m = refl

module _ (e : EventValue) (sound : IsSoundButForSeeds e) where
  pair-row : (k j : ℕ) (m : Match) → IsMatch (numbers e.players) m → is_bye m ≡ false → IsMeetingRow e (meeting_row (totals e) k (j, m))
  pair-row k j m are pair =
      let low : 1 ≤ min m.a m.b = grind (arith, common_steps) in
      let high : max m.a m.b ≤ 512 = grind (arith, common_steps) in
      record { it = m; low = low; high = high; sides = sides-shown (totals e) k j m }

  round-shows : (k j : ℕ) (ms : List Match) → All (IsMatch (numbers e.players)) ms
      → AllByRecursion (IsMeetingRow e) (rows_of (totals e) k j ms)
  round-shows k j [] are = tt
  round-shows k j (m ∷ ms) are = by_bye (is_bye m) refl (round-shows k (j + 1) ms (λ i d below. are (suc i) d (omega arith)))
    where
      by_bye : (alone : Bool) → is_bye m ≡ alone → AllByRecursion (IsMeetingRow e) (rows_of (totals e) k (j + 1) ms)
          → AllByRecursion (IsMeetingRow e)
          (map (meeting_row (totals e) k) (cond (not alone) ((j, m) ∷ pairs_from (j + 1) ms) (pairs_from (j + 1) ms)))
      by_bye true is more = more
      by_bye false is more = (pair-row k j m (are 0 m (omega arith)) is, more)

  rounds-show : (k : ℕ) (rounds : List Round) → All (λ (r : Round). All (IsMatch (numbers e.players)) r.matches) rounds
      → AllByRecursion (IsMeetingRow e) (meetings_from (totals e) k rounds)
  rounds-show k [] are = tt
  rounds-show k (r ∷ later) are =
      all-append (IsMeetingRow e) (rows_of (totals e) k 1 r.matches) (meetings_from (totals e) (k + 1) later)
      (round-shows k 1 r.matches (are 0 r (omega arith))) (rounds-show (k + 1) later (λ i d below. are (suc i) d (omega arith)))

  pub all-show : All (IsMeetingRow e) (meeting_rows e)
  all-show = All-from_recursion (IsMeetingRow e) (meeting_rows e) (rounds-show 1 e.stored (all_matches e sound))

-- ---- the rows that are joined

abbrev passes : Row → Bool
passes p = list_all (holds ([] ∷ p ∷ [])) meeting_tests

-- the columns of a pairing pass
abbrev is_no_bye : Row → Bool
is_no_bye c = is_true (binary (Compare Gt Binary) (binary Coalesce (column c 2) Null) (Int (pos 0))) && true

abbrev met_row : Row → Row → Row → Row
met_row c l h = column c 0 ∷ column c 1 ∷ column c 5 ∷ map (column l) tally_places ++ map (column h) tally_places

-- what is shown of a pairing with these columns
abbrev mates : List Row → Row → List Row
mates totals c = flat_map (λ l. flat_map (λ h. met_row c l h ∷ []) (numbered_as (column c 3) totals)) (numbered_as (column c 2) totals)

module _ (s t : ℕ) where
  abbrev rows_shown : List Env → List Row
  rows_shown envs = map (λ (o : Output). o.1) (map (output (meeting_query s t)) envs)

  shown-append : (xs ys : List Env) → rows_shown (xs ++ ys) ≡ rows_shown xs ++ rows_shown ys
  shown-append xs ys = grind (arith, common_steps)

  second-shown : (p l : Row) (hs : List Row) → rows_shown (flat_map (λ h. ([] ∷ p ∷ l ∷ h ∷ []) ∷ []) hs)
      ≡ flat_map (λ h. met_row (map (column p) pairing_places) l h ∷ []) hs
  second-shown p l [] = refl
  second-shown p l (h ∷ hs) = ap (λ (rest : List Row). met_row (map (column p) pairing_places) l h ∷ rest) (second-shown p l hs)

  both-shown : (p : Row) (ls hs : List Row) → rows_shown (flat_map (λ l. flat_map (λ h. ([] ∷ p ∷ l ∷ h ∷ []) ∷ []) hs) ls)
      ≡ flat_map (λ l. flat_map (λ h. met_row (map (column p) pairing_places) l h ∷ []) hs) ls
  both-shown p [] hs = refl
  both-shown p (l ∷ ls) hs = grind (arith, common_steps, flat_map, second-shown, shown-append, both-shown p ls hs)

  module _ (totals : List Row) where
    abbrev lows : Row → List Row
    lows p = numbered_as (column p 3) totals

    abbrev highs : Row → List Row
    highs p = numbered_as (column p 4) totals

    abbrev beside : Row → List Env
    beside p = flat_map (λ l. flat_map (λ h. ([] ∷ p ∷ l ∷ h ∷ []) ∷ []) (highs p)) (lows p)

    all-shown : (ps : List Row) → rows_shown (flat_map beside ps) ≡ flat_map (mates totals) (map (at_places pairing_places) ps)
    all-shown [] = refl
    all-shown (p ∷ ps) = shown-append (beside p) (flat_map beside ps) ∙ ap₂ ◌++◌ (both-shown p (lows p) (highs p)) (all-shown ps)

  abbrev Keyed : Output → Type 0
  Keyed o = (column o.0 0 ≡ column o.1 0) × (column o.0 1 ≡ column o.1 1)

  keyed : (envs : List Env) → AllByRecursion Keyed (map (output (meeting_query s t)) envs)
  keyed = all-map Keyed (output (meeting_query s t)) (λ e. (refl, refl))

  -- the rows of those that pass, by round and table
  answer-lists : (db : Trees) (rows : List Row) → IsAnswer (meeting_query s t) (overlay db []) [] rows
      → Lists by_first_two (flat_map (mates (db t)) (filter is_no_bye (map (at_places pairing_places) (db s)))) rows
  answer-lists db rows a =
      let pairings = bare db s in
      let totals = bare db t in
      let envs : a.staged ≡ flat_map (beside (db t)) (filter passes (db s)) =
      a.grouped ∙ (joined passes (lows (overlay db [] t)) (highs (overlay db [] t)) [] (overlay db [] s)
      ∙ ap₂ (λ (ts ps : List Row). flat_map (beside ts) (filter passes ps)) totals pairings) in
      shows_sorted (meeting_query s t) Keyed by_first_two two_agree
      (map (output (meeting_query s t)) (flat_map (beside (db t)) (filter passes (db s))))
      (a.distinct ∙ ap (map (output (meeting_query s t))) envs) (keyed (flat_map (beside (db t)) (filter passes (db s))))
      (all-shown (db t) (filter passes (db s))
      ∙ ap (flat_map (mates (db t))) (sym (filter-map is_no_bye (λ r. map (column r) pairing_places) (db s))))
      a.same a.sorted a.shown

pub meetings-listed : (s t : ℕ) {sql : List ℕ} (old new : State) {rows : List Row} → Selects sql (meeting_query s t) old.now.schema
    → Shown sql [] old new rows
    → Lists by_first_two
    (flat_map (mates (old.now.trees t)) (filter is_no_bye (map (at_places pairing_places) (old.now.trees s)))) rows
meetings-listed s t old new {rows} it h = answer-lists s t old.now.trees rows (answers old new it h)

-- ---- the rows of an event

-- the least of the two numbers is 0 if there is a bye, and else both are numbers
pair-passes : (k j : ℕ) (m : Match) → (is_bye m ≡ false → (1 ≤ m.a) × (1 ≤ m.b))
    → is_no_bye (pairing_columns (pairing_row k (j, m))) ≡ is_pair m
unfolding binary
pair-passes k j m known = by_bye (is_bye m) refl
  where
    by_bye : (alone : Bool) → is_bye m ≡ alone → is_no_bye (pairing_columns (pairing_row k (j, m))) ≡ not (is_bye m)
    by_bye true is =
        let low : min m.a m.b ≡ 0 = grind (arith, nat_tests) in
        rw (low, value_cmp-Int (pos 0) (pos 0), is) refl
    by_bye false is =
        let both = known is in
        let greater : int_cmp (pos (min m.a m.b)) (pos 0) ≡ Greater = grind (arith, nat_tests, both.0, both.1) in
        rw (value_cmp-Int (pos (min m.a m.b)) (pos 0), greater, is) refl

module _ (l : Layout) (db : Database) (e : EventValue) (s : ℕ) (represents : RepresentsAt l db e s) (sound : IsSoundButForSeeds e) where
  abbrev row_by : Player → Row
  row_by p = tally_columns (tally_row p.no (totals e p.no))

  -- one row has the totals of a player
  totals-sit : (n : ℕ) → Contains (numbers e.players) n → (r : Row) × (numbered_as (number_value n) (db.trees (l.tree TallyTable)) ≡ r ∷ [])
      × (map (column r) tally_places ≡ tally_columns (tally_row n (totals e n)))
  totals-sit n known =
      let picked = picks_row row_by row_by n (record { numbered = λ p. refl; others = λ p apart. refl }) e.players sound.players.numbered
      known (map-map tally_columns (λ (p : Player). tally_row p.no (totals e p.no)) e.players) refl in
      let it = one_picked (at_places tally_places) (picks n) (db.trees (l.tree TallyTable)) (map tally_columns (tally_rows e)) (row_by picked.it)
      (represents.has.rows TallyTable) picked.alone in
      (it.0, ap or_nulls it.1, it.2 ∙ ap (λ (k : ℕ). tally_columns (tally_row k (totals e k))) picked.is)

  pair-mates : (k j : ℕ) (m : Match) → IsMatch (numbers e.players) m → is_bye m ≡ false
      → mates (db.trees (l.tree TallyTable)) (pairing_columns (pairing_row k (j, m))) ≡ meeting_columns (meeting_row (totals e) k (j, m)) ∷ []
  pair-mates k j m are pair =
      let lo = totals-sit (min m.a m.b) (of_min (Contains (numbers e.players)) m.a m.b are.first (are.second pair)) in
      let hi = totals-sit (max m.a m.b) (of_max (Contains (numbers e.players)) m.a m.b are.first (are.second pair)) in
      let tab : table_of (j, m) ≡ j = ap (λ (b : Bool). cond b 0 j) pair in
      let c : Row = pairing_columns (pairing_row k (j, m)) in
      ap₂ (λ (ls hs : List Row). flat_map (λ l. flat_map (λ h. met_row c l h ∷ []) hs) ls) lo.1 hi.1
      ∙ (ap₂ (λ (x y : Row). (number_value k ∷ number_value (table_of (j, m)) ∷ Int (flag (is_some m.score)) ∷ x ++ y) ∷ []) lo.2 hi.2
      ∙ ap (λ (t : ℕ). (number_value k ∷ number_value t ∷ Int (flag (is_some m.score)) ∷ tally_columns
      (tally_row (min m.a m.b) (totals e (min m.a m.b))) ++ tally_columns (tally_row (max m.a m.b) (totals e (max m.a m.b)))) ∷ []) tab)

  both-known : (m : Match) → IsMatch (numbers e.players) m → is_bye m ≡ false → (1 ≤ m.a) × (1 ≤ m.b)
  both-known m are pair = ((some_number e sound m.a are.first).0, (some_number e sound m.b (are.second pair)).0)

  abbrev mates_of : List Row → List Row
  mates_of rows = flat_map (mates (db.trees (l.tree TallyTable))) (filter is_no_bye rows)

  mates_of-append : (xs ys : List Row) → mates_of (xs ++ ys) ≡ mates_of xs ++ mates_of ys
  mates_of-append xs ys = grind (arith, common_steps)

  round-mates : (k j : ℕ) (ms : List Match) → All (IsMatch (numbers e.players)) ms
      → mates_of (map pairing_columns (map (pairing_row k) (enumerate_from j ms))) ≡ map meeting_columns (rows_of (totals e) k j ms)
  round-mates k j [] are = refl
  round-mates k j (m ∷ ms) are =
      let one = are 0 m (omega arith) in
      let more = round-mates k (j + 1) ms (λ i d below. are (suc i) d (omega arith)) in
      grind (arith, nat_tests, more, pair-passes k j m (both-known m one), pair-mates k j m one)

  rounds-mates : (k : ℕ) (rounds : List Round) → All (λ (r : Round). All (IsMatch (numbers e.players)) r.matches) rounds
      → mates_of (map pairing_columns (pairing_rows_from k rounds)) ≡ map meeting_columns (meetings_from (totals e) k rounds)
  rounds-mates k [] are = refl
  rounds-mates k (r ∷ later) are =
      ap mates_of (map-append pairing_columns (round_rows k r.matches) (pairing_rows_from (k + 1) later))
      ∙ (mates_of-append (map pairing_columns (round_rows k r.matches)) (map pairing_columns (pairing_rows_from (k + 1) later))
      ∙ (ap₂ ◌++◌ (round-mates k 1 r.matches (are 0 r (omega arith)))
      (rounds-mates (k + 1) later (λ i d below. are (suc i) d (omega arith)))
      ∙ sym (map-append meeting_columns (rows_of (totals e) k 1 r.matches) (meetings_from (totals e) (k + 1) later))))

-- ---- their order

meetings_are : (come_to : ℕ → Totals) (k : ℕ) (rounds : List Round)
    → meetings_from come_to k rounds ≡ rows_from (λ n (r : Round). rows_of come_to n 1 r.matches) k rounds
meetings_are come_to k [] = refl
meetings_are come_to k (r ∷ later) = ap (λ rows. rows_of come_to k 1 r.matches ++ rows) (meetings_are come_to (k + 1) later)

rounds-rise : (come_to : ℕ → Totals) (rounds : List Round)
    → AllByRecursion (λ (r : Round). (k : ℕ) → IsAscending IsBelow (map meeting_columns (rows_of come_to k 1 r.matches))) rounds
rounds-rise come_to [] = tt
rounds-rise come_to (r ∷ later) = (
  λ k. tested_rise meeting_columns (meeting_row come_to) (λ k n. refl) k is_pair_at (λ n is. refl) 1 r.matches,
  rounds-rise come_to later,
)

-- ---- what is read

pub meetings-exact : (l : Layout) (db : Database) (e : EventValue) (s : ℕ) (rows : List Row) → RepresentsAt l db e s → IsSoundButForSeeds e
    → Lists by_first_two (flat_map (mates (db.trees (l.tree TallyTable))) (filter is_no_bye (map (at_places pairing_places) (db.trees (l.tree PairingTable))))) rows
    → rows ≡ map meeting_columns (meeting_rows e)
meetings-exact l db e s rows represents sound h =
    let stored = map (at_places pairing_places) (db.trees (l.tree PairingTable)) in
    let kept = IsPermutation-flat_map (mates (db.trees (l.tree TallyTable))) (filter is_no_bye stored) (filter is_no_bye (map pairing_columns (pairing_rows e)))
    (IsPermutation-filter is_no_bye stored (map pairing_columns (pairing_rows e)) (represents.has.rows PairingTable)) in
    let are = rounds-mates l db e s represents sound 1 e.stored (all_matches e sound) in
    let rise = rises_from meeting_columns (meeting_row (totals e)) (λ k n. refl) (λ (r : Round). pairs_from 1 r.matches) 1 e.stored
    (rounds-rise (totals e) e.stored) in
    listed_by_two _ rows (map meeting_columns (meeting_rows e))
    (subst (λ all. IsAscending IsBelow (map meeting_columns all)) (sym (meetings_are (totals e) 1 e.stored)) rise) (rw are at kept) h

-- ---- as typed rows

-- typed rows with the columns of the rows that are read
pub meetings-read : (l : Layout) (db : Database) (e : EventValue) (s : ℕ) (rows : List Row) (typed : List MeetingRow)
    → RepresentsAt l db e s
    → IsSoundButForSeeds e → Lists by_first_two (flat_map (mates (db.trees (l.tree TallyTable)))
    (filter is_no_bye (map (at_places pairing_places) (db.trees (l.tree PairingTable))))) rows
    → map meeting_columns typed ≡ map (first_columns 13) rows → typed ≡ meeting_rows e
meetings-read l db e s rows typed represents sound h columns =
    map-same meeting_columns (λ r s h. grind arith) typed (meeting_rows e) (columns
    ∙ ap (map (first_columns 13)) (meetings-exact l db e s rows represents sound h)
    ∙ map-map (first_columns 13) meeting_columns (meeting_rows e))
