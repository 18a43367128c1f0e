-- What the join of a slip reads of tables that represent an event.
use Rattle.er_store.proofs.Prelude.{Layout, player_shown, ◌==◌, player2_places, player_places}
use Rattle.er_store.proofs.Prelude.{column, is_lawful_name, is_bye, is_at, number_value, ◌≡◌, Bool, true, false, ◌&&◌, cond, if◌then◌else◌}
use Rattle.er_store.proofs.Prelude.{List}
use Rattle.er_store.proofs.Prelude.{[], ◌∷◌, ◌++◌, map, filter, flat_map, refl, ap, ap₂, subst, ◌∙◌, arith, list_all, IsPermutation, Binary}
use Rattle.er_store.proofs.Prelude.{Value, Row, is_true, Env, eval_all, holds, IsAnswer, or_nulls, overlay, Trees, Compare, Eq, binary}
use Rattle.er_store.proofs.Prelude.{Player, common_steps, ◌≢◌, ◌⊎◌, inl, inr, ℕ, suc, ◌==◌, ◌<◌, ◌≤◌, min, max, nat_lt}
use Rattle.er_store.proofs.Prelude.{length, get_or, Result, Option, Some, None, option_map, option_to_list}
use Rattle.er_store.proofs.Prelude.{All, Contains, IfSome, IsTrue, IsFalse, sym, AllByRecursion, range_with_len, IsPermutation-sym}
use Rattle.er_store.proofs.Prelude.{All-from_recursion, All-weaker, recursion_from_All, nat_tests, Text, Database, filter-map}
use Rattle.er_store.proofs.Prelude.{IsPermutation-filter, PairingTable, PlayerTable, Match, Round, Games, SlipRow, EventValue, seats}
use Rattle.er_store.proofs.Prelude.{match_at, pairing_row, pairing_rows, bye_score, slip_of, numbers, names, IsRound, IsSoundButForSeeds}
use Rattle.er_store.proofs.Prelude.{NamedPairing, pairing_columns, named_columns, at_places, pairing_places}
use Rattle.er_store.proofs.Prelude.{RepresentsAt, Side, number_of_side, name_of_side, match_of_slip, named_pairing, named_pairings}
use Rattle.er_store.proofs.Prelude.{IsPlayer}
use Rattle.er_store.proofs.Prelude.{IsLawfulSlip, Refusal}
use Rattle.std.proofs.{lemmas.List.Sorted.length_permutation, Common.AllPairs, lemmas.List.Elements.All-from_get_or}
use Rattle.std.specs.Option.{ok_or}
use Rattle.er_event.specs.{Match.{is_known, is_lawful_match, is_lawful_score}, Score.is_swiss_score, Slip.{name_of, second_of, slip_row}}
use Rattle.sqlite_keyed.proofs.SliceLemmas.{All-find}
use Rattle.sqlite_trees.proofs.ListLemmas.{all_from_map}
use Rattle.er_store.proofs.{Picking.{within, picks, picks_one, picks_none, row_of, rows_of}, Writing.one_shown, Meaning.slip_query}
use Rattle.er_store.proofs.{Meaning.{slip_terms, score_tests}, Exact.{map-same, bare}, Setting.one_picked}
use Rattle.er_store.proofs.{PickingMatch.picks_table}
use Rattle.er_store.proofs.{PickingMatch.{rows_at, Finds}, Keyed.{all_bye_last, finds, numbered_at, numbered-match, table_alone}}
use Rattle.er_store.proofs.SlipLemmas.{cond_of, of_max, of_min}
use Rattle.er_store.specs.{Rows.text_or_null, Slip.FindsSlipOrFails}
use Rattle.er_event.specs.Slip.{name_in as name_found}

-- ---- the rows that are joined, if the test looks only at the first

module _ (test : Row → Bool) (lows : Row → List Row) (highs : Row → List Row) (params : Row) where
  -- each pair of rows beside this one
  abbrev pub beside : Row → List Env
  beside p = flat_map (λ l. flat_map (λ h. (params ∷ p ∷ l ∷ h ∷ []) ∷ []) (highs p)) (lows p)

  abbrev tested : Bool → Row → List Env
  tested b p = flat_map (λ l. flat_map (λ h. if b then (params ∷ p ∷ l ∷ h ∷ []) ∷ [] else []) (highs p)) (lows p)

  abbrev none : Row → List Env
  none r = []

  nothing : (hs : List Row) → flat_map none hs ≡ []
  nothing [] = refl
  nothing (h ∷ hs) = nothing hs

  abbrev none_of : List Row → Row → List Env
  none_of hs l = flat_map none hs

  nothing_at_all : (hs ls : List Row) → flat_map (none_of hs) ls ≡ []
  nothing_at_all hs [] = refl
  nothing_at_all hs (l ∷ ls) = ap₂ (λ (xs ys : List Env). xs ++ ys) (nothing hs) (nothing_at_all hs ls)

  pub joined : (rows : List Row) → flat_map (λ p. tested (test p) p) rows ≡ flat_map beside (filter test rows)
  joined [] = refl
  joined (p ∷ rows) = by_test (test p) (joined rows)
    where
      by_test : (b : Bool) → flat_map (λ q. tested (test q) q) rows ≡ flat_map beside (filter test rows)
          → tested b p ++ flat_map (λ q. tested (test q) q) rows ≡ flat_map beside (cond b (p ∷ filter test rows) (filter test rows))
      by_test true more = ap (λ es. beside p ++ es) more
      by_test false more = ap₂ (λ (xs ys : List Env). xs ++ ys) (nothing_at_all (highs p) (lows p)) more

  pub joined_one : (rows : List Row) (p l h : Row) → filter test rows ≡ p ∷ [] → lows p ≡ l ∷ [] → highs p ≡ h ∷ []
      → flat_map (λ q. tested (test q) q) rows ≡ (params ∷ p ∷ l ∷ h ∷ []) ∷ []
  joined_one rows p l h one low high =
      joined rows ∙ (ap (flat_map beside) one
      ∙ ap₂ (λ (ls hs : List Row). flat_map (λ x. flat_map (λ y. (params ∷ p ∷ x ∷ y ∷ []) ∷ []) hs) ls ++ []) low high)

-- ---- the rows of the query

-- those whose number is this value, or one of NULLs
abbrev pub numbered_as : Value → List Row → List Row
numbered_as n rows = or_nulls (filter (λ r. is_true (binary (Compare Eq Binary) (column r 0) n) && true) rows)

abbrev pub asks : Row → Row → Bool
asks params p = list_all (holds (params ∷ p ∷ [])) score_tests

pub slip_one : (pairings players : ℕ) (db : Trees) (params p l h : Row) (rows : List Row)
    → filter (asks params) (db pairings) ≡ p ∷ []
    → numbered_as (column p 3) (db players) ≡ l ∷ [] → numbered_as (column p 4) (db players) ≡ h ∷ []
    → IsAnswer (slip_query pairings players) (overlay db []) params rows → rows ≡ eval_all slip_terms (params ∷ p ∷ l ∷ h ∷ []) ∷ []
slip_one pairings players db params p l h rows one low high a =
    let read = overlay db [] players in
    let stored = bare db players in
    one_shown (slip_query pairings players) params (params ∷ p ∷ l ∷ h ∷ []) (a.grouped
    ∙ joined_one (asks params) (λ r. numbered_as (column r 3) read) (λ r. numbered_as (column r 4) read) params
    (overlay db [] pairings) p l h
    (ap (filter (asks params)) (bare db pairings) ∙ one)
    (ap (numbered_as (column p 3)) stored ∙ low)
    (ap (numbered_as (column p 4)) stored ∙ high)) a.distinct a.same a.shown

pub none_permuted : {X : Type 0} (ys : List X) → IsPermutation [] ys → ys ≡ []
none_permuted [] same = refl
none_permuted (y ∷ ys) same = absurd (let len = length_permutation [] (y ∷ ys) same in omega (arith, len))

pub slip_none : (pairings players : ℕ) (db : Trees) (params : Row) (rows : List Row) → filter (asks params) (db pairings) ≡ []
    → IsAnswer (slip_query pairings players) (overlay db []) params rows → rows ≡ []
slip_none pairings players db params rows none a =
    let read = overlay db [] players in
    let stored : filter (asks params) (overlay db [] pairings) ≡ [] = ap (filter (asks params)) (bare db pairings) ∙ none in
    let staged : a.staged ≡ [] = a.grouped ∙ (joined (asks params) (λ r. numbered_as (column r 3) read)
    (λ r. numbered_as (column r 4) read) params (overlay db [] pairings) ∙ rw stored) in
    rw (none_permuted a.ordered (rw (a.distinct, staged) at a.same)) at a.shown

-- ---- a test that picks none

no_row : {X : Type 0} (f : X → Row) (xs : List X) → map f xs ≡ [] → xs ≡ []
no_row f [] none = refl
no_row f (x ∷ xs) none = absurd (cc)

none_picked : (shown : Row → Row) (test : Row → Bool) (rows all : List Row) → IsPermutation (map shown rows) all
    → filter test all ≡ [] → filter (λ x. test (shown x)) rows ≡ []
none_picked shown test rows all same none =
    let both = rw none at (IsPermutation-filter test (map shown rows) all same) in
    let empty = none_permuted (filter test (map shown rows)) (IsPermutation-sym _ _ both) in
    no_row shown (filter (λ x. test (shown x)) rows) (sym (filter-map test shown rows) ∙ empty)

-- ---- players who are known

-- what is shown of a player begins with the number and the name
abbrev shown_by : Bool → Row → Row
shown_by second row = if second then at_places player2_places row else at_places player_places row ++ number_value 0 ∷ []

named_by : (second : Bool) (r : Row) → column (shown_by second r) 1 ≡ column r 2
named_by true r = refl
named_by false r = refl

named : (version : ℕ) (r : Row) → column (player_shown version r) 1 ≡ column r 2
named version r = named_by (version == 2) r

picked_by : (second : Bool) (n : ℕ) (rows : List Row) → filter (picks n) rows ≡ filter (λ r. picks n (shown_by second r)) rows
picked_by true n rows = refl
picked_by false n rows = refl

picked : (version n : ℕ) (rows : List Row) → filter (picks n) rows ≡ filter (λ r. picks n (player_shown version r)) rows
picked version n rows = picked_by (version == 2) n rows

-- 0 represents nobody
abbrev Known : EventValue → ℕ → Type 0
Known e n = (n ≡ 0) ⊎ Contains (numbers e.players) n

module _ (e : EventValue) (sound : IsSoundButForSeeds e) where
  pub some_number : (n : ℕ) → Contains (numbers e.players) n → (1 ≤ n) × (n ≤ 512)
  some_number n known =
      let it = within (length e.players) n (subst (λ (ns : List ℕ). Contains ns n) sound.players.numbered known) in
      let few = sound.players.few in
      let low = it.0 in
      let high = it.1 in
      (low, omega (arith, few, high))

  somebody : (n : ℕ) → Contains (numbers e.players) n → second_of e n ≡ Some (n, name_of e n)
  somebody n known =
      let low = (some_number n known).0 in
      let some : (n == 0) ≡ false = grind (arith, nat_tests) in
      ap (λ b. cond b None (Some (n, name_of e n))) some

  lawful_player : (n : ℕ) → Contains (numbers e.players) n → IsPlayer (n, name_of e n)
  lawful_player n known =
      let size = some_number n known in
      let one = picks_one e.players n sound.players.numbered known in
      let all = recursion_from_All (λ name. IsTrue (is_lawful_name name)) (names e.players) sound.players.lawful in (
        size.0,
        size.1,
        rw one.first (All-find (λ (p : Player). IsTrue (is_lawful_name p.name)) (λ p. p.no == n) e.players one.it
            (All-from_recursion (λ (p : Player). IsTrue (is_lawful_name p.name)) e.players
            (all_from_map (λ name. IsTrue (is_lawful_name name)) (λ (p : Player). p.name) e.players all)) one.first),
      )

  lawful_side : (n : ℕ) → Known e n → IfSome (second_of e n) IsPlayer
  lawful_side n (inl none) = subst (λ k. IfSome (second_of e k) IsPlayer) (sym none) tt
  lawful_side n (inr known) = subst (λ (o : Side). IfSome o IsPlayer) (sym (somebody n known)) (lawful_player n known)

  -- one row has the number, or that of NULLs
  sits : (l : Layout) (db : Database) (s n : ℕ) → RepresentsAt l db e s → Known e n
      → (row : Row) × (numbered_as (number_value n) (db.trees (l.tree PlayerTable)) ≡ row ∷ [])
      × (column row 2 ≡ text_or_null (name_of_side (second_of e n)))
  sits l db s n represents (inl none) =
      let rows = db.trees (l.tree PlayerTable) in
      let out = picks_none e.players n (omega (arith, none)) sound.players.numbered in
      let all = none_picked (player_shown l.version) (picks n) rows (rows_of e.players) (represents.has.rows PlayerTable) out in
      ([], ap or_nulls (picked l.version n rows ∙ all), ap (λ k. text_or_null (name_of_side (second_of e k))) (sym none))
  sits l db s n represents (inr known) =
      let rows = db.trees (l.tree PlayerTable) in
      let one = picks_one e.players n sound.players.numbered known in
      let it = one_picked (player_shown l.version) (picks n) rows (rows_of e.players) (row_of one.it)
      (represents.has.rows PlayerTable) one.alone in
      let name : column it.0 2 ≡ Text one.it.name = sym (named l.version it.0) ∙ ap (λ (r : Row). column r 1) it.2 in
      let own = ap (λ (o : Option Player). Text (name_found o)) (sym one.first) in
      let named = ap (λ (o : Side). text_or_null (name_of_side o)) (sym (somebody n known)) in
      (it.0, ap or_nulls (picked l.version n rows ∙ it.1), name ∙ (own ∙ named))

-- ---- the matches of a sound event

pub record IsMatch (known : List ℕ) (m : Match) : Type 0 where
  pub first : Contains known m.a
  pub second : IsFalse (is_bye m) → Contains known m.b
  pub lawful : IsTrue (is_lawful_match 512 m)
  pub apart : m.a ≢ m.b

open_or_swiss : (o : Option Games) → IfSome o (λ s. IsTrue (is_swiss_score s)) → is_lawful_score false o ≡ true
open_or_swiss None h = refl
open_or_swiss (Some s) h = h

lawful_match : (n : ℕ) (m : Match) → n ≤ 512 → Contains (range_with_len 1 n) m.a → (IsFalse (is_bye m) → Contains (range_with_len 1 n) m.b)
    → (IsTrue (is_bye m) → m.score ≡ Some bye_score) → IfSome m.score (λ s. IsTrue (is_swiss_score s)) → IsTrue (is_lawful_match 512 m)
lawful_match n m few a b won score = by_bye (is_bye m) refl
  where
    first : is_known 512 m.a ≡ true
    first = let it = within n m.a a in let low = it.0 in let high = it.1 in grind (arith, nat_tests)

    by_bye : (alone : Bool) → is_bye m ≡ alone → IsTrue (is_lawful_match 512 m)
    by_bye true is = let told = won is in rw (first, is, told) refl
    by_bye false is =
        let it = within n m.b (b is) in
        let low = it.0 in
        let high = it.1 in
        let second : is_known 512 m.b ≡ true = grind (arith, nat_tests) in
        let told = open_or_swiss m.score score in
        rw (first, is, second, told) refl

seats_apart : (ms : List Match) → AllPairs (λ p q. p ≢ q) (flat_map seats ms) → AllByRecursion (λ (m : Match). m.a ≢ m.b) ms
seats_apart [] h = tt
seats_apart (m ∷ ms) h = (
  h 0 1 0 (omega arith) (omega arith),
  seats_apart ms (λ i j d before within. h (suc (suc i)) (suc (suc j)) d (omega arith) (omega arith)),
)

no_match : Match
no_match = record { a = 0; b = 0; score = None }

round_matches : (n : ℕ) (ms : List Match) → n ≤ 512 → IsRound (range_with_len 1 n) ms → All (IsMatch (range_with_len 1 n)) ms
round_matches n ms few h = All-from_get_or (IsMatch (range_with_len 1 n)) ms no_match (λ i low.
    let m = get_or ms i no_match in
    record {
      first = h.first_known i no_match low;
      second = h.second_known i no_match low;
      lawful = lawful_match n m few (h.first_known i no_match low) (h.second_known i no_match low) (h.byes_won i no_match low)
          (h.scores i no_match low);
      apart = All-from_recursion (λ (k : Match). k.a ≢ k.b) ms (seats_apart ms h.seated_once) i no_match low;
    })

pub all_matches : (e : EventValue) → IsSoundButForSeeds e → All (λ (r : Round). All (IsMatch (numbers e.players)) r.matches) e.stored
all_matches e sound =
    All-weaker (λ (r : Round). IsRound (numbers e.players) r.matches) (λ (r : Round). All (IsMatch (numbers e.players)) r.matches)
    (λ r h. subst (λ known. All (IsMatch known) r.matches) (sym sound.players.numbered)
    (round_matches (length e.players) r.matches sound.players.few (subst (λ known. IsRound known r.matches) sound.players.numbered h)))
    e.stored sound.rounds.each

-- ---- the slip of a match

row_same : (k t : ℕ) (n : ℕ × Match) → is_at t n ≡ true → pairing_row k n ≡ pairing_row k (t, n.1)
row_same k t n at = grind (arith, common_steps)

bye_at_none : (t : ℕ) (n : ℕ × Match) → is_at t n ≡ true → 1 ≤ n.0 → is_bye n.1 ≡ (t == 0)
bye_at_none t n at low = grind (arith, nat_tests)

number_second : (e : EventValue) (n : ℕ) → number_of_side (second_of e n) ≡ n
number_second e n = cond_of number_of_side (n == 0) None (Some (n, name_of e n)) ∙ grind (arith, nat_tests)

same_match : (e : EventValue) (k t : ℕ) (m : Match) → match_of_slip (slip_row e k t m) ≡ m
same_match e k t m = ap (λ b. (let it : Match = record { a = m.a; b = b; score = m.score } in it)) (number_second e m.b)

module _ (e : EventValue) (sound : IsSoundButForSeeds e) (k t : ℕ) (n : ℕ × Match)
    (found : Finds (IsMatch (numbers e.players)) (is_at t) n) where
  abbrev slip : SlipRow
  slip = slip_row e k t n.1

  known_second : Known e n.1.b
  known_second = grind (arith, common_steps)

  pub slip_lawful : IsLawfulSlip slip
  slip_lawful = record {
    played = rw (same_match e k t n.1) (record { lawful = found.0.lawful; apart = found.0.apart; bye = bye_at_none t n found.1 found.2 });
    first = lawful_player e sound n.1.a found.0.first;
    second = lawful_side e sound n.1.b known_second;
  }

  -- the two numbers with their names
  abbrev swapped : Bool
  swapped = nat_lt (number_of_side (second_of e n.1.b)) n.1.a

  known_low : Known e (min n.1.a n.1.b)
  known_low = of_min (Known e) n.1.a n.1.b (inr found.0.first) known_second

  known_high : Known e (max n.1.a n.1.b)
  known_high = of_max (Known e) n.1.a n.1.b (inr found.0.first) known_second

  abbrev name_at : ℕ → Option (List ℕ)
  name_at j = name_of_side (second_of e j)

  low_name : name_at (min n.1.a n.1.b) ≡ (named_pairing slip).lo_name
  low_name = grind (arith, common_steps)

  high_name : name_at (max n.1.a n.1.b) ≡ (named_pairing slip).hi_name
  high_name = grind (arith, common_steps)

  slip_pairing : pairing_row k n ≡ (named_pairing slip).pairing
  slip_pairing = row_same k t n found.1 ∙ ap (λ m. pairing_row k (t, m)) (sym (same_match e k t n.1))

  slip_read : (l : Layout) (db : Database) (s : ℕ) (rows : List Row) → RepresentsAt l db e s
      → rows_at e k t ≡ pairing_columns (pairing_row k n) ∷ []
      → IsAnswer (slip_query (l.tree PairingTable) (l.tree PlayerTable)) (overlay db.trees []) (number_value k ∷ number_value t ∷ []) rows
      → rows ≡ named_columns (named_pairing slip) ∷ []
  slip_read l db s rows represents alone a =
      let it = one_picked (at_places pairing_places) (picks_table k t) (db.trees (l.tree PairingTable))
      (map pairing_columns (pairing_rows e))
      (pairing_columns (pairing_row k n)) (represents.has.rows PairingTable) alone in
      let p = it.0 in
      let low = sits e sound l db s (min n.1.a n.1.b) represents known_low in
      let high = sits e sound l db s (max n.1.a n.1.b) represents known_high in
      let lo : column p 3 ≡ number_value (min n.1.a n.1.b) = ap (λ (r : Row). column r 2) it.2 in
      let hi : column p 4 ≡ number_value (max n.1.a n.1.b) = ap (λ (r : Row). column r 3) it.2 in
      let read = slip_one (l.tree PairingTable) (l.tree PlayerTable) db.trees
      (number_value k ∷ number_value t ∷ []) p low.0 high.0 rows it.1
      (ap (λ v. numbered_as v (db.trees (l.tree PlayerTable))) lo ∙ low.1)
      (ap (λ v. numbered_as v (db.trees (l.tree PlayerTable))) hi ∙ high.1) a in
      read ∙ ap (λ (r : Row). r ∷ []) (ap (λ (r : Row). r ++ column low.0 2 ∷ column high.0 2 ∷ []) it.2
      ∙ (ap₂ (λ x y. pairing_columns (pairing_row k n) ++ x ∷ y ∷ []) (low.2 ∙ ap text_or_null low_name)
      (high.2 ∙ ap text_or_null high_name)
      ∙ ap (λ r. pairing_columns r ++ text_or_null (named_pairing slip).lo_name ∷ text_or_null (named_pairing slip).hi_name ∷ [])
      slip_pairing))

-- ---- the event

-- what is read of it, and that its slip is lawful
pub slip_exact : (l : Layout) (db : Database) (e : EventValue) (s k t : ℕ) (rows : List Row) → RepresentsAt l db e s → IsSoundButForSeeds e
    → IsAnswer (slip_query (l.tree PairingTable) (l.tree PlayerTable)) (overlay db.trees []) (number_value k ∷ number_value t ∷ []) rows
    → rows ≡ map named_columns (named_pairings e k t)
slip_exact l db e s k t rows represents sound a =
    by_case (numbered_at e k t) (table_alone e k t (all_bye_last e sound)) (numbered-match e k t)
    (finds (IsMatch (numbers e.players)) t e k (all_matches e sound))
  where
    by_case : (o : Option (ℕ × Match)) → rows_at e k t ≡ map (λ n. pairing_columns (pairing_row k n)) (option_to_list o)
        → match_at e k t ≡ option_map (λ (n : ℕ × Match). n.1) o → IfSome o (Finds (IsMatch (numbers e.players)) (is_at t))
        → rows ≡ map named_columns (named_pairings e k t)
    by_case None alone is found = rw is (slip_none (l.tree PairingTable) (l.tree PlayerTable) db.trees
        (number_value k ∷ number_value t ∷ []) rows
        (none_picked (at_places pairing_places) (picks_table k t)
        (db.trees (l.tree PairingTable)) (map pairing_columns (pairing_rows e)) (represents.has.rows PairingTable) alone) a)
    by_case (Some n) alone is found = rw is (slip_read e sound k t n found l db s rows represents alone a)

pub slips_lawful : (e : EventValue) (k t : ℕ) → IsSoundButForSeeds e → IfSome (slip_of e k t) IsLawfulSlip
slips_lawful e k t sound = rw (numbered-match e k t) ((elim (numbered_at e k t) as (λ o. IfSome o
    (Finds (IsMatch (numbers e.players)) (is_at t)) → IfSome (option_map (slip_row e k t) (option_map (λ n. n.1) o)) IsLawfulSlip) [
      | None ↦ λ found. tt
      | Some n ↦ λ found. slip_lawful e sound k t n found
    ]) (finds (IsMatch (numbers e.players)) t e k (all_matches e sound)))

-- ---- as typed rows

pub named_typed : (typed rows : List NamedPairing) → map named_columns typed ≡ map named_columns rows → typed ≡ rows
named_typed typed rows = map-same named_columns (λ r s h. grind (arith, common_steps)) typed rows

-- ---- what is found

pub slip_names : (e : EventValue) (k t : ℕ) → IfSome (slip_of e k t) (λ slip. (slip.round ≡ k) × (slip.table ≡ t))
slip_names e k t = grind (arith, common_steps)

pub no_slip : (found : Option SlipRow) (rows : List NamedPairing) → rows ≡ map named_pairing (option_to_list found) → length rows < 1
    → found ≡ None
no_slip None rows is low = refl
no_slip (Some slip) rows is low = absurd (let len = ap length is in omega (arith, len, low))

pub one_slip : (found : Option SlipRow) (rows : List NamedPairing) (row : NamedPairing) → rows ≡ map named_pairing (option_to_list found)
    → 1 ≤ length rows → row ≡ get_or rows 0 row → (slip : SlipRow) × (found ≡ Some slip) × (row ≡ named_pairing slip)
one_slip None rows row is low at = absurd (let len = ap length is in omega (arith, len, low))
one_slip (Some slip) rows row is low at = (slip, refl, at ∙ ap (λ (all : List NamedPairing). get_or all 0 row) is)

pub few_slips : (found : Option SlipRow) (rows : List NamedPairing) → rows ≡ map named_pairing (option_to_list found) → 2 ≤ length rows → ⊥
few_slips None rows is low = let len = ap length is in omega (arith, len, low)
few_slips (Some slip) rows is low = let len = ap length is in omega (arith, len, low)

-- the slip of the row is that of the event
pub slip_found : (e : EventValue) (k t : ℕ) (slip : SlipRow) (read : Option SlipRow) (fault : Refusal) (r : Result SlipRow Refusal)
    → r ≡ ok_or read fault → IsSoundButForSeeds e → slip_of e k t ≡ Some slip
    → (IsLawfulSlip slip → slip.round ≡ k → slip.table ≡ t → read ≡ Some slip) → FindsSlipOrFails e k t r
slip_found e k t slip read fault r answer sound is exact =
    let named = rw is at (slip_names e k t) in
    rw (answer, exact (rw is at (slips_lawful e k t sound)) named.0 named.1) is
