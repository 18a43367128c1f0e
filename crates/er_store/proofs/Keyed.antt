-- Which row a round and a table pick, and the order in which the pairings are read.
use Rattle.er_store.proofs.Prelude.{if◌then◌else◌, ◌≡◌, ℕ, zero, suc, ◌+◌, ◌-◌, ◌≤◌, ◌==◌, Bool, true, false, cond, List, [], ◌∷◌, ◌++◌}
use Rattle.er_store.proofs.Prelude.{map, filter, find, length, take, Option, Some, None, option_map, option_to_list, slice_get, All, IfSome}
use Rattle.er_store.proofs.Prelude.{IsFalse, refl, sym, ap, subst, ◌∙◌, arith, AllByRecursion, All-nil, All-head, All-tail, All-weaker}
use Rattle.er_store.proofs.Prelude.{nat_tests, Row, column, Match, Round, PairingRow, EventValue, is_bye, enumerate_from, is_at, match_in}
use Rattle.er_store.proofs.Prelude.{match_at, pairing_row, round_rows, pairing_rows, numbers, IsRound, IsSoundButForSeeds, pairing_columns}
use Rattle.er_store.proofs.Prelude.{common_steps, not, ◌⊎◌, inl, inr, IsPermutation, IsPermutation-refl, IsPermutation-trans}
use Rattle.er_store.proofs.Prelude.{IsPermutation-map, recursion_from_All, IsAscending, Database, PairingTable, table_of, pairing_rows_from}
use Rattle.er_store.proofs.Prelude.{at_places, pairing_places, number_value, Layout, RepresentsAt, by_first_two, Lists, all_weaker}
use Rattle.er_store.proofs.Prelude.{IsPermutation-filter_both}
use Rattle.std.specs.Option.{option_and_then}
use Rattle.std.proofs.lemmas.List.Sorted.{IsPermutation-append}
use Rattle.er_event.specs.Rows.{by_key, keyed_round_rows, keyed_rows_from, keyed_pairing_rows}
use Rattle.er_store.proofs.PickingMatch.{picks_table, rows_at, one_at, table_tells, table_told, of_round, pairings_shown, all_picked}
use Rattle.er_store.proofs.{PickingMatch.{passing, Finds, found_in}, Grouped.{rows_from, listed_by_two, IsBelow, tested_rise, rises_from}}
use Rattle.er_store.proofs.Grouped.{below_tested}

-- ---- at most one match is at a table

abbrev Seated : Match → Type 0
Seated m = IsFalse (is_bye m)

-- no match but the last is a bye
abbrev pub ByeLast : List Match → Type 0
ByeLast ms = All (λ (m : Match). IsFalse (is_bye m)) (take (length ms - 1) ms)

pub all_bye_last : (e : EventValue) → IsSoundButForSeeds e → All (λ (r : Round). ByeLast r.matches) e.stored
all_bye_last e sound = All-weaker (λ (r : Round). IsRound (numbers e.players) r.matches) (λ (r : Round). ByeLast r.matches)
    (λ r h. h.bye_last) e.stored sound.rounds.each

one_less : (n : Match) (ms : List Match) → length (n ∷ ms) - 1 ≡ length ms
one_less n ms = omega arith

bye_last : (m n : Match) (ms : List Match) → ByeLast (m ∷ n ∷ ms) → All Seated (m ∷ take (length ms) (n ∷ ms))
bye_last m n ms h = subst (λ k. All Seated (take k (m ∷ n ∷ ms))) (one_less m (n ∷ ms)) h

pub last_tail : (m : Match) (ms : List Match) → ByeLast (m ∷ ms) → ByeLast ms
last_tail m [] h = All-nil Seated
last_tail m (n ∷ ms) h = subst (λ k. All Seated (take k (n ∷ ms))) (sym (one_less n ms))
    (All-tail Seated m (take (length ms) (n ∷ ms)) (bye_last m n ms h))

pub last_head : (m n : Match) (ms : List Match) → ByeLast (m ∷ n ∷ ms) → IsFalse (is_bye m)
last_head m n ms h = All-head Seated m (take (length ms) (n ∷ ms)) (bye_last m n ms h)

-- the matches at this table, of which there is one or none
one_at_table : (t n : ℕ) (ms : List Match) → 1 ≤ n → ByeLast ms
    → filter (is_at t) (enumerate_from n ms) ≡ option_to_list (find (is_at t) (enumerate_from n ms))
one_at_table (suc t) n ms low last = one_at (suc t) (is_at (suc t)) (table_tells (suc t) (omega arith)) n ms
one_at_table zero n [] low last = refl
one_at_table zero n (m ∷ []) low last = grind (arith, nat_tests)
one_at_table zero n (m ∷ x ∷ xs) low last =
    let seated = last_head m x xs last in
    grind (arith, nat_tests, one_at_table zero (n + 1) (x ∷ xs) (omega arith) (last_tail m (x ∷ xs) last))

-- the numbered match at this table of the round
abbrev numbered_in : List Match → ℕ → Option (ℕ × Match)
numbered_in ms t = find (is_at t) (enumerate_from 1 ms)

-- and that of the round at this place
abbrev in_rounds : List Round → ℕ → ℕ → Option (ℕ × Match)
in_rounds rounds i t = option_and_then (λ (r : Round). numbered_in r.matches t) (slice_get rounds i)

-- the stored match at this table of this round, with its number in the round
abbrev pub numbered_at : EventValue → ℕ → ℕ → Option (ℕ × Match)
numbered_at e k t = cond (k == 0) None (in_rounds e.stored (k - 1) t)

-- the rows that a round and a table pick: one, or none
pub table_alone : (e : EventValue) (k t : ℕ) → All (λ (r : Round). ByeLast r.matches) e.stored
    → rows_at e k t ≡ map (λ n. pairing_columns (pairing_row k n)) (option_to_list (numbered_at e k t))
table_alone e k t last =
    ap (filter (picks_table k t)) (sym (pairings_shown e.stored))
    ∙ all_picked of_round (λ j n. pairing_columns (pairing_row j n)) k t (is_at t) (table_told k t) e.stored
    ∙ ap (map (λ n. pairing_columns (pairing_row k n))) (by_zero (k == 0))
  where
    in_round : (i : ℕ) (rounds : List Round) → All (λ (r : Round). ByeLast r.matches) rounds
        → passing of_round (is_at t) k (slice_get rounds i) ≡ option_to_list (in_rounds rounds i t)
    in_round i [] all = refl
    in_round zero (r ∷ rounds) all = one_at_table t 1 r.matches (omega arith) (All-head (λ (q : Round). ByeLast q.matches) r rounds all)
    in_round (suc i) (r ∷ rounds) all = in_round i rounds (All-tail (λ (q : Round). ByeLast q.matches) r rounds all)

    by_zero : (b : Bool) → passing of_round (is_at t) k (if b then None else slice_get e.stored (k - 1))
        ≡ option_to_list (cond b None (in_rounds e.stored (k - 1) t))
    by_zero true = refl
    by_zero false = in_round (k - 1) e.stored last

-- it is the match of that table
pub numbered-match : (e : EventValue) (k t : ℕ) → match_at e k t ≡ option_map (λ (n : ℕ × Match). n.1) (numbered_at e k t)
numbered-match e k t = by_zero (k == 0) (slice_get e.stored (k - 1))
  where
    by_zero : (b : Bool) (o : Option Round) → cond b None (option_and_then (λ (r : Round). match_in r.matches t) o)
        ≡ option_map (λ (n : ℕ × Match). n.1) (cond b None (option_and_then (λ (r : Round). numbered_in r.matches t) o))
    by_zero true o = refl
    by_zero false None = refl
    by_zero false (Some r) = refl

-- ---- what holds of the matches holds of the one at a table

module _ (P : Match → Type 0) (t : ℕ) where
  found_at : (i : ℕ) (rounds : List Round) → All (λ (r : Round). All P r.matches) rounds → IfSome (in_rounds rounds i t) (Finds P (is_at t))
  found_at i [] all = tt
  found_at zero (r ∷ rounds) all = found_in P (is_at t) 1 r.matches (omega arith) (All-head (λ (q : Round). All P q.matches) r rounds all)
  found_at (suc i) (r ∷ rounds) all = found_at i rounds (All-tail (λ (q : Round). All P q.matches) r rounds all)

  pub finds : (e : EventValue) (k : ℕ) → All (λ (r : Round). All P r.matches) e.stored → IfSome (numbered_at e k t) (Finds P (is_at t))
  finds e k all = grind (arith, common_steps, found_at, is_at)

-- ---- the same rows

round_permutes : (r : ℕ) (ms : List Match) → IsPermutation (round_rows r ms) (keyed_round_rows r ms)
round_permutes r ms =
    IsPermutation-map (pairing_row r) (enumerate_from 1 ms) (by_key (enumerate_from 1 ms))
    (IsPermutation-filter_both (λ (n : ℕ × Match). is_bye n.1) (λ (n : ℕ × Match). not (is_bye n.1)) (λ n. refl) (enumerate_from 1 ms))

rounds_permute : (r : ℕ) (rounds : List Round) → IsPermutation (pairing_rows_from r rounds) (keyed_rows_from r rounds)
rounds_permute r [] = IsPermutation-refl []
rounds_permute r (first ∷ later) =
    IsPermutation-append (round_rows r first.matches) (keyed_round_rows r first.matches) (pairing_rows_from (r + 1) later)
    (keyed_rows_from (r + 1) later) (round_permutes r first.matches) (rounds_permute (r + 1) later)

pub keyed_permutes : (e : EventValue) → IsPermutation (map pairing_columns (pairing_rows e)) (map pairing_columns (keyed_pairing_rows e))
keyed_permutes e = IsPermutation-map pairing_columns (pairing_rows e) (keyed_pairing_rows e) (rounds_permute 1 e.stored)

-- ---- their order

abbrev Rise : List PairingRow → Type 0
Rise rows = IsAscending IsBelow (map pairing_columns rows)

abbrev is_seated : ℕ × Match → Bool
is_seated n = not (is_bye n.1)

table_is : (round : ℕ) (n : ℕ × Match) → is_seated n ≡ true → column (pairing_columns (pairing_row round n)) 1 ≡ number_value n.0
table_is round n seated = ap number_value (let own : table_of n ≡ n.0 = grind (arith, nat_tests) in own)

bye_table : (round : ℕ) (n : ℕ × Match) → is_bye n.1 ≡ true → column (pairing_columns (pairing_row round n)) 1 ≡ number_value 0
bye_table round n alone = rw alone

abbrev byes : ℕ → List Match → List (ℕ × Match)
byes n ms = filter (λ (k : ℕ × Match). is_bye k.1) (enumerate_from n ms)

-- a bye, if there is one, and no other
abbrev AtMostBye : List (ℕ × Match) → Type 0
AtMostBye ns = (ns ≡ []) ⊎ ((k : ℕ × Match) × (ns ≡ k ∷ []) × (is_bye k.1 ≡ true))

one_bye : (n : ℕ) (ms : List Match) → ByeLast ms → AtMostBye (byes n ms)
one_bye n [] last = inl refl
one_bye n (m ∷ []) last = grind (arith, common_steps)
one_bye n (m ∷ x ∷ xs) last = let seated = last_head m x xs last in rw seated (one_bye (n + 1) (x ∷ xs) (last_tail m (x ∷ xs) last))

-- these are ahead of the tables, and all rise
abbrev RiseAhead : ℕ → List Match → List (ℕ × Match) → Type 0
RiseAhead round ms ahead = Rise (map (pairing_row round) (ahead ++ filter is_seated (enumerate_from 1 ms)))

-- a bye's table 0 comes first
round_rises : (round : ℕ) (ms : List Match) → ByeLast ms → Rise (keyed_round_rows round ms)
round_rises round ms last = by_byes (one_bye 1 ms last)
  where
    rises : Rise (map (pairing_row round) (filter is_seated (enumerate_from 1 ms)))
    rises = tested_rise pairing_columns pairing_row (λ k n. refl) round is_seated (table_is round) 1 ms

    before : (k : ℕ × Match) → is_bye k.1 ≡ true → AllByRecursion (IsBelow (pairing_columns (pairing_row round k)))
        (map pairing_columns (map (pairing_row round) (filter is_seated (enumerate_from 1 ms))))
    before k alone =
        below_tested pairing_columns pairing_row (λ k n. refl) round is_seated (table_is round) 0 1
        (pairing_columns (pairing_row round k)) ms
        refl (bye_table round k alone) (omega arith)

    by_byes : AtMostBye (byes 1 ms) → Rise (keyed_round_rows round ms)
    by_byes (inl none) = subst (RiseAhead round ms) (sym none) rises
    by_byes (inr (k, one, alone)) = subst (RiseAhead round ms) (sym one) (before k alone, rises)

rounds_rise : (rounds : List Round) → AllByRecursion (λ (r : Round). ByeLast r.matches) rounds
    → AllByRecursion (λ (r : Round). (k : ℕ) → Rise (keyed_round_rows k r.matches)) rounds
rounds_rise = all_weaker (λ (r : Round). ByeLast r.matches) _ (λ r last k. round_rises k r.matches last)

keyed_rows_are : (k : ℕ) (rounds : List Round) → keyed_rows_from k rounds
    ≡ rows_from (λ n (r : Round). keyed_round_rows n r.matches) k rounds
keyed_rows_are k [] = refl
keyed_rows_are k (r ∷ rounds) = ap (λ rows. keyed_round_rows k r.matches ++ rows) (keyed_rows_are (k + 1) rounds)

-- ---- what is listed

pub pairings_exact : (l : Layout) (db : Database) (e : EventValue) (s : ℕ) (listed : List Row) → RepresentsAt l db e s
    → IsSoundButForSeeds e
    → Lists by_first_two (map (at_places pairing_places) (db.trees (l.tree PairingTable))) listed
    → listed ≡ map pairing_columns (keyed_pairing_rows e)
pairings_exact l db e s listed represents sound h =
    let last = recursion_from_All (λ (r : Round). ByeLast r.matches) e.stored (all_bye_last e sound) in
    let rise = rises_from pairing_columns pairing_row (λ k n. refl) (λ (r : Round). by_key (enumerate_from 1 r.matches)) 1 e.stored
    (rounds_rise e.stored last) in
    listed_by_two _ listed (map pairing_columns (keyed_pairing_rows e))
    (subst Rise (sym (keyed_rows_are 1 e.stored)) rise) (IsPermutation-trans _ _ _ (represents.has.rows PairingTable) (keyed_permutes e)) h
