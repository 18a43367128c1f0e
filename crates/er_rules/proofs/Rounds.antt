-- The tables of a legal pairing are a round that the event may have next.
use Rattle.std.proofs.{lemmas.Grind.common_steps, Common.{◌≡◌, ◌≢◌, ◌⊎◌, inl, inr, ℕ, ◌+◌, ◌-◌, ◌<◌, ◌≤◌, ◌==◌, not, Bool, true}}
use Rattle.std.proofs.Common.{List, [], ◌∷◌, ◌++◌, length, map, filter, take, flat_map, All, AllPairs, IsTrue, IsFalse, IfSome}
use Rattle.std.proofs.Common.{IsPermutation, Contains, get_or, slice_index, Option, Some, None, refl, sym, ap, ◌∙◌, arith}
use Rattle.std.proofs.Common.{length-append, append-nil}
use Rattle.std.proofs.{Common.append_assoc, lemmas.Bool.{cases_Bool, cases_lt, not-true, eqb-true}}
use Rattle.std.proofs.{lemmas.Bool.Decides.{nat_tests, Decides-eqb}, lemmas.List.{get_or-map, get_or_append_left}}
use Rattle.std.proofs.{lemmas.List.length-map, lemmas.List.Concat.flat_map-append, lemmas.List.Elements.{All-push, All-contains}}
use Rattle.std.proofs.lemmas.List.Elements.{All-filter, All-map, All-take, All-weaker, All-from_recursion, recursion_from_All}
use Rattle.std.proofs.{lemmas.List.Elements.{Contains-get_or, filter_passes}, lemmas.List.FromFn.length-range_with_len}
use Rattle.std.proofs.{lemmas.List.FromFn.get_or-range_with_len, lemmas.List.Sorted.{IsPermutation-refl, IsPermutation-trans}}
use Rattle.std.proofs.lemmas.List.Sorted.{IsPermutation-append, IsPermutation-append_comm, IsPermutation-filter_both, All-permutation}
use Rattle.std.proofs.{lemmas.List.Sorted.length_permutation, lemmas.Map.Keys.IsDistinct-IsPermutation}
use Rattle.std.proofs.lemmas.Map.Made.{AllPairs-from_IsDistinct, IsDistinct-from_AllPairs}
use Rattle.std.specs.List.{list_any, last_or, range_with_len, AllByRecursion}
use Rattle.er_event.specs.{declared.events.Phase.TheVariants.Swiss, declared.players.Player.Player, declared.matches.Match.Match}
use Rattle.er_event.specs.{declared.rounds.Round.Round, Event.EventValue, Score.{is_swiss_score, bye_score}, Round.{is_bye, is_complete}}
use Rattle.er_event.specs.{Round.{is_same_pairing, seats, matches_of}, Sound.{numbers, IsRound, IsSoundButForSeeds}, Change.IsNextRound}
use Rattle.er_pair.specs.{Met.have_met, Order.{active_numbers, IsOrder}, Pairing.{Pair, positions, all_positions, IsEarliest, entries}}
use Rattle.er_rules.specs.Commands.{active, is_round_open, newest_is_open}
use Rattle.er_event.specs.Round.{match_of, tables_of}

-- ---- the tables are the matches of the pairs, in another order

abbrev seated : List Match → List Match
seated ms = filter (λ m. not (is_bye m)) ms

abbrev byes : List Match → List Match
byes ms = filter is_bye ms

tables_same : (ms : List Match) → IsPermutation ms (seated ms ++ byes ms)
tables_same ms = IsPermutation-filter_both (λ m. not (is_bye m)) is_bye (λ m. grind arith) ms

All-tables : (P : Match → Type 0) (ps : List Pair) → All (λ p. P (match_of p)) ps → All P (tables_of ps)
All-tables P ps all = All-permutation P (map match_of ps) (tables_of ps) (tables_same (map match_of ps)) (All-map P match_of ps all)

-- ---- who sits where

-- the seats, table by table, and then those of the byes
abbrev all_seats : List Match → List ℕ
all_seats ms = flat_map seats (seated ms) ++ flat_map seats (byes ms)

moved_back : (a b : ℕ) (front back : List ℕ) → IsPermutation (a ∷ b ∷ (front ++ back)) (front ++ a ∷ b ∷ back)
moved_back a b front back =
    let turned = IsPermutation-append_comm (a ∷ b ∷ []) front in
    rw (append_assoc front (a ∷ b ∷ []) back) at
    (IsPermutation-append ((a ∷ b ∷ []) ++ front) (front ++ a ∷ b ∷ []) back back turned (IsPermutation-refl back))

seats_split : (ms : List Match) → IsPermutation (flat_map seats ms) (all_seats ms)
seats_split [] = IsPermutation-refl []
seats_split (m ∷ ms) =
    let own = m.a ∷ m.b ∷ [] in
    let both = IsPermutation-append own own (flat_map seats ms) (all_seats ms) (IsPermutation-refl own) (seats_split ms) in
    elim (cases_Bool (is_bye m)) [
      | inl bye ↦ rw bye (IsPermutation-trans (own ++ flat_map seats ms) (own ++ all_seats ms) _ both
          (moved_back m.a m.b (flat_map seats (seated ms)) (flat_map seats (byes ms))))
      | inr plays ↦ rw plays both
    ]

pairs_seats : (ps : List Pair) → flat_map seats (map match_of ps) ≡ positions ps
pairs_seats [] = refl
pairs_seats (p ∷ ps) = ap (λ (l : List ℕ). p.0 ∷ p.1 ∷ l) (pairs_seats ps)

abbrev Apart : List ℕ → Type 0
Apart = AllPairs (λ p q. p ≢ q)

pub apart_moved : (xs ys : List ℕ) → IsPermutation xs ys → Apart xs → Apart ys
apart_moved xs ys same apart = AllPairs-from_IsDistinct Decides-eqb ys
    (IsDistinct-IsPermutation ◌==◌ (λ x y. grind (arith, nat_tests)) xs ys same (IsDistinct-from_AllPairs Decides-eqb xs apart))

-- ---- the bye stands last

one_bye : (bs : List Match) (more : List ℕ) → AllByRecursion (λ m. is_bye m ≡ true) bs → Apart (flat_map seats bs ++ more) → length bs ≤ 1
one_bye [] more all apart = omega arith
one_bye (b ∷ []) more all apart = omega arith
one_bye (b ∷ c ∷ bs) more all apart =
    absurd (apart 1 3 0 (omega arith) (omega arith) (eqb-true b.b 0 all.0 ∙ sym (eqb-true c.b 0 all.1.0)))

abbrev Plays : Match → Type 0
Plays m = IsFalse (is_bye m)

last_bye : (front back : List Match) → All Plays front → length back ≤ 1 → All Plays (take (length (front ++ back) - 1) (front ++ back))
last_bye front [] all few = All-take Plays (length (front ++ []) - 1) (front ++ []) (rw (append-nil front) all)
last_bye front (b ∷ []) all few = grind (arith, common_steps)
last_bye front (b ∷ c ∷ more) all few = absurd (omega arith)

-- ---- the numbers of those who are paired

active_listed : (e : EventValue) → All (Contains (numbers e.players)) (active_numbers e)
active_listed e =
    let no : Player → ℕ = λ p. p.no in
    let listed : All (λ (p : Player). Contains (numbers e.players) p.no) e.players = λ k d below.
    let within : k < length (numbers e.players) = omega (arith, below, length-map e.players no) in
    rw (get_or-map no e.players k d d.no below) at (Contains-get_or (numbers e.players) k d.no within) in
    All-map (Contains (numbers e.players)) (λ (p : Player). p.no) (filter (λ (p : Player). not p.dropped) e.players)
    (All-filter (λ (p : Player). not p.dropped) (λ (p : Player). Contains (numbers e.players) p.no) e.players listed)

-- each seat but the last is a player's
front_player : (players order : List ℕ) (k : ℕ) → (order ≡ players) ⊎ (order ≡ players ++ 0 ∷ []) → k + 1 < length order
    → Contains players (slice_index order k)
front_player players order k (inl is) below = rw is (Contains-get_or players k 0 (omega (arith, ap length is)))
front_player players order k (inr is) below =
    let inside : k < length players = omega (arith, ap length is, length-append players (0 ∷ [])) in
    rw is (rw (get_or_append_left players (0 ∷ []) 0 k inside) (Contains-get_or players k 0 inside))

abbrev Sits : EventValue → ℕ → Type 0
Sits e n = (n ≡ 0) ⊎ Contains (numbers e.players) n

all_sit : (e : EventValue) (players order : List ℕ) → All (Contains (numbers e.players)) players
    → (order ≡ players) ⊎ (order ≡ players ++ 0 ∷ []) → All (Sits e) order
all_sit e players order all is =
    let sit = All-weaker (Contains (numbers e.players)) (Sits e) (λ n h. inr h) players all in
    elim is [
      | inl same ↦ rw same sit
      | inr bye ↦ rw bye (All-push (Sits e) players 0 sit (inl refl))
    ]

by_pairs : (P : ℕ → Type 0) (ps : List Pair) → AllByRecursion P (positions ps) → AllByRecursion (λ (p : Pair). P p.0 × P p.1) ps
by_pairs P [] h = tt
by_pairs P (p ∷ ps) h = ((h.0, h.1.0), by_pairs P ps h.1.1)

of_pairs : (P : ℕ → Type 0) (ps : List Pair) → All P (positions ps) → All (λ (p : Pair). P p.0 × P p.1) ps
of_pairs P ps all = All-from_recursion (λ (p : Pair). P p.0 × P p.1) ps (by_pairs P ps (recursion_from_All P (positions ps) all))

below_end : (n : ℕ) → All (λ k. k < n) (range_with_len 0 n)
below_end n k d below =
    let long = length-range_with_len 0 n in
    omega (arith, get_or-range_with_len 0 n k d (omega arith))

-- ---- a match of a pair

score_lawful : (p : Pair) → IfSome (match_of p).score (λ s. IsTrue (is_swiss_score s))
score_lawful p = elim (cases_Bool (p.1 == 0)) [ inl bye ↦ rw bye refl | inr plays ↦ rw plays tt ]

sits_opposite : (e : EventValue) (p : Pair) → Sits e p.1 → IsFalse (is_bye (match_of p)) → Contains (numbers e.players) p.1
sits_opposite e p h1 plays = grind (arith, common_steps)

-- ---- the rounds before

-- the last round of some
last_at : (o : Option Round) (rs : List Round) (d : Round) → 0 < length rs → last_or o rs ≡ Some (get_or rs (length rs - 1) d)
last_at o [] d some = absurd (omega arith)
last_at o (r ∷ []) d some = refl
last_at o (r ∷ q ∷ rs) d some = let more = last_at (Some r) (q ∷ rs) d (omega arith) in grind (arith, common_steps)

pub newest : (rs : List Round) (d : Round) → 0 < length rs
    → is_round_open (last_or None rs) ≡ not (is_complete (get_or rs (length rs - 1) d).matches)
newest rs d some = rw (last_at None rs d some)

rounds_done : (e : EventValue) → IsSoundButForSeeds e → IsFalse (newest_is_open e)
    → All (λ (r : Round). IsTrue (is_complete r.matches)) e.stored
rounds_done e sound closed k d below =
    let early = sound.rounds.earlier_done k d in
    let last = newest e.stored d (omega arith) in
    elim (cases_lt k (length e.stored - 1)) [
      | inl before ↦ grind (arith, common_steps)
      | inr at ↦ grind (arith, common_steps)
    ]

-- ---- the round

-- the earliest legal pairing of an order, and the numbers that it pairs
pub record IsPairing (met : ℕ → ℕ → Bool) (order : List ℕ) (ps : List Pair) : Type 0 where
  pub pairs : List Pair
  pub earliest : IsEarliest met order pairs
  pub are : ps ≡ entries order pairs
  pub rising : All (λ (p : Pair). p.0 < p.1) pairs
  pub seated_all : IsPermutation order (positions ps)
  pub new : All (λ (p : Pair). IsFalse (met p.0 p.1)) ps

pub moved : (met met2 : ℕ → ℕ → Bool) (order order2 : List ℕ) (ps : List Pair) → met ≡ met2 → order ≡ order2 → IsPairing met order ps
    → IsPairing met2 order2 ps
moved met met2 order order2 ps same is it = rw (same, is) at it

module _ (e : EventValue) (key : ℕ → ℕ) (order : List ℕ) (ps : List Pair) (ordered : IsOrder e key order) (distinct : Apart order)
    (two : 2 ≤ length (active e)) (it : IsPairing (have_met e) order ps) where
  abbrev known : List ℕ
  known = numbers e.players

  players_listed : All (Contains known) ordered.players
  players_listed = All-permutation (Contains known) (active_numbers e) ordered.players ordered.everyone (active_listed e)

  seats_are : (order ≡ ordered.players) ⊎ (order ≡ ordered.players ++ 0 ∷ [])
  seats_are = grind (arith, common_steps)

  long : 2 ≤ length order
  long = grind (arith, common_steps, length-append, length-map, length_permutation, moved, seats_are)

  within : All (λ (p : Pair). (p.0 < length order) × (p.1 < length order)) it.pairs
  within = of_pairs (λ k. k < length order) it.pairs (All-permutation (λ k. k < length order) (all_positions order) (positions it.pairs)
      it.earliest.legal.each_once (below_end (length order)))

  first_listed : All (λ (p : Pair). Contains known (slice_index order p.0)) it.pairs
  first_listed k d below =
      let at = (get_or it.pairs k d).0 in
      let early : at + 1 < length order = omega (arith, it.rising k d below, (within k d below).1) in
      All-contains (Contains known) ordered.players (slice_index order at) players_listed
      (front_player ordered.players order at seats_are early)

  firsts : All (λ (p : Pair). Contains known p.0) ps
  firsts = rw it.are (All-map (λ (p : Pair). Contains known p.0) (λ (p : Pair). (slice_index order p.0, slice_index order p.1)) it.pairs
      first_listed)

  seconds : All (λ (p : Pair). Sits e p.0 × Sits e p.1) ps
  seconds =
      let all = all_sit e ordered.players order players_listed seats_are in
      of_pairs (Sits e) ps (All-permutation (Sits e) order (positions ps) it.seated_all all)

  some_table : 0 < length (tables_of ps)
  some_table =
      let same = length_permutation (map match_of ps) (tables_of ps) (tables_same (map match_of ps)) in
      let as_many = length-map ps match_of in
      let all = length_permutation order (positions ps) it.seated_all in
      omega (arith, same, as_many, some_pair ps (omega (arith, all, long)))
    where
      some_pair : (qs : List Pair) → 0 < length (positions qs) → 0 < length qs
      some_pair h1 h = grind (arith, common_steps)

  apart : Apart (all_seats (map match_of ps))
  apart =
      let moved = IsPermutation-trans order (positions ps) _ it.seated_all (rw (pairs_seats ps) at (seats_split (map match_of ps))) in
      apart_moved order (all_seats (map match_of ps)) moved distinct

  bye_at_end : All Plays (take (length (tables_of ps) - 1) (tables_of ps))
  bye_at_end =
      let ms = map match_of ps in
      let turned = apart_moved _ _ (IsPermutation-append_comm (flat_map seats (seated ms)) (flat_map seats (byes ms))) apart in
      let plays : All Plays (seated ms) = All-weaker (λ m. not (is_bye m) ≡ true) Plays (λ m. not-true (is_bye m)) (seated ms)
      (filter_passes (λ m. not (is_bye m)) ms) in
      let all_byes = recursion_from_All (λ m. is_bye m ≡ true) (byes ms) (filter_passes is_bye ms) in
      last_bye (seated ms) (byes ms) plays (one_bye (byes ms) (flat_map seats (seated ms)) all_byes turned)

  round : IsRound known (tables_of ps)
  round = record {
    some = some_table;
    first_known = All-tables (λ m. Contains known m.a) ps firsts;
    second_known = All-tables (λ m. IsFalse (is_bye m) → Contains known m.b) ps
        (λ k d below. sits_opposite e (get_or ps k d) (seconds k d below).1);
    seated_once = rw (flat_map-append seats (seated (map match_of ps)) (byes (map match_of ps))) apart;
    byes_won = All-tables (λ m. IsTrue (is_bye m) → m.score ≡ Some bye_score) ps (λ k d below bye. rw bye refl);
    scores = All-tables (λ m. IfSome m.score (λ s. IsTrue (is_swiss_score s))) ps (λ k d below. score_lawful (get_or ps k d));
    bye_last = bye_at_end;
  }

  pub may_come_next : IsSoundButForSeeds e → e.phase ≡ Swiss → length e.stored < e.rounds → IsFalse (newest_is_open e)
      → IsNextRound e (tables_of ps)
  may_come_next sound swiss room closed = record {
    swiss = swiss;
    room = room;
    done = rounds_done e sound closed;
    round = round;
    new = All-tables (λ m. IsFalse (list_any (λ n. is_same_pairing n m) (matches_of e.stored))) ps it.new;
  }
