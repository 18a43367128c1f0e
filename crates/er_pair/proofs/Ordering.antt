-- Places that are sorted give the order.
use Rattle.std.proofs.{lemmas.Grind.common_steps, Common.{AllPairs, ◌≡◌, ◌≢◌, ℕ, zero, suc, ◌+◌, ◌%◌, ◌<◌, ◌≤◌, ◌==◌, nat_lt, true, false}}
use Rattle.std.proofs.Common.{not, cond, List, [], ◌∷◌, ◌++◌, length, map, filter, get_or, count_by, All, IsPermutation, refl, sym, ap}
use Rattle.std.proofs.{Common.{◌∙◌, arith, not-suc-le-zero}, lemmas.Bool.cond_both, lemmas.Bool.Decides.{nat_tests, Decides-eqb}}
use Rattle.std.proofs.{lemmas.List.{length-map, get_or-map}, lemmas.List.Elements.Contains-get_or, lemmas.List.Kept.AllPairs-cons}
use Rattle.std.proofs.{lemmas.List.Quantifiers.all_pairs_push, lemmas.List.Sorted.{IsPermutation-map, IsPermutation-sym, All-permutation}}
use Rattle.std.proofs.{lemmas.List.Sorted.{length_permutation, sorted_far}, lemmas.List.Sums.{sum_by-cons, count_by-le-length}}
use Rattle.std.proofs.{lemmas.List.Sums.length-filter, lemmas.Map.Keys.IsDistinct-IsPermutation, lemmas.Map.Made.AllPairs-from_IsDistinct}
use Rattle.std.proofs.lemmas.Map.Made.{IsDistinct-from_AllPairs}
use Rattle.std.specs.{Cmp.IsStrictWeakOrder, List.Sorted.IsSortedBy}
use Rattle.er_event.specs.{declared.players.Player.Player, Event.EventValue, Sound.IsSoundButForSeeds, Totals.totals}
use Rattle.er_pair.specs.{declared.entrants.Entrant.Entrant, Order.{AreKeys, active_numbers, place_among, comes_before, seats_of, IsOrder}}
use Rattle.er_pair.specs.inside.Entrant.{is_before, entrant_of, entrants_of}
use Rattle.er_pair.proofs.{Picking.{Above, Rises, In, Above-In, In-from_Contains, Rises-range, Above-range}, Counting.In-IsPermutation}
use Rattle.er_pair.proofs.Placing.{active_in}

-- ---- the tests of places

-- the test is one of an order
place_order : IsStrictWeakOrder is_before
place_order = grind (arith, common_steps)

strictly_before : (p q : Entrant) → is_before q p ≡ false → (p.number ≡ q.number → ⊥) → is_before p q ≡ true
strictly_before p q h apart = grind (arith, nat_tests)

-- of two one does not come before the other and after it
pub comes_one_way : (event : EventValue) (key : ℕ → ℕ) (p q : ℕ) → comes_before event key p q ≡ true → comes_before event key q p ≡ false
comes_one_way event key p q h = grind (arith, nat_tests)

-- ---- the numbers

abbrev numbers : List Player → List ℕ
numbers players = map (λ (p : Player). p.no) players

Above-filter : (x : ℕ) (players : List Player) → Above x (numbers players) → Above x (active_in players)
Above-filter x [] above = tt
Above-filter x (p ∷ ps) above =
    let rest = filter (λ (q : Player). not q.dropped) ps in
    let later = Above-filter x ps above.1 in
    cond_both (not p.dropped) (p ∷ rest) rest (λ (qs : List Player). Above x (numbers qs)) (λ _. (above.0, later)) (λ _. later)

active_rise : (players : List Player) → Rises (numbers players) → Rises (active_in players)
active_rise [] rises = tt
active_rise (p ∷ ps) rises =
    let rest = filter (λ (q : Player). not q.dropped) ps in
    let later = active_rise ps rises.1 in
    cond_both (not p.dropped) (p ∷ rest) rest (λ (qs : List Player). Rises (numbers qs))
    (λ _. (Above-filter p.no ps rises.0, later)) (λ _. later)

-- the active numbers rise from 1 on
numbers_rise : (event : EventValue) → IsSoundButForSeeds event → Rises (active_numbers event)
numbers_rise event sound = active_rise event.players (rw sound.players.numbered (Rises-range 1 (length event.players)))

numbers_positive : (event : EventValue) → IsSoundButForSeeds event → Above 0 (active_numbers event)
numbers_positive event sound =
    Above-filter 0 event.players (rw sound.players.numbered (Above-range 0 1 (length event.players) (omega arith)))

below_cons : (n x : ℕ) (xs : List ℕ)
    → count_by (λ q. nat_lt q n) (x ∷ xs) ≡ cond (nat_lt x n) 1 0 + count_by (λ q. nat_lt q n) xs
below_cons n x xs = sum_by-cons (λ q. cond (nat_lt q n) 1 0) x xs

none_below : (n : ℕ) (xs : List ℕ) → Above n xs → count_by (λ q. nat_lt q n) xs ≡ 0
none_below n [] above = refl
none_below n (x ∷ xs) above =
    let less = above.0 in
    grind (arith, nat_tests, below_cons n x xs, none_below n xs above.1)

In-get_or : (xs : List ℕ) (k d : ℕ) → k < length xs → In (get_or xs k d) xs
In-get_or xs k d below = In-from_Contains xs (get_or xs k d) (Contains-get_or xs k d below)

-- in a list that rises, as many are below an element as stand before it
count_below : (xs : List ℕ) (k : ℕ) → Rises xs → k < length xs → count_by (λ q. nat_lt q (get_or xs k 0)) xs ≡ k
count_below [] k rises below = absurd (not-suc-le-zero below)
count_below (x ∷ xs) zero rises below = grind (arith, nat_tests, below_cons x x xs, none_below x xs rises.0)
count_below (x ∷ xs) (suc k) rises below =
    let n = get_or xs k 0 in
    let less = Above-In x xs n rises.0 (In-get_or xs k 0 (omega arith)) in
    grind (arith, nat_tests, less, below_cons n x xs, count_below xs k rises.1 (omega arith))

-- ---- no two stand twice

abbrev AllDiffer : List ℕ → Type 0
AllDiffer xs = AllPairs (λ p q. p ≢ q) xs

rising_differ : (xs : List ℕ) → Rises xs → AllDiffer xs
rising_differ [] rises = λ i j d before within. absurd (not-suc-le-zero within)
rising_differ (x ∷ xs) rises = AllPairs-cons (λ p q. p ≢ q) x xs
    (λ k d below alike. omega (arith, alike, Above-In x xs (get_or xs k d) rises.0 (In-get_or xs k d below))) (rising_differ xs rises.1)

-- however a list that rises is put in order, no two of it are alike
moved_differ : (xs ys : List ℕ) → Rises xs → IsPermutation xs ys → AllDiffer ys
moved_differ xs ys rises moved = AllPairs-from_IsDistinct {eq = ◌==◌} Decides-eqb ys
    (IsDistinct-IsPermutation ◌==◌ (λ x y. grind (arith, nat_tests)) xs ys moved
    (IsDistinct-from_AllPairs {eq = ◌==◌} Decides-eqb xs (rising_differ xs rises)))

seats_differ : (players : List ℕ) → AllDiffer players → ((k d : ℕ) → k < length players → 0 < get_or players k d)
    → AllDiffer (seats_of players)
seats_differ players apart positive = cond_both (length players % 2 == 1) (players ++ 0 ∷ []) players AllDiffer
    (λ odd. all_pairs_push (λ p q. p ≢ q) players 0 apart (λ k d within none. omega (arith, none, positive k d within)))
    (λ even. apart)

few_seats : (players : List ℕ) → length players ≤ 512 → length (seats_of players) ≤ 512
few_seats players few = grind (arith, common_steps)

module _ (event : EventValue) (key : ℕ → ℕ) (order : List ℕ) (sound : IsSoundButForSeeds event) (is : IsOrder event key order) where
  pub stands_once : AllPairs (λ p q. p ≢ q) order
  stands_once =
      let ns = active_numbers event in
      let back = IsPermutation-sym ns is.players is.everyone in
      let differ = moved_differ ns is.players (numbers_rise event sound) is.everyone in
      rw is.seated (seats_differ is.players differ (λ k d within. Above-In 0 ns (get_or is.players k d) (numbers_positive event sound)
      (In-IsPermutation is.players ns (get_or is.players k d) back (In-get_or is.players k d within))))

  -- at most as many as there may be players
  pub few : length order ≤ 512
  few =
      let kept = filter (λ (p : Player). not p.dropped) event.players in
      let enrolled = sound.players.few in
      let all = length_permutation (active_numbers event) is.players is.everyone in
      rw is.seated (few_seats is.players (omega (
        arith,
        all,
        length-map kept (λ (p : Player). p.no),
        length-filter (λ (p : Player). not p.dropped) event.players,
        count_by-le-length (λ (p : Player). not p.dropped) event.players,
      )))

-- ---- the places

module _ (event : EventValue) where
  map-placed : (ns keys : List ℕ) → length keys ≡ length ns → map (λ (p : Entrant). p.number) (entrants_of event ns keys) ≡ ns
  map-placed [] [] same = refl
  map-placed [] (key ∷ keys) same = absurd (omega arith)
  map-placed (n ∷ ns) [] same = absurd (omega arith)
  map-placed (n ∷ ns) (key ∷ keys) same = ap (λ (l : List ℕ). n ∷ l) (map-placed ns keys (omega arith))

  placed-at : (ns keys : List ℕ) (k : ℕ) (d : Entrant) → k < length ns → length keys ≡ length ns
      → get_or (entrants_of event ns keys) k d ≡ entrant_of event (get_or ns k 0) (get_or keys k 0)
  placed-at [] keys k d below same = absurd (not-suc-le-zero below)
  placed-at (n ∷ ns) [] k d below same = absurd (omega arith)
  placed-at (n ∷ ns) (key ∷ keys) zero d below same = refl
  placed-at (n ∷ ns) (key ∷ keys) (suc k) d below same = placed-at ns keys k d (omega arith) (omega arith)

  -- a place has the points and the key of its player
  record IsPlaceOf (key : ℕ → ℕ) (p : Entrant) : Type 0 where
    points : p.points.0 ≡ (totals event p.number).points
    own : p.key ≡ key (place_among event p.number)

  all_placed : (keys : List ℕ) (key : ℕ → ℕ) → Rises (active_numbers event) → length keys ≡ length (active_numbers event)
      → AreKeys keys key → All (IsPlaceOf key) (entrants_of event (active_numbers event) keys)
  all_placed keys key rises same are k d below =
      let ns = active_numbers event in
      let within : k < length ns =
      omega (arith, below, ap length (map-placed ns keys same), length-map (entrants_of event ns keys) (λ (p : Entrant). p.number)) in
      rw (placed-at ns keys k d within same) (record {
        points = refl;
        own = are k (omega (arith, within, same)) ∙ ap key (sym (count_below ns k rises within));
      })

  comes_from : (key : ℕ → ℕ) (p q : Entrant) → IsPlaceOf key p → IsPlaceOf key q
      → is_before p q ≡ comes_before event key p.number q.number
  comes_from key p q one two = cc

  -- places in order, by number, with the bye if it is due
  pub ordered : (keys : List ℕ) (sorted : List Entrant) (seats : List ℕ) → IsSoundButForSeeds event
      → length keys ≡ length (active_numbers event) → IsPermutation (entrants_of event (active_numbers event) keys) sorted
      → IsSortedBy is_before sorted → seats ≡ seats_of (map (λ (p : Entrant). p.number) sorted)
      → (key : ℕ → ℕ) → AreKeys keys key → IsOrder event key seats
  ordered keys sorted seats sound same moved up is key are =
      let number : Entrant → ℕ = λ p. p.number in
      let ns = active_numbers event in
      let rises = numbers_rise event sound in
      let everyone = rw (map-placed ns keys same) at (IsPermutation-map number (entrants_of event ns keys) sorted moved) in
      let each = All-permutation (IsPlaceOf key) (entrants_of event ns keys) sorted moved (all_placed keys key rises same are) in
      record {
        players = map number sorted;
        everyone = everyone;
        sorted = λ i j d before within.
            let low : Entrant = entrant_of event d 0 in
            let inside : j < length sorted = omega (arith, within, length-map sorted number) in
            let earlier : i < length sorted = omega arith in
            let one = get_or-map number sorted i low d earlier in
            let two = get_or-map number sorted j low d inside in
            let p = get_or sorted i low in
            let q = get_or sorted j low in
            let apart = moved_differ ns (map number sorted) rises everyone i j d before within in
            let far = sorted_far is_before place_order sorted up i j low (omega arith) inside in
            rw (one, two) (sym (comes_from key p q (each i low earlier) (each j low inside))
            ∙ strictly_before p q far (λ alike. apart (one ∙ (alike ∙ sym two))));
        seated = is;
      }
