-- Placings in order, and their ranks.
use Rattle.std.proofs.{lemmas.Grind.common_steps, Common.{◌≡◌, ℕ, ◌+◌, ◌-◌, ◌<◌, ◌≤◌, ◌==◌, ◌&&◌, suc, zero, Bool, true, false, cond, List}}
use Rattle.std.proofs.Common.{[], ◌∷◌, ◌++◌, map, length, take, get_or, count_by, All, refl, sym, ap, ◌∙◌, arith}
use Rattle.std.proofs.{lemmas.Cmp.{nat_cmp_total, on_total, then_total, back_total, alike_right}, lemmas.Bool.true≢false}
use Rattle.std.proofs.{lemmas.Bool.true_from_ne_false, lemmas.Bool.Decides.nat_tests, lemmas.List.{get_or-map, get_or_read}}
use Rattle.std.proofs.{lemmas.List.FromFn.get_or-range_with_len, lemmas.List.Sorted.{sorted_far, ranks_by}, lemmas.List.Sums.sum_by-cons}
use Rattle.std.specs.{declared.cmp.Ordering.Ordering, declared.cmp.Ordering.TheVariants.Equal, Cmp.{IsTotalOrder, bool_cmp_total}}
use Rattle.std.specs.{Cmp.{unsigned_ties, both_tied}, Ordering.{ordering_then, ordering_reverse, is_lt, is_eq}, List.Sorted.IsSorted}
use Rattle.std.specs.List.{range_with_len}
use Rattle.er_share.specs.Order.{share_cmp, share_cmp-total, share_cmp-eq}
use Rattle.er_event.specs.declared.tallies.Tally.{Tally}
use Rattle.er_rank.specs.{Meeting.{Encounter, opponents_of, tally_totals}, inside.Merit.IsMerit, declared.merits.Merit.Merit}
use Rattle.er_rank.specs.{declared.placings.Placing.Placing, declared.rows.Row.Row, inside.Placing.{merit_cmp, placing_cmp, is_above}}
use Rattle.er_rank.specs.inside.Placing.{is_level, row_of, rank_in, ArePlacings}

pub merit_cmp-total : IsTotalOrder merit_cmp
merit_cmp-total =
    then_total (back_total (on_total (λ (m : Merit). m.points.0) nat_cmp_total))
    (then_total (back_total (on_total (λ (m : Merit). m.omw.0) share_cmp-total))
    (then_total (back_total (on_total (λ (m : Merit). m.gwp.0) share_cmp-total))
    (back_total (on_total (λ (m : Merit). m.ogw.0) share_cmp-total))))

placing_cmp-total : IsTotalOrder placing_cmp
placing_cmp-total =
    then_total (on_total (λ (p : Placing). p.merit) merit_cmp-total)
    (then_total (on_total (λ (p : Placing). p.player) nat_cmp_total) (on_total (λ (p : Placing). p.dropped) bool_cmp_total))

pub first_apart : (a b : Ordering) → is_lt (ordering_then a b) ≡ false → is_lt a ≡ false
first_apart h1 b h = grind (arith, common_steps)

-- ---- tests that count alike

pub count_by-agree : {X : Type 0} (p q : X → Bool) (xs : List X) → All (λ x. p x ≡ q x) xs → count_by p xs ≡ count_by q xs
count_by-agree p q [] same = refl
count_by-agree p q (x ∷ xs) same =
    let one = sum_by-cons (λ y. cond (p y) 1 0) x xs in
    let two = sum_by-cons (λ y. cond (q y) 1 0) x xs in
    let here = same 0 x (omega arith) in
    let rest = count_by-agree p q xs (λ k d below. same (suc k) d (omega arith)) in
    cc

-- how many pass, if the first i do and the others don't
pub count_front : {X : Type 0} (p : X → Bool) (xs : List X) (i : ℕ) → i ≤ length xs
    → ((k : ℕ) (d : X) → k < i → p (get_or xs k d) ≡ true)
    → ((k : ℕ) (d : X) → i ≤ k → k < length xs → p (get_or xs k d) ≡ false) → count_by p xs ≡ i
count_front p [] i within pass fail = omega arith
count_front p (x ∷ xs) zero within pass fail =
    let rest = count_front p xs zero (omega arith) (λ k d below. absurd (omega arith))
    (λ k d low below. fail (suc k) d (omega arith) (omega arith)) in
    sum_by-cons (λ y. cond (p y) 1 0) x xs ∙ rw (fail 0 x (omega arith) (omega arith), rest) refl
count_front p (x ∷ xs) (suc i) within pass fail =
    let rest = count_front p xs i (omega arith) (λ k d below. pass (suc k) d (omega arith))
    (λ k d low below. fail (suc k) d (omega arith) (omega arith)) in
    sum_by-cons (λ y. cond (p y) 1 0) x xs ∙ rw (pass 0 x (omega arith), rest) (omega arith)

-- ---- sorted placings

level_by : (o p : Ordering) → p ≡ ordering_reverse o → is_lt o ≡ false → is_lt p ≡ false → is_eq o ≡ true
level_by h1 p back one other = grind (arith, common_steps)

module _ (placings : List Placing) (sorted : IsSorted placing_cmp placings) where
  -- the later of two isn't before the earlier
  pub sorted_apart : (i j : ℕ) (d : Placing) → i ≤ j → j < length placings
      → is_lt (placing_cmp (get_or placings j d) (get_or placings i d)) ≡ false
  sorted_apart i j d upto below =
      sorted_far (λ x y. is_lt (placing_cmp x y)) (ranks_by placing_cmp-total (λ (p : Placing). p)) placings sorted i j d upto below

  -- nor is it above
  not_above : (i : ℕ) (here : Placing) → i < length placings → here ≡ get_or placings i here
      → (k : ℕ) (d : Placing) → i ≤ k → k < length placings → is_above (get_or placings k d) here ≡ false
  not_above i here below is k d low inside = rw (get_or_read placings i here below is d) (first_apart _ _ (sorted_apart i k d low inside))

  module _ (i : ℕ) (here : Placing) (below : i < length placings) (is : here ≡ get_or placings i here) where
    -- the rank of the first, as nobody is above it
    pub rank-at_first : (rank : ℕ) → i ≡ 0 → rank ≡ 1 → rank ≡ rank_in placings here
    rank-at_first rank first one =
        let none = count_front (λ q. is_above q here) placings i (omega arith) (λ k d before. absurd (omega arith))
        (not_above i here below is) in
        omega (arith, none)

    -- the rank of one whose merit differs from that of the last, as all before are above
    pub rank-at_next : (last : Placing) (rank : ℕ) → 0 < i → last ≡ get_or placings (i - 1) last → is_level last here ≡ false
        → rank ≡ i + 1 → rank ≡ rank_in placings here
    rank-at_next last rank some last_is differ next =
        omega (arith, count_front (λ q. is_above q here) placings i (omega arith) above (not_above i here below is))
      where
        above : (k : ℕ) (d : Placing) → k < i → is_above (get_or placings k d) here ≡ true
        above k d before = true_from_ne_false (is_above (get_or placings k d) here) (λ no.
            let order = ranks_by merit_cmp-total (λ (p : Placing). p.merit) in
            let after : is_above last (get_or placings k d) ≡ false = rw (get_or_read placings (i - 1) last (omega arith) last_is d)
            (first_apart _ _ (sorted_apart k (i - 1) d (omega arith) (omega arith))) in
            let behind : is_above here last ≡ false =
            rw (← is) at (not_above (i - 1) last (omega arith) last_is i here (omega arith) below) in
            let apart = order.chain last (get_or placings k d) here after no in
            let level = level_by _ _ (merit_cmp-total.antisymm here.merit last.merit) apart behind in
            absurd (true≢false (sym level ∙ differ)))

    pub rank-kept : (d : Placing) (rank : ℕ) → rank ≡ rank_in placings here → rank ≡ rank_in placings (get_or placings (i + 1 - 1) d)
    rank-kept d rank ranks = grind (arith, common_steps)

-- equal merits share a rank
pub rank-at_level : (placings : List Placing) (i : ℕ) (here last : Placing) (rank : ℕ) → last ≡ get_or placings (i - 1) last
    → is_level last here ≡ true → rank ≡ rank_in placings (get_or placings (i - 1) last) → rank ≡ rank_in placings here
rank-at_level placings i here last rank last_is same ranks =
    let level = tie_of (merit_cmp last.merit here.merit) same in
    let alike = count_by-agree (λ q. is_above q last) (λ q. is_above q here) placings
    (λ k d below. ap is_lt (alike_right merit_cmp-total last.merit here.merit (get_or placings k d).merit level)) in
    ranks ∙ (ap (rank_in placings) (sym last_is) ∙ ap (λ n. 1 + n) alike)
  where
    tie_of : (o : Ordering) → is_eq o ≡ true → o ≡ Equal
    tie_of h1 h = grind (arith, common_steps)

-- ---- derived equality

pub merit-eq : (a b : Merit) → ((a.points.0 == b.points.0) && ((a.omw.0 == b.omw.0) && ((a.gwp.0 == b.gwp.0) && (a.ogw.0 == b.ogw.0))))
    ≡ is_eq (merit_cmp a b)
merit-eq a b = both_tied _ _ _ _ (back a.points.0 b.points.0 ∙ unsigned_ties b.points.0 a.points.0)
    (both_tied _ _ _ _ (share a.omw.0 b.omw.0) (both_tied _ _ _ _ (share a.gwp.0 b.gwp.0) (share a.ogw.0 b.ogw.0)))
  where
    back : (x y : ℕ) → (x == y) ≡ (y == x)
    back x y = grind (arith, nat_tests)

    share : (x y : ℕ) → (x == y) ≡ is_eq (share_cmp y x)
    share x y = back x y ∙ share_cmp-eq y x

-- ---- one row more

abbrev pub row_in : List Placing → Placing → Row
row_in placings p = row_of (rank_in placings p) p

-- a list of what f gives, after it got one more
pub map-pushed : {X Y : Type 0} (f : X → Y) (xs : List X) (i : ℕ) (x : X) (ys after : List Y) (y : Y) → i < length xs → x ≡ get_or xs i x
    → ys ≡ map f (take i xs) → y ≡ f x → after ≡ ys ++ y ∷ [] → after ≡ map f (take (i + 1) xs)
map-pushed f xs i x ys after y below is so_far own pushed = grind (arith, common_steps)

-- ---- one placing for each player

-- so far
pub record AreFirst (met : List Encounter) (tallies : List Tally) (i : ℕ) (placings : List Placing) : Type 0 where
  pub numbers : map (λ (p : Placing). p.player) placings ≡ map (λ (t : Tally). t.no) (take i tallies)
  pub dropped : map (λ (p : Placing). p.dropped) placings ≡ map (λ (t : Tally). t.dropped) (take i tallies)
  pub merits : All (λ (p : Placing). IsMerit (tally_totals tallies p.player) (opponents_of met p.player) p.merit) placings

pub AreFirst-none : (met : List Encounter) (tallies : List Tally) (placings : List Placing) → placings ≡ []
    → AreFirst met tallies 0 placings
AreFirst-none met tallies placings none = grind (arith, common_steps)

pub AreFirst-more : (met : List Encounter) (tallies : List Tally) (i : ℕ) (tally : Tally) (placings after : List Placing)
    (placing : Placing)
    → i < length tallies → tally ≡ get_or tallies i tally → AreFirst met tallies i placings
    → placing.player ≡ tally.no → placing.dropped ≡ tally.dropped
    → IsMerit (tally_totals tallies placing.player) (opponents_of met placing.player) placing.merit
    → after ≡ placings ++ placing ∷ [] → AreFirst met tallies (i + 1) after
AreFirst-more met tallies i tally placings after placing below is are number dropped merit pushed = grind (arith, common_steps)

pub ArePlacings-first : (met : List Encounter) (tallies : List Tally) (i : ℕ) (placings : List Placing) → length tallies ≤ i
    → AreFirst met tallies i placings → ArePlacings met tallies placings
ArePlacings-first met tallies i placings all are = grind (arith, common_steps)

-- the player at a place
pub number-here : (tallies : List Tally) (i : ℕ) (tally : Tally) → map (λ (t : Tally). t.no) tallies ≡ range_with_len 1 (length tallies)
    → i < length tallies → tally ≡ get_or tallies i tally → tally.no ≡ 1 + i
number-here tallies i tally numbered below is =
    let here = get_or-map (λ (t : Tally). t.no) tallies i tally 0 below in
    let place = get_or-range_with_len 1 (length tallies) i 0 below in
    cc

-- what stands at a player's place
pub totals-here : (tallies : List Tally) (i player : ℕ) (tally : Tally) → i ≡ player - 1 → i < length tallies
    → tally ≡ get_or tallies i tally → tally.totals ≡ tally_totals tallies player
totals-here tallies i player tally at below is = grind (arith, common_steps)
