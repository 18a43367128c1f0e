-- Placings stand as the rules say.
use Rattle.std.proofs.{lemmas.Grind.common_steps, Common.{◌≡◌, ◌≢◌, ℕ, ◌+◌, ◌-◌, ◌<◌, suc, Bool, true, false, cond, List, [], ◌∷◌, map}}
use Rattle.std.proofs.{Common.{length, get_or, count_by, All, Contains, refl, sym, ap, ap₂, ◌∙◌, arith}, lemmas.List.get_or-map}
use Rattle.std.proofs.{lemmas.List.{get_or_default, length-map}, lemmas.List.Folds.fold-map, lemmas.List.Sorted.sum_by-IsPermutation}
use Rattle.std.proofs.lemmas.List.FromFn.{get_or-map-range_with_len}
use Rattle.std.specs.{List.range_with_len, List.Sorted.IsPermutation, declared.cmp.Ordering.Ordering, Ordering.{nat_cmp, ordering_then}}
use Rattle.std.specs.Ordering.{ordering_reverse, is_lt, is_gt}
use Rattle.er_share.specs.{Share.IsShareOf, Order.share_cmp-same}
use Rattle.er_event.specs.{declared.players.Player.Player, declared.matches.Match.Match, declared.rounds.Round.Round}
use Rattle.er_event.specs.{declared.tallies.Tally.Tally, Event.EventValue, Sound.IsSoundButForSeeds, Tallies.{tally_by, tallies, meetings}}
use Rattle.er_event.specs.{declared.totals.Totals.Totals, Totals.totals}
use Rattle.er_rank.specs.{declared.placings.Placing.Placing, Tally.{no_totals, IsKnown}, Meeting.{encounters, opponents_of, tally_totals}}
use Rattle.er_rank.specs.{inside.Merit.IsMerit, inside.Placing.{merit_cmp, placing_cmp, is_above, ArePlacings}, Standings.game_win}
use Rattle.er_rank.specs.Standings.{opponents_match_win, opponents_game_win, standing_cmp, is_better, is_listed_before}
use Rattle.er_rank.proofs.{PlacingLemmas.{merit_cmp-total, count_by-agree}, MeetingLemmas.opponents-met}

-- ---- lists

pub map-map : {X Y Z : Type 0} (g : Y → Z) (f : X → Y) (xs : List X) → map g (map f xs) ≡ map (λ x. g (f x)) xs
map-map g f [] = refl
map-map g f (x ∷ xs) = ap (λ ys. g (f x) ∷ ys) (map-map g f xs)

-- two functions that agree at each element
pub map-agree : {X Y : Type 0} (f g : X → Y) (xs : List X) → All (λ x. f x ≡ g x) xs → map f xs ≡ map g xs
map-agree f g [] same = refl
map-agree f g (x ∷ xs) same =
    ap₂ (λ y ys. y ∷ ys) (same 0 x (omega arith)) (map-agree f g xs (λ k d below. same (suc k) d (omega arith)))

count_by-map : {X Y : Type 0} (p : Y → Bool) (f : X → Y) (xs : List X) → count_by p (map f xs) ≡ count_by (λ x. p (f x)) xs
count_by-map p f xs = fold-map (λ n y. n + cond (p y) 1 0) f 0 xs

-- ---- a placing of one player of an event

pub record IsPlacing (e : EventValue) (p : Placing) : Type 0 where
  pub listed : Player
  pub is_player : Contains e.players listed
  pub number : p.player ≡ listed.no
  pub dropped : p.dropped ≡ listed.dropped
  pub points : p.merit.points.0 ≡ (totals e p.player).points
  pub omw : IsShareOf p.merit.omw.0 (opponents_match_win e p.player)
  pub gwp : IsShareOf p.merit.gwp.0 (game_win e p.player)
  pub ogw : IsShareOf p.merit.ogw.0 (opponents_game_win e p.player)

module _ (e : EventValue) (sound : IsSoundButForSeeds e) where
  -- the tally at a known player's place
  pub totals_of-known : (player : ℕ) → IsKnown (length e.players) player → tally_totals (tallies e) player ≡ totals e player
  totals_of-known player known =
      let own = map-map (λ (t : Tally). t.totals) (tally_by (totals e)) e.players in
      let numbered = map-map (totals e) (λ (p : Player). p.no) e.players in
      let all : map (λ (t : Tally). t.totals) (tallies e) ≡ map (totals e) (range_with_len 1 (length e.players)) =
      own ∙ (sym numbered ∙ ap (map (totals e)) sound.players.numbered) in
      ap (λ (ts : List Totals). get_or ts (player - 1) no_totals) all
      ∙ get_or-map-range_with_len (totals e) 1 (length e.players) (player - 1) player no_totals (omega (arith, known))
      (omega (arith, known))

  module _ (positive : All (λ (r : Round). All (λ (m : Match). 0 < m.a) r.matches) e.stored) where
    IsPlacing-merit : (p : Placing) (listed : Player) → Contains e.players listed → IsKnown (length e.players) p.player
        → p.player ≡ listed.no → p.dropped ≡ listed.dropped
        → IsMerit (tally_totals (tallies e) p.player) (opponents_of (encounters (meetings e)) p.player) p.merit → IsPlacing e p
    IsPlacing-merit p listed contains known number dropped merit = grind (arith, common_steps, map-map, opponents-met, totals_of-known)

    pub ArePlacings-each : (placings : List Placing) → All (λ (q : Player). IsKnown (length e.players) q.no) e.players
        → ArePlacings (encounters (meetings e)) (tallies e) placings → All (IsPlacing e) placings
    ArePlacings-each placings known placed = λ k d below.
        let nobody : Player = record { no = 0; name = []; dropped = false; joined = 0 } in
        let numbers = placed.numbers ∙ map-map (λ (t : Tally). t.no) (tally_by (totals e)) e.players in
        let gone = placed.dropped ∙ map-map (λ (t : Tally). t.dropped) (tally_by (totals e)) e.players in
        let long = length-map placings (λ (p : Placing). p.player) in
        let count : length placings ≡ length e.players =
        omega (arith, long, ap length numbers, length-map e.players (λ (q : Player). q.no)) in
        let inside : k < length e.players = omega arith in
        let listed = get_or e.players k nobody in
        let number : (get_or placings k d).player ≡ listed.no =
        let here = get_or-map (λ (p : Placing). p.player) placings k d 0 below in
        let there = get_or-map (λ (q : Player). q.no) e.players k nobody 0 inside in
        cc in
        let dropped : (get_or placings k d).dropped ≡ listed.dropped =
        let here = get_or-map (λ (p : Placing). p.dropped) placings k d false below in
        let there = get_or-map (λ (q : Player). q.dropped) e.players k nobody false inside in
        cc in
        IsPlacing-merit (get_or placings k d) listed (k, inside, get_or_default e.players k listed nobody inside)
        (rw number (known k nobody inside)) number dropped (placed.merits k d below)

-- ---- the order of merits is the rules'

merit_cmp-standing : (e : EventValue) (s t : Placing) → IsPlacing e s → IsPlacing e t
    → merit_cmp s.merit t.merit ≡ standing_cmp e t.player s.player
merit_cmp-standing e s t one other =
    ap₂ ordering_then (ap₂ nat_cmp other.points one.points)
    (ap₂ ordering_then (share_cmp-same _ _ _ _ other.omw one.omw)
    (ap₂ ordering_then (share_cmp-same _ _ _ _ other.gwp one.gwp) (share_cmp-same _ _ _ _ other.ogw one.ogw)))

is_above-better : (e : EventValue) (s t : Placing) → IsPlacing e s → IsPlacing e t → is_above s t ≡ is_better e s.player t.player
is_above-better e s t one other =
    ap is_lt (merit_cmp-total.antisymm s.merit t.merit)
    ∙ (turned (merit_cmp t.merit s.merit) ∙ ap is_gt (merit_cmp-standing e t s other one))
  where
    turned : (o : Ordering) → is_lt (ordering_reverse o) ≡ is_gt o
    turned h1 = grind (arith, common_steps)

-- ---- ranks

-- as many placings are above as there are better players
pub rank-standing : (e : EventValue) (by_number placings : List Placing) (p : Placing) → All (IsPlacing e) placings → IsPlacing e p
    → IsPermutation by_number placings → map (λ (q : Placing). q.player) by_number ≡ map (λ (q : Player). q.no) e.players
    → count_by (λ q. is_above q p) placings ≡ count_by (λ (q : Player). is_better e q.no p.player) e.players
rank-standing e by_number placings p all is same numbers =
    let better : ℕ → Bool = λ q. is_better e q p.player in
    count_by-agree (λ (q : Placing). is_above q p) (λ (q : Placing). better q.player) placings
    (λ k d below. is_above-better e (get_or placings k d) p (all k d below) is)
    ∙ (sum_by-IsPermutation (λ (q : Placing). cond (better q.player) 1 0) by_number placings same
    ∙ (sym (count_by-map better (λ (q : Placing). q.player) by_number)
    ∙ (ap (count_by better) numbers ∙ count_by-map better (λ (q : Player). q.no) e.players)))

-- ---- the order of the list

pub listed_before : (e : EventValue) (above below : Placing) → IsPlacing e above → IsPlacing e below
    → is_lt (placing_cmp below above) ≡ false → above.player ≢ below.player → is_listed_before e above.player below.player ≡ true
listed_before e above below one other apart differ = grind (arith, common_steps, merit_cmp-standing)
