-- The ranked placings are the standings, and there are no others.
use Rattle.std.proofs.{lemmas.Grind.common_steps, Common.{◌≡◌, ◌≢◌, ℕ, ◌+◌, ◌*◌, ◌<◌, Bool, true, false, List, map, length, get_or}}
use Rattle.std.proofs.{Common.{count_by, AllPairs, Contains, IsTrue, sym, ap, ◌∙◌, arith}, Math.Nat.eq_of_mul-eq-mul_right}
use Rattle.std.proofs.{lemmas.Bool.Decides.nat_tests, lemmas.Cmp.nat_cmp_total, lemmas.List.{get_or-map, get_or_default, length-map}}
use Rattle.std.proofs.{lemmas.List.same_lists, lemmas.List.Elements.All-map, lemmas.List.Sorted.{IsPermutation-map, IsPermutation-sym}}
use Rattle.std.proofs.lemmas.List.Sorted.{IsPermutation-trans, length_permutation, All-permutation}
use Rattle.std.specs.{Cmp.then_flip, List.Sorted.IsPermutation, Ordering.{ordering_then, ordering_reverse}}
use Rattle.er_share.specs.{Fraction.{Fraction, fraction_cmp}, Share.{IsShareOf, fraction_of}}
use Rattle.er_event.specs.{declared.players.Player.Player, Event.EventValue, Sound.{numbers, IsSoundButForSeeds}}
use Rattle.er_event.specs.{declared.tallies.Tally.Tally, Tallies.{tally_by, tallies, meetings}, Totals.totals}
use Rattle.er_rank.specs.{declared.placings.Placing.Placing, declared.rows.Row.Row, Meeting.{Encounter, encounters}}
use Rattle.er_rank.specs.inside.Placing.{ranked_rows}
use Rattle.er_rank.specs.{inside.Placing.ArePlacingsInOrder, Standings.{opponents_match_win, opponents_game_win, game_win, standing_cmp}}
use Rattle.er_rank.specs.Standings.{is_better, is_listed_before, IsRowOf, AreStandings, OneStandings, OneTop, first_active}
use Rattle.er_rank.proofs.{PlacingLemmas.{row_in, sorted_apart}, OrderLemmas.{apart_from_range, one_order}, SoundLemmas.first_numbers}
use Rattle.er_rank.proofs.{SoundLemmas.{numbers_known, number_at}, StandingLemmas.{IsPlacing, ArePlacings-each, rank-standing}}
use Rattle.er_rank.proofs.StandingLemmas.{listed_before, map-map}

-- ---- the ranked placings are the standings

-- the placings of an event in order
pub AreStandings-placings : (e : EventValue) (placings : List Placing) → IsSoundButForSeeds e
    → ArePlacingsInOrder (encounters (meetings e)) (tallies e) placings → AreStandings e (ranked_rows placings)
AreStandings-placings e placings sound are =
    let player : Placing → ℕ = λ p. p.player in
    let numbered = are.placed.numbers ∙ map-map (λ (t : Tally). t.no) (tally_by (totals e)) e.players in
    let placed = ArePlacings-each e sound (first_numbers e sound) are.by_number (numbers_known e sound) are.placed in
    let all = All-permutation (IsPlacing e) are.by_number placings are.same placed in
    let everyone : IsPermutation (numbers e.players) (map player placings) =
    rw (← numbered) (IsPermutation-map player are.by_number placings are.same) in
    let apart = apart_from_range (length e.players) (map player placings) (rw sound.players.numbered at everyone) in
    let long = length-map placings (row_in placings) in
    record {
      everyone = rw (map-map (λ (r : Row). r.player) (row_in placings) placings) everyone;
      in_order = λ i j d before within.
          let none : Placing = record {
            merit = record { points = record { 0 = 0 }; omw = record { 0 = 0 }; gwp = record { 0 = 0 }; ogw = record { 0 = 0 } };
            player = 0;
            dropped = false;
          } in
          let inside : j < length placings = omega arith in
          let first : i < length placings = omega arith in
          let above = get_or placings i none in
          let below = get_or placings j none in
          let differ : above.player ≢ below.player = λ equal.
          let one = get_or-map player placings i none 0 first in
          let two = get_or-map player placings j none 0 inside in
          apart i j 0 before (omega (arith, length-map placings player)) (one ∙ (equal ∙ sym two)) in
          let later = sorted_apart placings are.sorted i j none (omega arith) inside in
          rw (get_or-map (row_in placings) placings i none d first, get_or-map (row_in placings) placings j none d inside)
          (listed_before e above below (all i none first) (all j none inside) later differ);
      each = All-map (IsRowOf e) (row_in placings) placings (λ k d below.
          let is = all k d below in
          record {
            listed = is.listed;
            is_player = is.is_player;
            player = is.number;
            dropped = is.dropped;
            rank = ap (λ n. 1 + n) (rank-standing e are.by_number placings (get_or placings k d) all is are.same numbered);
            points = is.points;
            omw = is.omw;
            gwp = is.gwp;
            ogw = is.ogw;
          });
    }

pub length-placings : (met : List Encounter) (list : List Tally) (placings : List Placing) → ArePlacingsInOrder met list placings
    → length placings ≡ length list
length-placings met list placings are = grind (arith, common_steps, length-map, length_permutation)

-- ---- the order is strict

fraction_cmp-back : (f g : Fraction) → fraction_cmp f g ≡ ordering_reverse (fraction_cmp g f)
unfolding fraction_cmp
fraction_cmp-back f g = nat_cmp_total.antisymm (f.num * g.den) (g.num * f.den)

standing_cmp-back : (e : EventValue) (p q : ℕ) → standing_cmp e p q ≡ ordering_reverse (standing_cmp e q p)
standing_cmp-back e p q = grind (arith, common_steps, fraction_cmp-back, nat_cmp_total, ordering_then, then_flip)

listed_one_way : (e : EventValue) (p q : ℕ) → is_listed_before e p q ≡ true → is_listed_before e q p ≡ false
listed_one_way e p q h = grind (arith, common_steps, nat_tests, standing_cmp-back)

-- ---- one row for a player

one_share : (a b : ℕ) (f : Fraction) → IsShareOf a f → IsShareOf b f → a ≡ b
unfolding fraction_of
one_share a b f first second = eq_of_mul-eq-mul_right f.den first.has_den a b (first.same ∙ sym second.same)

same_player : (e : EventValue) → IsSoundButForSeeds e → (p q : Player) → Contains e.players p → Contains e.players q → p.no ≡ q.no → p ≡ q
same_player e sound p q (i, i_below, p_is) (j, j_below, q_is) number = grind (arith, common_steps, get_or, get_or_default, number_at)

abbrev row_by : ℕ → ℕ → ℕ → ℕ → ℕ → ℕ → Bool → Row
row_by rank player points omw gwp ogw dropped = record {
  rank = rank;
  player = player;
  points = points;
  omw = omw;
  gwp = gwp;
  ogw = ogw;
  dropped = dropped;
}

IsRowOf-unique : (e : EventValue) → IsSoundButForSeeds e → (r s : Row) → IsRowOf e r → IsRowOf e s → r.player ≡ s.player → r ≡ s
IsRowOf-unique e sound r s one other player =
    let listed = same_player e sound one.listed other.listed one.is_player other.is_player (sym one.player ∙ (player ∙ other.player)) in
    let better : ℕ → ℕ = λ n. count_by (λ (q : Player). is_better e q.no n) e.players in
    let rank : r.rank ≡ s.rank = one.rank ∙ (ap (λ n. 1 + better n) player ∙ sym other.rank) in
    let points : r.points ≡ s.points = one.points ∙ (ap (λ n. (totals e n).points) player ∙ sym other.points) in
    let omw = one_share r.omw s.omw (opponents_match_win e s.player) (rw player at one.omw) other.omw in
    let gwp = one_share r.gwp s.gwp (game_win e s.player) (rw player at one.gwp) other.gwp in
    let ogw = one_share r.ogw s.ogw (opponents_game_win e s.player) (rw player at one.ogw) other.ogw in
    let dropped : r.dropped ≡ s.dropped = one.dropped ∙ (ap (λ (p : Player). p.dropped) listed ∙ sym other.dropped) in
    let same : row_by r.rank r.player r.points r.omw r.gwp r.ogw r.dropped ≡ row_by s.rank s.player s.points s.omw s.gwp s.ogw s.dropped =
    cc in
    same

-- ---- one list

players_in_order : (e : EventValue) (rows : List Row)
    → AllPairs (λ (above below : Row). IsTrue (is_listed_before e above.player below.player)) rows
    → AllPairs (λ p q. is_listed_before e p q ≡ true) (map (λ (r : Row). r.player) rows)
players_in_order e rows sorted = λ i j d before within.
    let player : Row → ℕ = λ r. r.player in
    let none = row_by 0 0 0 0 0 0 false in
    let inside : j < length rows = omega (arith, length-map rows player) in
    rw (get_or-map player rows i none d (omega arith), get_or-map player rows j none d inside) (sorted i j none before inside)

pub OneStandings-sound : (e : EventValue) (rows : List Row) → IsSoundButForSeeds e → AreStandings e rows → OneStandings e rows
OneStandings-sound e rows sound are other stand =
    let player : Row → ℕ = λ r. r.player in
    let back = IsPermutation-sym (numbers e.players) (map player other) stand.everyone in
    let same = IsPermutation-trans (map player other) (numbers e.players) (map player rows) back are.everyone in
    let numbered = one_order (is_listed_before e) (listed_one_way e) (map player other) (map player rows) same
    (players_in_order e other stand.in_order) (players_in_order e rows are.in_order) in
    let count : length other ≡ length rows = omega (arith, length-map other player, ap length numbered, length-map rows player) in
    same_lists other rows count (λ k d below.
    let inside : k < length rows = omega arith in
    let one = get_or-map player other k d 0 below in
    let two = get_or-map player rows k d 0 inside in
    IsRowOf-unique e sound (get_or other k d) (get_or rows k d) (stand.each k d below) (are.each k d inside) (cc))

pub OneTop-one : (e : EventValue) (k : ℕ) (rows : List Row) (players : List ℕ) → OneStandings e rows → players ≡ first_active rows k
    → OneTop e k players
OneTop-one e k rows players one are other top = top.top ∙ (ap (λ rs. first_active rs k) (one top.rows top.standings) ∙ sym are)
