-- The order of placings, and the ranks that it gives.
use Rattle.std.specs.Prelude.{◌≡◌, ℕ, ◌+◌, Bool, List, All, map, count_by, IsPermutation, IsSorted}
use Rattle.std.specs.declared.cmp.Ordering.{Ordering}
use Rattle.std.specs.Ordering.{nat_cmp, ordering_then, is_lt, is_eq, bool_cmp}
use Rattle.er_share.specs.Order.{share_cmp}
use Rattle.er_event.specs.declared.tallies.Tally.{Tally}
use Rattle.er_rank.specs.Meeting.{Encounter, opponents_of, tally_totals}
use Rattle.er_rank.specs.inside.Merit.{IsMerit}
use Rattle.er_rank.specs.declared.merits.Merit.{Merit}
use Rattle.er_rank.specs.declared.placings.Placing.{Placing}
use Rattle.er_rank.specs.declared.rows.Row.{Row}

-- the greater comes first
abbrev pub merit_cmp : Merit → Merit → Ordering
merit_cmp a b =
    ordering_then (nat_cmp b.points.0 a.points.0)
    (ordering_then (share_cmp b.omw.0 a.omw.0)
    (ordering_then (share_cmp b.gwp.0 a.gwp.0)
    (share_cmp b.ogw.0 a.ogw.0)))

-- by merit, and then by number
abbrev pub placing_cmp : Placing → Placing → Ordering
placing_cmp a b = ordering_then (merit_cmp a.merit b.merit) (ordering_then (nat_cmp a.player b.player) (bool_cmp a.dropped b.dropped))

abbrev pub is_above : Placing → Placing → Bool
is_above a b = is_lt (merit_cmp a.merit b.merit)

abbrev pub is_level : Placing → Placing → Bool
is_level a b = is_eq (merit_cmp a.merit b.merit)

abbrev pub row_of : ℕ → Placing → Row
row_of rank p = record {
  rank = rank;
  player = p.player;
  points = p.merit.points.0;
  omw = p.merit.omw.0;
  gwp = p.merit.gwp.0;
  ogw = p.merit.ogw.0;
  dropped = p.dropped;
}

-- one placing for each of the players, in their order
pub record ArePlacings (met : List Encounter) (tallies : List Tally) (placings : List Placing) : Type 0 where
  pub numbers : map (λ p. p.player) placings ≡ map (λ t. t.no) tallies
  pub dropped : map (λ p. p.dropped) placings ≡ map (λ t. t.dropped) tallies
  pub merits : All (λ p. IsMerit (tally_totals tallies p.player) (opponents_of met p.player) p.merit) placings

-- the same, sorted
pub record ArePlacingsInOrder (met : List Encounter) (tallies : List Tally) (placings : List Placing) : Type 0 where
  pub by_number : List Placing
  pub placed : ArePlacings met tallies by_number
  pub same : IsPermutation by_number placings
  pub sorted : IsSorted placing_cmp placings

abbrev pub rank_in : List Placing → Placing → ℕ
rank_in placings p = 1 + count_by (λ q. is_above q p) placings

abbrev pub ranked_rows : List Placing → List Row
ranked_rows placings = map (λ p. row_of (rank_in placings p) p) placings
