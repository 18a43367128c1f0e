use Rattle.std.proofs.Common.{◌≡◌, ◌<◌, ◌-◌, map, take, get_or}
use Rattle.er_rank.specs.{declared.placings.Placing.Placing, inside.Placing.{row_of, rank_in}}
use Rattle.er_rank.proofs.placings.rows_of.Given as goal

abbrev pub invariant-loop-above : goal.invariant-loop-above
invariant-loop-above l = record {
  rows : l.rows.items ≡ map (λ (p : Placing). row_of (rank_in l.placings p) p) (take l.above l.placings);
  first : l.above ≡ 0 → l.rank ≡ 1;
  last : (d : Placing) → 0 < l.above → l.rank ≡ rank_in l.placings (get_or l.placings (l.above - 1) d);
}
