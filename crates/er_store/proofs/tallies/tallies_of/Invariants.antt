use Rattle.er_store.proofs.Prelude.{◌≡◌, take, map, length, EventValue, player_rows, tally_row, tally_rows, IsSoundButForSeeds, tallies}
use Rattle.er_store.proofs.Prelude.{Tally}
use Rattle.er_store.proofs.tallies.tallies_of.Given as goal

abbrev pub invariant-loop-at : goal.invariant-loop-at
invariant-loop-at l = record {
  many : length l.rows ≡ length l.players;
  rows : map (λ (t : Tally). tally_row t.no t.totals) l.tallies.items ≡ take l.at l.rows;
  event : (e : EventValue) → IsSoundButForSeeds e → l.players ≡ player_rows e → l.rows ≡ tally_rows e
      → l.tallies.items ≡ take l.at (tallies e);
}
