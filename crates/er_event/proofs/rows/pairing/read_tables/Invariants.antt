use Rattle.er_event.proofs.Prelude.{AreTables, FitsRow, table_rows, Match, All, List, length, take, ◌≡◌}
use Rattle.er_event.proofs.rows.pairing.read_tables.Given as goal

abbrev pub invariant-loop-place : goal.invariant-loop-place
invariant-loop-place l =
    (length l.matches ≡ l.place) × AreTables l.matches × (take l.place l.rows ≡ table_rows l.round 1 l.matches)
    × ((ms : List Match) → All FitsRow ms → AreTables ms → l.rows ≡ table_rows l.round 1 ms → l.matches ≡ take l.place ms)
