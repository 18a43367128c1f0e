use Rattle.er_event.proofs.Prelude.{Match, FitsSlotRow, slot_rows, All, List, length, take, ◌≡◌}
use Rattle.er_event.proofs.rows.bracket.read_slots.Given as goal

abbrev pub invariant-loop-place : goal.invariant-loop-place
invariant-loop-place l =
    (length l.matches ≡ l.place) × (take l.place l.rows ≡ slot_rows l.stage 1 l.matches)
    × ((ms : List Match) → All FitsSlotRow ms → l.rows ≡ slot_rows l.stage 1 ms → l.matches ≡ take l.place ms)
