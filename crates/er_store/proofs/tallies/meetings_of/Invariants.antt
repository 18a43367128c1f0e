use Rattle.er_store.proofs.Prelude.{◌≡◌, take, map, filter, is_outside, sides_in, sides_of}
use Rattle.er_store.proofs.tallies.meetings_of.Given as goal

abbrev pub invariant-loop-row : goal.invariant-loop-row
invariant-loop-row l = map sides_of l.meetings.items ≡ map sides_in (filter (is_outside l.unfinished) (take l.row-index l.rows))
