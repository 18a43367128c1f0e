use Rattle.std.proofs.Common.{ℕ, ◌<◌, slice_index}
use Rattle.er_pair.proofs.seats.count_of_numbers.Given as goal

abbrev pub invariant-loop-number : goal.invariant-loop-number
invariant-loop-number l = (p : ℕ) → p < l.number-index → slice_index l.order p < l.count
