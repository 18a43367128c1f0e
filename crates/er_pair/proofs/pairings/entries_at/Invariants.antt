use Rattle.std.proofs.Common.{◌≡◌, take}
use Rattle.er_pair.specs.Pairing.{entries}
use Rattle.er_pair.proofs.pairings.entries_at.Given as goal

abbrev pub invariant-loop-first : goal.invariant-loop-first
invariant-loop-first l = l.found.items ≡ entries l.order (take l.first-index l.pairs)
