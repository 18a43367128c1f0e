use Rattle.std.proofs.Common.{◌≡◌, ◌≤◌, ◌-◌, ℕ, List, Option, length, take}
use Rattle.std.specs.Io.KnownBytes.{Consumes}
use Rattle.er_slips.proofs.request.head.read_on.Given as goal

abbrev pub invariant-loop-count : goal.invariant-loop-count
invariant-loop-count g l = record {
  within : l.count ≤ length l.buf;
  after : l.filled ≤ l.count;
  kept : take l.filled l.buf ≡ take l.filled l.initial.buf;
  read : (start : Option (List ℕ)) → Consumes start (g.R.Read.remaining l.initial.reader) (take l.filled l.initial.buf)
      → Consumes start (g.R.Read.remaining l.reader) (take l.count l.buf);
}

abbrev pub decreases-loop-count : goal.decreases-loop-count
decreases-loop-count g l = l.end - l.count
