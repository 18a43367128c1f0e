use Rattle.std.proofs.Common.{◌≡◌, ◌-◌, ◌≤◌, ◌++◌, length, replicate}
use Rattle.std.specs.String.{string_bytes}
use Rattle.er_paper.proofs.columns.push_left.Given as goal

abbrev pub invariant-loop-place : goal.invariant-loop-place
invariant-loop-place l = record {
  bytes : string_bytes l.text ≡ string_bytes l.fn.text ++ (l.part ++ replicate (l._place - length l.part) 32);
  spaces : l._place - length l.part ≤ l.width - length l.part;
}
