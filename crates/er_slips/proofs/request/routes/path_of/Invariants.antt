use Rattle.std.proofs.Common.{◌≡◌, ◌≤◌, ◌-◌, ◌++◌, length, take, drop}
use Rattle.er_slips.specs.Request.{path_of}
use Rattle.er_slips.proofs.request.routes.path_of.Given as goal

abbrev pub invariant-loop-end : goal.invariant-loop-end
invariant-loop-end l = record {
  within : l.end ≤ length l.target;
  so_far : path_of l.target ≡ take l.end l.target ++ path_of (drop l.end l.target);
}

abbrev pub decreases-loop-end : goal.decreases-loop-end
decreases-loop-end l = length l.target - l.end
