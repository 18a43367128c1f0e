use Rattle.std.proofs.Common.{◌≡◌, ◌≤◌, ◌-◌, ◌++◌, length, take, drop}
use Rattle.er_slips.specs.Routes.{before_slash, after_slash}
use Rattle.er_slips.proofs.request.routes.split.Given as goal

abbrev pub invariant-loop-end : goal.invariant-loop-end
invariant-loop-end l = record {
  within : l.end ≤ length l.text;
  before_slash : before_slash l.text ≡ take l.end l.text ++ before_slash (drop l.end l.text);
  after_slash : after_slash l.text ≡ after_slash (drop l.end l.text);
}

abbrev pub decreases-loop-end : goal.decreases-loop-end
decreases-loop-end l = length l.text - l.end
