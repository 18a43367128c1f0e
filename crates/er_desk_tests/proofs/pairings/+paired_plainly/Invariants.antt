use Rattle.std.proofs.Common.{length}
use Rattle.er_desk_tests.proofs.pairings.+paired_plainly.Given as goal

abbrev pub decreases-paired_plainly : goal.decreases-paired_plainly
decreases-paired_plainly l = length l.list.now
