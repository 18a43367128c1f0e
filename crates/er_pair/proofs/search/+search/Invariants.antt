use Rattle.std.proofs.Common.{length}
use Rattle.er_pair.specs.inside.Search.{free_ahead, AreDeadEnds}
use Rattle.er_pair.proofs.Trying.{IsAt}
use Rattle.er_pair.proofs.search.+search.Given as goal

abbrev pub decreases-search : goal.decreases-search
decreases-search l = length l.pairs.now

abbrev pub invariant-loop-partner : goal.invariant-loop-partner
invariant-loop-partner l = record {
  at : IsAt l.rows l.fn.used l.used (free_ahead l.fn.used l.fn.ahead (length l.rows)) l.others l.first l.candidates l.fn.steps l.steps;
  known : AreDeadEnds l.rows l.kept;
}

abbrev pub decreases-loop-partner : goal.decreases-loop-partner
decreases-loop-partner l = l.steps
