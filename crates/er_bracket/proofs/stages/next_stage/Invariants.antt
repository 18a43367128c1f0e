use Rattle.std.proofs.Common.{◌≡◌, ◌++◌, length, All}
use Rattle.er_event.specs.Bracket.{next_stage}
use Rattle.er_bracket.specs.Winners.{IsWon}
use Rattle.er_bracket.proofs.stages.next_stage.Given as goal

abbrev pub invariant-loop-rest : goal.invariant-loop-rest
invariant-loop-rest l = record { made : l.next ++ next_stage l.rest ≡ next_stage l.matches; won : All IsWon l.rest }

abbrev pub decreases-loop-rest : goal.decreases-loop-rest
decreases-loop-rest l = length l.rest
