use Rattle.std.proofs.{Common.arith, lemmas.Grind.common_steps, lemmas.List.Elements.{All-take, All-drop}}
use Rattle.er_bracket.specs.Winners.{IsWon}
use Rattle.er_bracket.proofs.stages.next_stage.Goals as goal

pub loop-rest-preserved : goal.loop-rest-preserved
loop-rest-preserved c = record {
  made = grind (arith, common_steps);
  won = All-take IsWon _ _ (All-drop IsWon 2 c.loop-rest.rest.now c.loop-rest.invariant.won);
}
