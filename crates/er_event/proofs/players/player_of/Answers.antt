use Rattle.er_event.proofs.Prelude.{arith, sym, common_steps, slice_get}
use Rattle.er_event.proofs.DropLemmas.{find-below, find-numbered, item-got}
use Rattle.er_event.proofs.players.player_of.Goals as goal

pub returns-then-number-eq0 : goal.returns-then-number-eq0
returns-then-number-eq0 c = sym (find-below 1 c.args.players.now c.args.number c.requires.numbered (omega arith))

pub returns : goal.returns
returns c = grind (arith, common_steps, find-numbered, item-got, slice_get)
