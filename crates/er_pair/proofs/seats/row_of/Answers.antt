use Rattle.std.proofs.{lemmas.Grind.common_steps, Common.arith, lemmas.List.get_or_past}
use Rattle.er_pair.proofs.Bits.{no_word}
use Rattle.er_pair.proofs.seats.row_of.Goals as goal

pub returns-else-at-rows : goal.returns-else-at-rows
returns-else-at-rows c = grind (arith, common_steps, get_or_past, no_word)
