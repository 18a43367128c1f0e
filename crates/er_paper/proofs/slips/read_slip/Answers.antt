use Rattle.std.proofs.{Common.arith, lemmas.Grind.common_steps}
use Rattle.er_paper.proofs.SlipLemmas.{games-read, games-unread, games-ok, games-bad}
use Rattle.er_paper.proofs.slips.read_slip.Goals as goal

pub returns-in-Ok-clause-ok : goal.returns-in-Ok-clause-ok
returns-in-Ok-clause-ok c = grind (arith, common_steps, games-ok, games-read)

pub returns-in-Ok-clause-bad : goal.returns-in-Ok-clause-bad
returns-in-Ok-clause-bad c = grind (arith, common_steps, games-bad, games-read)

pub returns-else-is_memory-clause-bad : goal.returns-else-is_memory-clause-bad
returns-else-is_memory-clause-bad c = grind (arith, common_steps, games-unread)
