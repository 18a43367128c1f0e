use Rattle.std.proofs.{Common.arith, lemmas.Grind.common_steps, lemmas.Result.IfOk-weaker}
use Rattle.clap.proofs.WalkLemmas.{raw_values-rows}
use Rattle.er_words.proofs.words.words_of.Goals as goal

pub returns-in-Some : goal.returns-in-Some
returns-in-Some c = grind (arith, common_steps, IfOk-weaker, raw_values-rows)

pub returns-in-None : goal.returns-in-None
returns-in-None c = grind (arith, common_steps, raw_values-rows)
