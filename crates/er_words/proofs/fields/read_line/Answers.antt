use Rattle.std.proofs.{Common.{arith, refl}, lemmas.Grind.common_steps}
use Rattle.er_words.proofs.WordLemmas.{Reads-script, script_words-no_text, words-fields}
use Rattle.er_words.proofs.fields.read_line.Goals as goal

pub returns-in_default : goal.returns-in_default
returns-in_default c = rw (script_words-no_text c.args.line.now c.in_default.ensures.cases.0) (refl, refl)

pub returns : goal.returns
returns c = grind (arith, common_steps, Reads-script, words-fields)
