use Rattle.std.proofs.Common.{ap, ◌∙◌}
use Rattle.std.specs.Result.{result_ok}
use Rattle.er_words.proofs.Seeds.{seed_of-decoded}
use Rattle.er_words.proofs.values.seed_of.Goals as goal

pub returns : goal.returns
returns c = c.ok.ensures.value ∙ (ap result_ok c.from_hex.ensures ∙ seed_of-decoded c.args.word.now)
