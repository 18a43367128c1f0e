use Rattle.std.proofs.Common.{ℕ, List, Bor, map}
use Rattle.er_words.proofs.WordLemmas.{Reads-first, Reads-refused}
use Rattle.er_words.proofs.line.read_fields.Goals as goal

pub returns-in_err-refuse_option : goal.returns-in_err-refuse_option
returns-in_err-refuse_option c =
    Reads-refused (map (λ (word : Bor (List ℕ)). word.now) c.args.words.now) _ c.from_residual.result c.from_residual.ensures.1 c.in_err-refuse_option.ensures

pub returns : goal.returns
returns c = Reads-first c.args.words.now _ c.read_named.result c.in-len1-up.len_at_least c.in_ok-refuse_option.ensures c.read_named.ensures
