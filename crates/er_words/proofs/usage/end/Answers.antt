use Rattle.std.proofs.Common.{ℕ, List, Bor, refl}
use Rattle.er_words.proofs.Taking.{some_word}
use Rattle.er_words.proofs.usage.end.Goals as goal

pub returns-in-len1-up : goal.returns-in-len1-up
returns-in-len1-up c =
    let found = some_word (λ (word : Bor (List ℕ)). word.now) c.args.words.now c.in-len1-up.len_at_least in
    (found.0, found.1, found.2, refl)
