use Rattle.std.proofs.Common.{◌∙◌, sym, refl}
use Rattle.er_words.proofs.Numbers.{number_of-parsed}
use Rattle.er_words.proofs.values.number_of.Goals as goal

pub returns-then-is_number : goal.returns-then-is_number
returns-then-is_number c = c.ok.ensures.value ∙ number_of-parsed 16 65536 refl c.args.word.now
    (sym c.is_number.ensures ∙ c.if-is_number.true) _ c.parse.ensures.value.0
