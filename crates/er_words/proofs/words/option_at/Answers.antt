use Rattle.std.proofs.{Common.{◌∙◌, sym, rules, tests}, lemmas.Iterator.YieldsList-from_slice}
use Rattle.std.proofs.lemmas.Iterator.Search.{position_from_yields_List}
use Rattle.er_words.specs.Line.{is_option}
use Rattle.er_words.proofs.WordLemmas.{position-map}
use Rattle.er_words.proofs.words.option_at.Goals as goal

pub returns : goal.returns
returns g c =
    let words = c.args.words.now in
    position_from_yields_List (λ word. is_option (g.S.AsStr.text word)) _ _ c.position.result c.position.ensures.ran
    (YieldsList-from_slice words (search rules)) (λ x b q k. search (rules, tests))
    ∙ sym (position-map is_option g.S.AsStr.text words)
