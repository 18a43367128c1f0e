use Rattle.std.proofs.{Common.{◌==◌, length, not, rules, tests}, lemmas.Iterator.Consumers.{map_from_collect, YieldsList-from_filter}}
use Rattle.std.proofs.{lemmas.Iterator.Consumers.YieldsList-at, lemmas.Iterator.Splits.YieldsList-from_slice_split}
use Rattle.er_cli.proofs.input.lines_of.Goals as goal

pub returns : goal.returns
returns c =
    map_from_collect _ c.collect.ensures.ran (YieldsList-from_filter _ (λ line. not (length line == 0))
    (YieldsList-at c.filter.ensures.source (YieldsList-from_slice_split _
    (λ byte. byte == 10) c.args.script.now c.split.ensures.rest c.split.ensures.done c.split.ensures.closure
    (λ x b q k. search (rules, tests))))
    c.filter.ensures.closure (λ x b q k. search (rules, tests)))
