use Rattle.std.proofs.Common.{map, sym, subst}
use Rattle.std.specs.{String.string_bytes, Global.Global}
use Rattle.er_words.specs.inside.Usage.{ReadsNamed}
use Rattle.er_words.proofs.WordLemmas.{Reads-refused, Reads-split}
use Rattle.er_words.proofs.line.read_words.Goals as goal

pub returns-in_err-refuse_option : goal.returns-in_err-refuse_option
returns-in_err-refuse_option c =
    Reads-refused (map (string_bytes {Z = Global}) c.args.words.now) _ c.from_residual.result c.from_residual.ensures.1 c.in_err-refuse_option.ensures

pub returns : goal.returns
returns c =
    let split = rw c.in_ok-name.ensures.ok_part at c.in_ok-split_words.ensures in
    Reads-split (map (string_bytes {Z = Global}) c.args.words.now) c.in_ok-name.name.now _ c.read_named.result c.in_ok-refuse_option.ensures
    (sym split)
    (subst (λ values. ReadsNamed c.in_ok-name.name.now (map (λ word. word.now) values) c.read_named.result)
    c.deref.ensures.value c.read_named.ensures)
