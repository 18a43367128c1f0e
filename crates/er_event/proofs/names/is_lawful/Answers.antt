use Rattle.er_event.proofs.Prelude.{arith, length, sym, ◌<◌, ◌∙◌, IsUtf8}
use Rattle.er_event.proofs.NameLemmas.{is_lawful_name-parts, is_lawful_name-utf8, is_ok-when}
use Rattle.er_event.proofs.names.is_lawful.Goals as goal

pub returns : goal.returns
returns c =
    let bytes = c.args.bytes.now in
    let some : 0 < length bytes = grind arith in
    let text = is_ok-when _ _ (IsUtf8 bytes) _ c.from_utf8.ensures.cases in (
      λ yes. is_lawful_name-parts bytes some c.if-bytes-gt-MAX_NAME_BYTES.false (text.0 (sym c.is_ok.ensures.value ∙ yes)) (cc) (cc),
      λ lawful. c.is_ok.ensures.value ∙ text.1 (is_lawful_name-utf8 bytes lawful),
    )
