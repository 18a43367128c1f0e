use Rattle.std.proofs.Common.{◌≡◌, ◌<◌, ◌^◌, List, ◌∷◌, length, map, Some, refl, ap, sym, subst, ◌∙◌, arith}
use Rattle.std.proofs.lemmas.List.{length-map}
use Rattle.std.specs.{String.string_bytes, Global.Global}
use Rattle.clap.specs.{Words.{Text, app_of, found_of, is_simple, rows_of, subcommand_of}, Faults.{is_simple_and_free}}
use Rattle.er_words.specs.{Line.is_option, inside.Words.program}
use Rattle.er_words.proofs.{Walks.{AllPlain-none, simple_and_free}, Refusals.{begins, split_is, none_refused, found_words, one_found}}
use Rattle.er_words.proofs.{Refusals.{only_memory, both_halves, no_half}, WordLemmas.none_from_place}
use Rattle.er_words.proofs.words.split_words.Goals as goal

pub returns-in-Err : goal.returns-in-Err
returns-in-Err c =
    let app_is : app_of c.in_ok-command.field-0 ≡ program (string_bytes c.in-Some.first.now) =
    c.in_ok-command.ensures ∙ ap program c.as_str-name.ensures.value in
    let texts : List Text = map (string_bytes {Z = Global}) c.args.words.now in
    let all = begins string_bytes c.args.words.now c.in-Some.first.now c.in-Some.ensures.value in
    let fits : length texts < 2 ^ 64 = let short : length c.args.words.now < 2 ^ 64 =
    omega arith in subst (λ n. n < 2 ^ 64) (sym (length-map c.args.words.now (string_bytes {Z = Global}))) short in
    let refused = c.in-Err.ensures.kinds (ap is_simple_and_free app_is ∙ simple_and_free (string_bytes c.in-Some.first.now)) in
    absurd (c.in_ok-want_of_memory-in-Err.ensures refl (only_memory _ c.in-Err.error
    (none_refused _ _ texts all.0 app_is all.1 (AllPlain-none texts (none_from_place is_option texts c.requires)) fits) refused))

pub returns-in-Some-subcommand : goal.returns-in-Some-subcommand
returns-in-Some-subcommand c =
    let app_is : app_of c.in_ok-command.field-0 ≡ program (string_bytes c.in-Some.first.now) =
    c.in_ok-command.ensures ∙ ap program c.as_str-name.ensures.value in
    let texts : List Text = map (string_bytes {Z = Global}) c.args.words.now in
    let all = begins string_bytes c.args.words.now c.in-Some.first.now c.in-Some.ensures.value in
    let rows = (c.in-Ok.ensures.matches (ap is_simple app_is)).1 in
    let found : subcommand_of (app_of c.in_ok-command.field-0) texts
    ≡ Some (c.in-Some-subcommand._name.now, rows_of (found_of c.in-Some-subcommand.inner.now)) =
    sym rows ∙ both_halves _ _ _ _ _ c.in-Some-subcommand.ensures.name c.in-Some-subcommand.ensures.rows in
    let words = found_words _ _ texts all.0 app_is all.1 (AllPlain-none texts (none_from_place is_option texts c.requires)) _ found in
    ap (λ (ws : List Text). Some (c.as_str-name.result.now, ws))
    (c.in_ok-words_of-in-Some-subcommand.ensures ∙ words)
    ∙ split_is c.as_str-name.result.now texts all.0
    (all.1 ∙ ap (λ n. n ∷ all.0) (sym c.as_str-name.ensures.value))

pub returns : goal.returns
returns c =
    let app_is : app_of c.in_ok-command.field-0 ≡ program (string_bytes c.in-Some.first.now) =
    c.in_ok-command.ensures ∙ ap program c.as_str-name.ensures.value in
    let texts : List Text = map (string_bytes {Z = Global}) c.args.words.now in
    let all = begins string_bytes c.args.words.now c.in-Some.first.now c.in-Some.ensures.value in
    let rows = (c.in-Ok.ensures.matches (ap is_simple app_is)).1 in
    absurd (one_found _ _ texts all.0 app_is all.1 (sym rows ∙ no_half _ c.in-None.ensures.rows))
