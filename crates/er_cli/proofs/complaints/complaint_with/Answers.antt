use Rattle.std.proofs.Common.{◌≡◌, ℕ, ◌<◌, ◌≤◌, List, ◌++◌, length, map, get_or, Some, None, String, Global, string_bytes, codes}
use Rattle.std.proofs.Common.{refl, sym, ap, ap₂, ◌∙◌}
use Rattle.std.proofs.lemmas.Option.{slice_get-map, slice_get_read, slice_get_past}
use Rattle.std.specs.Prelude.{slice_get}
use Rattle.std.specs.Option.{option_map}
use Rattle.er_cli.specs.Complaints.{complaint_head, place_of}
use Rattle.er_cli.proofs.complaints.complaint_with.Goals.{in-Some+in_ok-push_str+in_ok-push_str-2+in_ok-push_str-3, in_default}
use Rattle.er_cli.proofs.complaints.complaint_with.Goals as goal

module _ (words : List (String Global)) (i place : ℕ) (is : i ≡ place) where
  word_at : (word : String Global) → i < length words → word ≡ get_or words i word
      → slice_get (map string_bytes words) place ≡ Some (string_bytes word)
  word_at word within here = rw (← is) (slice_get-map string_bytes words i ∙ ap (option_map string_bytes)
      (slice_get_read words _ i word refl within here))

  no_word : length words ≤ i → slice_get (map string_bytes words) place ≡ None
  no_word past = rw (← is) (slice_get-map string_bytes words i ∙ ap (option_map string_bytes) (slice_get_past words i past))

pub returns : goal.returns
returns c =
    let words = c.args.words.now in
    let begun : string_bytes c.match-get.text ≡ complaint_head (slice_get (map string_bytes words) (place_of c.args.fault)) =
    elim c.match-get.branch [
      | in-Some+in_ok-push_str+in_ok-push_str-2+in_ok-push_str-3 w ↦
          let here = w.in-Some.ensures.lookup in
          ap string_bytes w.text-is ∙ (w.in_ok-push_str-3.ensures.bytes ∙ (ap (λ text. text ++ codes "` ")
          (w.in_ok-push_str-2.ensures.bytes ∙ ap₂ (λ text more. text ++ more)
          (w.in_ok-push_str.ensures.bytes ∙ ap (λ text. text ++ codes "`") c.in_ok-text.ensures.ok) w.as_str.ensures.value)
          ∙ ap complaint_head (sym (word_at words c.place_of.result _ c.place_of.ensures w.in-Some.word.now here.3.0 here.1))))
      | in_default w ↦ ap string_bytes w.text-is ∙ (c.in_ok-text.ensures.ok ∙ ap complaint_head (sym
          (no_word words c.place_of.result _ c.place_of.ensures w.in_default.ensures.lookup.3)))
    ] in
    c.in_ok-push_str-5.ensures.bytes ∙ ap (λ text. text ++ c.args.advice.now)
    (c.in_ok-push_str-4.ensures.bytes ∙ ap₂ (λ text more. text ++ more) begun c.what_is_wrong.ensures)
