-- What the parser makes of words of which none begins with a hyphen.
use Rattle.std.proofs.Common.{arith, ◌≡◌, ℕ, true, false, List, [], ◌∷◌, ◌++◌, codes, Option, Some, None, refl, sym, ap, ◌∙◌}
use Rattle.std.proofs.{Common.{append_assoc, append-nil}, lemmas.Grind.common_steps, lemmas.Slice.Eq.bytes_eq-Decides}
use Rattle.std.specs.{List.{fold, list_any}, Str.bytes_eq}
use Rattle.clap.specs.{Words.{Rule, Shape, Text, built}, Simple.{filled, with_index}}
use Rattle.clap.specs.{Simple.{subcommand_of, entered}, Walk.{Held, Names, Step, Waiting, Walk, idle, positional, value}}
use Rattle.clap.specs.Walk.{subcommand, walked, walk_from, nothing_held, word_met, subcommand_met, plain_word, after_step, finished}
use Rattle.clap.specs.{Walk.{rows_after, subcommand_or_other}, Faults.is_simple_and_free}
use Rattle.er_words.specs.{Line.is_option, inside.Words.{leaf, program, words_rule, words_in}}

-- ---- a word with no hyphen in front

abbrev pub AllPlain : List Text → Type 0
AllPlain [] = Unit {0}
AllPlain (w ∷ rest) = (is_option w ≡ false) × AllPlain rest

pub AllPlain-none : (ws : List Text) → list_any is_option ws ≡ false → AllPlain ws
AllPlain-none [] none = tt
AllPlain-none (w ∷ rest) none = grind (arith, common_steps, AllPlain-none rest)

-- the word goes to a positional
pub plain_met : (c : List Rule) (ns : Names) (waiting : Waiting) (position : ℕ) (w : Text) (h : Held) → is_option w ≡ false
    → subcommand_met ns waiting w ≡ None → plain_word c waiting w h ≡ (h, value) → word_met c ns false waiting position w h ≡ (h, value)
plain_met c ns waiting position w h plain none goes = grind (arith, common_steps)

-- ---- the words of a subcommand

abbrev pub leaf_rule : Rule
leaf_rule = with_index 1 (filled words_rule)

abbrev pub leaf_rules : List Rule
leaf_rules = leaf_rule ∷ []

abbrev pub reading_words : List Text → Walk
reading_words ws = record {
  held = record { rows = []; pending = Some (codes "words", ws); skip = 0 };
  waiting = positional;
  position = 1;
  is_trailing = false;
  stopped = None;
}

pub first_word : (w : Text) → is_option w ≡ false → walked leaf_rules [] (walk_from nothing_held) w ≡ reading_words (w ∷ [])
unfolding walked
first_word w plain = grind (arith, common_steps)

pub next_word : (ws : List Text) (w : Text) → is_option w ≡ false → walked leaf_rules [] (reading_words ws) w ≡ reading_words (ws ++ w ∷ [])
unfolding walked
next_word ws w plain = grind (arith, common_steps)

pub next_words : (ws rest : List Text) → AllPlain rest → fold (walked leaf_rules []) (reading_words ws) rest ≡ reading_words (ws ++ rest)
next_words ws [] plain = ap reading_words (sym (append-nil ws))
next_words ws (w ∷ rest) plain = grind (arith, common_steps, next_words (ws ++ w ∷ []) rest plain.1, next_word)

pub leaf_walk : (w : Text) (rest : List Text) → AllPlain (w ∷ rest)
    → fold (walked leaf_rules []) (walk_from nothing_held) (w ∷ rest) ≡ reading_words (w ∷ rest)
leaf_walk w rest plain = grind (arith, common_steps, first_word, next_words)

pub leaf_words : (ws : List Text) → AllPlain ws → words_in (rows_after leaf_rules [] ws) ≡ ws
leaf_words [] plain = refl
leaf_words (w ∷ rest) plain = ap (λ (s : Walk). words_in (finished leaf_rules s.held)) (leaf_walk w rest plain)

-- ---- the subcommand

-- a subcommand, as the parser knows it once it is built
abbrev pub leaf_built : Text → Shape
leaf_built n = record (leaf n) {
  rules = leaf_rules;
  is_built = true;
  no_binary_name = true;
  disable_help_flag = true;
  disable_help_subcommand = true;
}

abbrev pub label_built : Text → Text × List Text
label_built n = (n, [])

pub simple_and_free : (name : Text) → is_simple_and_free (program name) ≡ true
simple_and_free name = refl

-- ---- the walk of the program's own words

pub same_name : (name : Text) → bytes_eq name name ≡ true
same_name name = grind (arith, common_steps, bytes_eq-Decides)

module _ (name : Text) where
  abbrev pub labels : Names
  labels = label_built name ∷ []

  abbrev pub stopped_at : List Text → Walk
  stopped_at rest = record (walk_from nothing_held) { stopped = Some (name, rest) }

  pub met_name : subcommand_met labels idle name ≡ Some name
  met_name = grind (arith, common_steps, same_name)

  pub name_word : word_met [] labels false idle 1 name nothing_held ≡ (nothing_held, subcommand name)
  name_word = ap (λ (o : Option Text). subcommand_or_other [] o idle 1 name nothing_held) met_name

  pub name_walked : walked [] labels (walk_from nothing_held) name ≡ stopped_at []
  unfolding walked
  name_walked = ap (λ (m : Held × Step). after_step [] name (walk_from nothing_held) m.0 m.1) name_word

  rest_walked : (acc rest : List Text) → fold (walked [] labels) (stopped_at acc) rest ≡ stopped_at (acc ++ rest)
  unfolding walked
  rest_walked acc [] = ap stopped_at (sym (append-nil acc))
  rest_walked acc (x ∷ rest) = rest_walked (acc ++ x ∷ []) rest ∙ ap stopped_at (append_assoc acc (x ∷ []) rest)

  pub whole_walk : (rest : List Text) → fold (walked [] labels) (walk_from nothing_held) (name ∷ rest) ≡ stopped_at rest
  whole_walk rest = ap (λ (s : Walk). fold (walked [] labels) s rest) name_walked ∙ rest_walked [] rest

  pub entered_is : (rest : List Text) → entered (built (program name)) (Some (name, rest)) ≡ Some (name, rows_after leaf_rules [] rest)
  entered_is rest = grind (arith, common_steps, same_name)

  pub subcommand_is : (rest : List Text) → subcommand_of (program name) (name ∷ rest) ≡ Some (name, rows_after leaf_rules [] rest)
  subcommand_is rest = ap (λ (s : Walk). entered (built (program name)) s.stopped) (whole_walk rest) ∙ entered_is rest
