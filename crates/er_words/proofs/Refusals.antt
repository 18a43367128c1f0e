-- When the parser refuses words of which none begins with a hyphen: never, if the first names a subcommand.
use Rattle.std.proofs.{lemmas.Grind.common_steps, Common.{◌≡◌, ◌<◌, ◌≤◌, Bool, true, false, List, [], ◌∷◌, ◌++◌, length, Option, Some}}
use Rattle.std.proofs.Common.{None, is_some, option_map, refl, sym, subst, map, slice_get, ap, ap₂, ◌∙◌, arith, ◌^◌}
use Rattle.std.proofs.lemmas.Option.{same_Some}
use Rattle.clap.specs.{declared.error.ErrorKind.TheVariants.OutOfMemory, Words.{App, Row, Shape}}
use Rattle.clap.specs.{Words.{Text, built}, Lexer.usize_max, Simple.{entered, subcommand_of}, Walk.{Held, Step, Waiting, Walk, value}}
use Rattle.clap.specs.{Walk.{walk_from, nothing_held, settled, finished}, Values.kind_of, declared.Error.Error, Kinds.HasKind}
use Rattle.clap.specs.{Kinds.{Kinds, or_else}, Faults.{fault_of, walk_fault, turn_fault, other_fault, step_fault, level_fault}}
use Rattle.clap.specs.Faults.{entered_fault, defaults_fault, settle_fault, values_fault, check_fault}
use Rattle.clap.proofs.FaultLemmas.{stopped_fault}
use Rattle.er_words.specs.Line.{is_option, split_of}
use Rattle.er_words.specs.inside.Words.{bare, program, words_in}
use Rattle.er_words.proofs.Walks.{AllPlain, plain_met, leaf_rule, leaf_rules, leaf_built, labels}
use Rattle.er_words.proofs.Walks.{reading_words, first_word, next_word, leaf_walk, same_name, name_walked, whole_walk, entered_is}
use Rattle.er_words.proofs.Walks.{subcommand_is, leaf_words}

-- a word with no hyphen in front isn't a flag
turn_by : (n : Text) (w : Text) (h : Held) (waiting : Waiting) (met : Held × Step) → is_option w ≡ false → met ≡ (h, value)
    → or_else (other_fault (leaf_built n) None w h) (step_fault (leaf_built n) 1 met.0 met.1) ≡ step_fault (leaf_built n) 1 h value
turn_by n w h waiting met plain is = grind (arith, common_steps)

next_turn : (n : Text) (ws : List Text) (w : Text) → is_option w ≡ false → turn_fault (leaf_built n) [] (reading_words ws) w ≡ []
next_turn n ws w plain = grind (arith, common_steps)

next_turns : (n : Text) (ws rest : List Text) → AllPlain rest → walk_fault (leaf_built n) [] (reading_words ws) rest ≡ []
unfolding walk_fault
next_turns n ws [] plain = refl
next_turns n ws (w ∷ rest) plain =
    ap₂ or_else (next_turn n ws w plain.0)
    (ap (λ (s : Walk). walk_fault (leaf_built n) [] s rest) (next_word ws w plain.0) ∙ next_turns n (ws ++ w ∷ []) rest plain.1)

turns : (n : Text) (ws : List Text) → AllPlain ws → walk_fault (leaf_built n) [] (walk_from nothing_held) ws ≡ []
unfolding walk_fault
turns n [] plain = refl
turns n (w ∷ rest) plain = grind (arith, common_steps, first_word, leaf_built, leaf_rules, next_turns, plain_met, turn_by)

-- ---- the end of a subcommand's words

any_text : (ws : List Text) → values_fault leaf_rule ws ≡ []
any_text [] = refl
any_text (w ∷ ws) = any_text ws

end_fault : (n w : Text) (rest : List Text) → length (w ∷ rest) ≤ usize_max
    → settle_fault leaf_rules false (reading_words (w ∷ rest)).held ≡ []
end_fault n w rest fits = grind (arith, common_steps, any_text)

-- what is asked after the words
abbrev after_words : Text → Held → Kinds
after_words n end = or_else [] (or_else (settle_fault leaf_rules false end)
    (or_else (defaults_fault (settled leaf_rules end).rows leaf_rules) (check_fault (leaf_built n) (finished leaf_rules end) false)))

leaf_end : (n w : Text) (rest : List Text) → length (w ∷ rest) ≤ usize_max → after_words n (reading_words (w ∷ rest)).held ≡ []
unfolding defaults_fault
leaf_end n w rest fits = ap (λ k. or_else k (or_else (defaults_fault (settled leaf_rules (reading_words (w ∷ rest)).held).rows leaf_rules)
    (check_fault (leaf_built n) (finished leaf_rules (reading_words (w ∷ rest)).held) false))) (end_fault n w rest fits)

leaf_takes : (n : Text) (ws : List Text) → AllPlain ws → length ws ≤ usize_max → level_fault (leaf_built n) [] nothing_held ws false [] ≡ []
unfolding defaults_fault walk_fault
leaf_takes n [] plain fits = refl
leaf_takes n (w ∷ rest) plain fits =
    ap₂ or_else (turns n (w ∷ rest) plain)
    (ap (λ (s : Walk). after_words n s.held) (leaf_walk w rest plain) ∙ leaf_end n w rest fits)

-- ---- the program's own words

abbrev top_built : Shape
top_built = record bare.top { is_leaf = false; is_built = true }

own_words : (name : Text) (rest : List Text) → walk_fault top_built (labels name) (walk_from nothing_held) (name ∷ rest) ≡ []
unfolding walk_fault
own_words name rest = grind (arith, common_steps, same_name, labels, name_walked, stopped_fault)

below : (name : Text) (rest : List Text) → AllPlain rest → length rest ≤ usize_max
    → entered_fault (built (program name)) (Some (name, rest)) ≡ []
below name rest plain fits = grind (arith, common_steps, same_name, leaf_built, leaf_takes)

ending : (k1 k2 : Kinds) (x : Bool) → k1 ≡ [] → k2 ≡ [] → x ≡ true
    → or_else k1 (or_else k2 (or_else [] (or_else (defaults_fault [] []) (check_fault top_built [] x)))) ≡ []
unfolding defaults_fault
ending k1 k2 x a b c = rw (a, b, c) refl

-- words that begin with the name are taken
taken : (name : Text) (rest : List Text) → AllPlain rest → length rest ≤ usize_max → fault_of (program name) (name ∷ rest) ≡ []
taken name rest plain fits =
    ap (λ (s : Walk). or_else (walk_fault top_built (labels name) (walk_from nothing_held) (name ∷ rest))
    (or_else (entered_fault (built (program name)) s.stopped) (or_else (settle_fault [] false s.held)
    (or_else (defaults_fault (settled [] s.held).rows [])
    (check_fault top_built (finished [] s.held) (is_some (entered (built (program name)) s.stopped)))))))
    (whole_walk name rest)
    ∙ ending _ _ _ (own_words name rest) (below name rest plain fits) (ap is_some (entered_is name rest))

-- ---- texts that begin with a name, and the parser that knows it

-- the text of the first item, and the others
pub begins : {S : Type 0} (text : S → Text) (items : List S) (first : S) → Some first ≡ slice_get items 0
    → (rest : List Text) × (map text items ≡ text first ∷ rest)
begins text [] first is = let bad : Some first ≡ None = is in cc
begins text (item ∷ items) first is = (map text items, ap (λ x. text x ∷ map text items) (sym (same_Some first item is)))

pub split_is : (name : Text) (texts rest : List Text) → texts ≡ name ∷ rest → Some (name, rest) ≡ split_of texts
split_is name texts rest are = rw are refl

module _ (app : App) (name : Text) (texts rest : List Text) (is : app ≡ program name) (are : texts ≡ name ∷ rest) where
  pub none_refused : AllPlain texts → length texts < 2 ^ 64 → fault_of app texts ≡ []
  none_refused plain fits =
      let short : length (name ∷ rest) < 2 ^ 64 = subst (λ ts. length ts < 2 ^ 64) are fits in
      rw (is, are) (taken name rest (subst AllPlain are plain).1 (omega arith))

  pub found_words : AllPlain texts → (p : Text × List Row) → subcommand_of app texts ≡ Some p → words_in p.1 ≡ rest
  found_words plain p found =
      let here = rw (is, are) at found in
      let others = leaf_words rest (subst AllPlain are plain).1 in
      grind (arith, common_steps, leaf_rules, subcommand_is, others)

  pub one_found : subcommand_of app texts ≡ None → ⊥
  one_found none = let here = rw (is, are) at none in grind (arith, common_steps, subcommand_is)

-- ---- what the calls of the parser give

pub only_memory : (ks : Kinds) (e : Error) → ks ≡ [] → HasKind ks e → kind_of e ≡ OutOfMemory
only_memory h1 e none h2 = grind (arith, common_steps)

pub both_halves : {B X Y : Type 0} (f : B → X) (g : B → Y) (o : Option B) (x : X) (y : Y) → Some x ≡ option_map f o
    → Some y ≡ option_map (λ (p : X × Y). p.1) (option_map {U = X × Y} (λ b. (f b, g b)) o)
    → option_map {U = X × Y} (λ b. (f b, g b)) o ≡ Some (x, y)
both_halves f g h1 x y p q = grind (arith, common_steps)

pub no_half : {X Y : Type 0} (o : Option (X × Y)) → None ≡ option_map (λ (p : X × Y). p.1) o → o ≡ None
no_half h1 e = grind (arith, common_steps)
