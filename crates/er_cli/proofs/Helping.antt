-- Which words ask for a text.
use Rattle.std.proofs.Common.{◌≡◌, ◌⊎◌, inl, inr, ℕ, Bool, true, false, IsTrue, List, [], ◌∷◌, map, Option, Some, None, refl, sym}
use Rattle.std.proofs.Common.{ap, subst, ◌∙◌, true≢false, codes}
use Rattle.std.specs.Prelude.{◌&&◌, ◌||◌, if◌then◌else◌, is_some, option_and_then}
use Rattle.std.specs.Str.{bytes_eq}
use Rattle.std.proofs.lemmas.{Slice.Eq.bytes_eq-Decides, Bool.{or_left, or_right}}
use Rattle.er_words.specs.Line.{Subcommand, subcommands, named_in, subcommand_of, is_option, line_of}
use Rattle.er_cli.specs.Help.{asks_text, text_for, text_in, help_texts, subcommand_text, option_text, is_help, is_version}

one_of : (help version : Bool) (a b : List ℕ) → help || version ≡ is_some (if help then Some a else (if version then Some b else None))
one_of true version a b = refl
one_of false true a b = refl
one_of false false a b = refl

found_alike : (is : Bool) (text : List ℕ) (s : Subcommand) (t : Option (List ℕ)) (o : Option Subcommand) → is_some o ≡ is_some t
    → is_some (if is then Some s else o) ≡ is_some (if is then Some text else t)
found_alike true text s t o same = refl
found_alike false text s t o same = same

-- each subcommand has a text
alike : (texts : List (List ℕ × List ℕ)) (table : List Subcommand)
    → map (λ (known : List ℕ × List ℕ). known.0) texts ≡ map (λ (s : Subcommand). s.name) table
    → (name : List ℕ) → is_some (named_in table name) ≡ is_some (text_in texts name)
alike [] [] are name = refl
alike [] (s ∷ table) are name = cc
alike (known ∷ texts) [] are name = cc
alike (known ∷ texts) (s ∷ table) are name =
    let first : known.0 ≡ s.name = cc in
    let others : map (λ (k : List ℕ × List ℕ). k.0) texts ≡ map (λ (it : Subcommand). it.name) table = cc in
    subst (λ (n : List ℕ). is_some (if bytes_eq name n then Some s else named_in table name)
    ≡ is_some (if bytes_eq name known.0 then Some known.1 else text_in texts name)) first
    (found_alike (bytes_eq name known.0) known.1 s (text_in texts name) (named_in table name) (alike texts table others name))

behind : (word : List ℕ) (text : Option (List ℕ))
    → is_some text && (is_help word || is_version word) ≡ is_some (option_and_then (λ help. option_text help word) text)
behind word None = refl
behind word (Some text) = one_of (is_help word) (is_version word) text _

pub exactly : (words : List (List ℕ)) → asks_text words ≡ is_some (text_for words)
exactly [] = refl
exactly (word ∷ []) = one_of (is_help word) (is_version word) _ _
exactly (name ∷ word ∷ []) =
    ap (λ (b : Bool). b && (is_help word || is_version word)) (alike help_texts subcommands refl name) ∙ behind word (subcommand_text name)
exactly (a ∷ b ∷ c ∷ words) = refl

-- ---- none of them is a line

either : (a b : Bool) → IsTrue (a || b) → IsTrue a ⊎ IsTrue b
either true b is = inl refl
either false b is = inr is

both_true : (a b : Bool) → IsTrue (a && b) → IsTrue b
both_true true b is = is
both_true false b is = absurd (true≢false (sym is))

begins_so : (word text : List ℕ) → IsTrue (is_option text) → IsTrue (bytes_eq word text) → IsTrue (is_option word)
begins_so word text is same = subst (λ (w : List ℕ). IsTrue (is_option w)) (sym ((bytes_eq-Decides word text).0 same)) is

dashed : (word : List ℕ) → IsTrue (is_help word || is_version word) → IsTrue (is_option word)
dashed word is = elim (either (is_help word) (is_version word) is) [
  | inl help ↦ elim (either (bytes_eq word (codes "--help")) (bytes_eq word (codes "-h")) help) [
    | inl long ↦ begins_so word _ refl long
    | inr short ↦ begins_so word _ refl short
  ]
  | inr version ↦ elim (either (bytes_eq word (codes "--version")) (bytes_eq word (codes "-V")) version) [
    | inl long ↦ begins_so word _ refl long
    | inr short ↦ begins_so word _ refl short
  ]
]

pub no_line : (words : List (List ℕ)) → IsTrue (asks_text words) → line_of words ≡ None
no_line [] is = absurd (true≢false (sym is))
no_line (word ∷ []) is = rw (or_left (is_option word) false (dashed word is)) refl
no_line (name ∷ word ∷ []) is =
    let last = dashed word (both_true (is_some (subcommand_of name)) _ is) in
    rw (or_right (is_option name) _ (or_left (is_option word) false last)) refl
no_line (a ∷ b ∷ c ∷ words) is = absurd (true≢false (sym is))

-- if there is a text, they ask for one
pub asked : (words : List (List ℕ)) (text : List ℕ) → text_for words ≡ Some text → IsTrue (asks_text words)
asked words text is = exactly words ∙ ap is_some is
