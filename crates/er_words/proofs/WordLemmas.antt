-- Lemmas on words, and on the lines that they are.
use Rattle.std.proofs.{lemmas.Grind.common_steps, Common.{◌≡◌, ℕ, suc, ◌-◌, ◌≤◌, Bool, true, false, ltb, List, [], ◌∷◌, length, map}}
use Rattle.std.proofs.Common.{take, drop, get_or, codes, Bor, Option, Some, None, Result, Ok, Err, refl, ap, subst, arith}
use Rattle.std.proofs.lemmas.{List.length-map, Bool.false_from_ne_true, Str.{is_utf8-from_IsUtf8, IsUtf8-from_is_utf8}}
use Rattle.std.specs.{List.{list_any, position, position_or_len}, Str.{IsUtf8, is_utf8}, Result.{IsErrAnd}}
use Rattle.er_words.specs.{declared.line.Line.Line, declared.line.LineFault.LineFault}
use Rattle.er_words.specs.declared.line.LineFault.TheVariants.{Usage}
use Rattle.er_words.specs.Line.{is_option, line_of, split_of}
use Rattle.er_words.specs.{Usage.{ReadsWords, fault_of, fault_at}, inside.Usage.ReadsNamed}
use Rattle.er_words.specs.declared.usage.UsageFault.{UsageFault}
use Rattle.er_words.specs.declared.usage.UsageFault.TheVariants.{LeadingDash, UnknownSubcommand}
use Rattle.er_words.specs.Fields.{fields_of, with_file, script_words}

position_or_len-map : {X Y : Type 0} (p : Y → Bool) (f : X → Y) (xs : List X)
    → position_or_len p (map f xs) ≡ position_or_len (λ x. p (f x)) xs
position_or_len-map p f [] = refl
position_or_len-map p f (x ∷ xs) = grind (arith, common_steps, position_or_len-map p f xs)

pub position-map : {X Y : Type 0} (p : Y → Bool) (f : X → Y) (xs : List X) → position p (map f xs) ≡ position (λ x. p (f x)) xs
position-map p f xs = grind (arith, common_steps, position_or_len-map, length-map)

any-position : {X : Type 0} (p : X → Bool) (xs : List X) → list_any p xs ≡ ltb (position_or_len p xs) (length xs)
any-position p [] = refl
any-position p (x ∷ xs) = grind (arith, common_steps, any-position p xs)

any_from_place : {X : Type 0} (p : X → Bool) (xs : List X) (place : ℕ) → position p xs ≡ Some place → list_any p xs ≡ true
any_from_place p xs place is = grind (arith, common_steps, any-position)

pub none_from_place : {X : Type 0} (p : X → Bool) (xs : List X) → position p xs ≡ None → list_any p xs ≡ false
none_from_place p xs is = grind (arith, common_steps, any-position)

-- ---- a line of a script

pub script_words-no_text : (line : List ℕ) → ¬ (IsUtf8 line) → script_words line ≡ []
script_words-no_text line none = rw (false_from_ne_true (is_utf8 line) (λ is. none (IsUtf8-from_is_utf8 line is))) refl

script_words-text : (line : List ℕ) → IsUtf8 line → script_words line ≡ with_file (fields_of line)
script_words-text line text = rw (is_utf8-from_IsUtf8 line text) refl

-- the answer to the words of a line is the answer to the line
pub Reads-script : (line : List ℕ) (words : List (List ℕ)) (r : Result Line LineFault) → IsUtf8 line → words ≡ with_file (fields_of line)
    → ReadsWords words r → ReadsWords (script_words line) r
Reads-script line words r text are read = rw (script_words-text line text, ← are) read

-- the words of a line that has fields
pub words-fields : (fields items : List (Bor (List ℕ))) (d : Bor (List ℕ)) (line : List ℕ) (words : List (List ℕ)) → fields ≡ items
    → map (λ (field : Bor (List ℕ)). field.now) items ≡ fields_of line → 1 ≤ length fields
    → words ≡ (get_or fields 0 d).now ∷ codes "script" ∷ map
    (λ (value : Bor (List ℕ)). value.now) (take (length fields - 1) (drop 1 fields)) → words ≡ with_file (fields_of line)
words-fields h1 items d line words same are some is = grind (arith, common_steps)

-- ---- the answer to words

pub Reads-option : (words : List (List ℕ)) (place : ℕ) → position is_option words ≡ Some place
    → (line_of words ≡ None) × (fault_of words ≡ Some (LeadingDash place))
Reads-option words place is = (rw (any_from_place is_option words place is) refl, ap (λ (o : Option ℕ). fault_at o words) is)

pub Reads-unsplit : (words : List (List ℕ)) → position is_option words ≡ None → split_of words ≡ None
    → (line_of words ≡ None) × (fault_of words ≡ Some UnknownSubcommand)
Reads-unsplit words plain none = (
  rw (none_from_place is_option words plain, none) refl,
  rw (plain, none) refl,
)

pub Reads-split : (words : List (List ℕ)) (name : List ℕ) (rest : List (List ℕ)) (r : Result Line LineFault)
    → position is_option words ≡ None → split_of words ≡ Some (name, rest) → ReadsNamed name rest r → ReadsWords words r
Reads-split words name rest r plain split read = rw (none_from_place is_option words plain, plain, split) read

-- the answer to words one of which asks for an option
pub Reads-refused : (words : List (List ℕ)) (why : UsageFault) (r : Result Line LineFault) → IsErrAnd r (λ fault. fault ≡ Usage why)
    → ((place : ℕ) × (position is_option words ≡ Some place) × (why ≡ LeadingDash place))
    → ReadsWords words r
Reads-refused words why (Ok line) none refused = absurd none
Reads-refused words why (Err fault) is (place, at, same) = rw (is, same) (Reads-option words place at)

-- the answer to the words of a slice, of which the first names the subcommand
pub Reads-first : (words : List (Bor (List ℕ))) (d : Bor (List ℕ)) (r : Result Line LineFault) → 1 ≤ length words
    → position is_option (map (λ (word : Bor (List ℕ)). word.now) words) ≡ None
    → ReadsNamed (get_or words 0 d).now (map (λ (word : Bor (List ℕ)). word.now) (take (length words - 1) (drop 1 words))) r
    → ReadsWords (map (λ (word : Bor (List ℕ)). word.now) words) r
Reads-first [] d r some plain read = absurd (omega (arith, some))
Reads-first (word ∷ words) d r some plain read =
    Reads-split (map (λ (w : Bor (List ℕ)). w.now) (word ∷ words)) word.now (map (λ (w : Bor (List ℕ)). w.now) words) r plain refl
    (subst (λ (ws : List (Bor (List ℕ))). ReadsNamed word.now (map (λ (w : Bor (List ℕ)). w.now) ws) r) (take-all words) read)
  where
    take-all : (ws : List (Bor (List ℕ))) → take (suc (length ws) - 1) ws ≡ ws
    take-all ws = grind (arith, common_steps)
