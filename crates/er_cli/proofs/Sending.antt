-- What went out, and what came to be printed if a write or a flush failed.
use Rattle.std.proofs.Common.{◌≡◌, ℕ, ◌+◌, ◌-◌, ◌≤◌, nat_le, Bool, true, false, List, ◌++◌, take, drop, length, Option, Result, Ok, Err}
use Rattle.std.proofs.{Common.{OnErr, refl, sym, ap, subst, ◌∙◌, arith, length-drop}, lemmas.List.{take_all, take-append-le}}
use Rattle.std.proofs.{lemmas.Bool.Decides.nat_tests, Math.Seq.{take-add, take-append-add, take-append_seam}, KnownBytes.Appends-trans}
use Rattle.std.proofs.KnownBytes.{Appends-kept}
use Rattle.std.specs.Io.KnownBytes.{Appends, Keeps}
use Rattle.er_cli.specs.Texts.{AppendsPart}

pub sent_more : (bytes : List ℕ) (sent n : ℕ) → take sent bytes ++ take n (take (length bytes - sent) (drop sent bytes)) ≡ take
    (sent + n) bytes
sent_more bytes sent n =
    let short : length (drop sent bytes) ≤ length bytes - sent = omega (arith, length-drop sent bytes) in
    ap (λ t. take sent bytes ++ take n t) (take_all (length bytes - sent) (drop sent bytes) short) ∙ sym (take-add sent n bytes)

-- the whole text is a part of it
pub whole_part : (before after : Option (List ℕ)) (text : List ℕ) → Appends before after text → AppendsPart before after text
whole_part before after text whole = (
  length text,
  subst (λ t. Appends before after t) (sym (take_all (length text) text (omega arith))) whole,
)

-- a flush keeps it
pub part_kept : (before mid after : Option (List ℕ)) (text : List ℕ) → AppendsPart before mid text → Keeps mid after
    → AppendsPart before after text
part_kept before mid after text part keeps = (part.0, Appends-kept before mid after _ part.1 keeps)

pub err_is : {A E P : Type 0} (r : Result A E) → P → OnErr r P
err_is (Ok a) p = tt
err_is (Err e) p = p

-- a text, and then a beginning of another
pub part_after : (before mid after : Option (List ℕ)) (text more : List ℕ) → Appends before mid text → AppendsPart mid after more
    → AppendsPart before after (text ++ more)
part_after before mid after text more whole part = (
  length text + part.0,
  subst (λ t. Appends before after t) (sym (take-append-add text more part.0))
      (Appends-trans before mid after text (take part.0 more) whole part.1),
)

fits : (n size : ℕ) → nat_le n size ≡ true → n ≤ size
fits n size is = grind (arith, nat_tests)

past : (n size : ℕ) → nat_le n size ≡ false → size ≤ n
past n size is = grind (arith, nat_tests)

-- a beginning of a text is one of the text with more after it
pub part_first : (before after : Option (List ℕ)) (text more : List ℕ) → AppendsPart before after text
    → AppendsPart before after (text ++ more)
part_first before after text more part = by_size (nat_le part.0 (length text)) refl
  where
    by_size : (b : Bool) → nat_le part.0 (length text) ≡ b → AppendsPart before after (text ++ more)
    by_size true is = (
      part.0,
      subst (λ t. Appends before after t) (sym (take-append-le part.0 text more (fits part.0 (length text) is)))
          part.1,
    )
    by_size false is = (
      length text,
      subst (λ t. Appends before after t) (take_all part.0 text (past part.0 (length text) is)
          ∙ sym (take-append_seam text more)) part.1,
    )
