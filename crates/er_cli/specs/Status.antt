-- How running a script ends.
use Rattle.std.specs.Prelude.{◌≡◌, ◌⊎◌, ℕ, ◌<◌, ◌≤◌, List, length, Option, IfSome}
use Rattle.std.specs.Io.KnownBytes.{Appends, Keeps}
use Rattle.er_event.specs.declared.refusals.Refusal.TheVariants.{Memory}
use Rattle.er_cli.specs.declared.TheConstants.{DONE, USAGE, DEVICE, MEMORY}
use Rattle.er_cli.specs.declared.input.TheConstants.{MAX_SCRIPT_BYTES}
use Rattle.er_answers.specs.declared.question.Answer.TheVariants.{Refused}
use Rattle.er_cli.specs.declared.texts.LineAnswer.TheVariants.{Usage}
use Rattle.er_cli.specs.Texts.{answer_text, told_text, AppendsPart}
use Rattle.er_cli.specs.Input.{lines_of}
use Rattle.er_cli.specs.Script.{Prints, PrintsPart}

-- the whole input was run as a script, and its answers were printed
pub record RunsScript (input before after : Option (List ℕ)) : Type 0 where
  pub script : List ℕ
  pub whole : IfSome input (λ all. script ≡ all)
  pub small : length script ≤ MAX_SCRIPT_BYTES
  pub prints : Prints (lines_of script) before after

-- the whole input was read as a script, and a write or a flush failed
pub record RunsScriptPart (input before after : Option (List ℕ)) : Type 0 where
  pub script : List ℕ
  pub whole : IfSome input (λ all. script ≡ all)
  pub small : length script ≤ MAX_SCRIPT_BYTES
  pub prints : PrintsPart (lines_of script) before after

-- the input is longer than a script may be
abbrev pub IsTooLong : Option (List ℕ) → Type 0
IsTooLong input = IfSome input (λ all. MAX_SCRIPT_BYTES < length all)

-- A read, a write or a flush failed. What was printed is nothing, or a beginning of what is due.
abbrev pub Breaks : (input before after : Option (List ℕ)) → Type 0
Breaks input before after =
    Keeps before after
    ⊎ RunsScriptPart input before after
    ⊎ (IsTooLong input × AppendsPart before after (answer_text Usage))
    ⊎ AppendsPart before after (told_text (Refused Memory))

-- the bytes that the reader had left, those that the writer held before and holds now, and the status
pub record EndsScript (input before after : Option (List ℕ)) (status : ℕ) : Type 0 where
  pub done : status ≡ DONE → RunsScript input before after
  pub too_long : status ≡ USAGE → IsTooLong input × Appends before after (answer_text Usage)
  pub device : status ≡ DEVICE → Breaks input before after
  pub memory : status ≡ MEMORY → Appends before after (told_text (Refused Memory))
  pub one_of : (status ≡ DONE) ⊎ (status ≡ USAGE) ⊎ (status ≡ DEVICE) ⊎ (status ≡ MEMORY)
