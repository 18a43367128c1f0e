-- What is printed of an answer, and what a writer holds then. Each text is nested to the right, as a format writes its parts.
use Rattle.std.specs.Prelude.{ℕ, List, [], ◌∷◌, ◌++◌, take, Option, codes}
use Rattle.std.specs.Fmt.{decimal}
use Rattle.std.specs.Io.KnownBytes.{Appends}
use Rattle.er_event.specs.Refusal.{entry_of}
use Rattle.er_answers.specs.declared.question.Answer.{Answer}
use Rattle.er_answers.specs.declared.question.Answer.TheVariants.{Accepted, Text, Slip, Refused}
use Rattle.er_cli.specs.declared.texts.LineAnswer.{LineAnswer}
use Rattle.er_cli.specs.declared.texts.LineAnswer.TheVariants.{Asked, Usage}

-- what the desk has answered, as it is printed
abbrev pub told_text : Answer → List ℕ
told_text (Accepted receipt) = codes "ok " ++ (decimal receipt.serial ++ (10 ∷ []))
told_text (Text text) = text
told_text (Slip text) = text
told_text (Refused why) = codes "refused " ++ (decimal (entry_of why).0 ++ (32 ∷ ((entry_of why).1 ++ (10 ∷ []))))

-- the answer to a line of a script; `usage` if it isn't one
abbrev pub answer_text : LineAnswer → List ℕ
answer_text (Asked told) = told_text told
answer_text Usage = codes "usage" ++ (10 ∷ [])

-- the writer got a beginning of the text, or none of it
abbrev pub AppendsPart : Option (List ℕ) → Option (List ℕ) → List ℕ → Type 0
AppendsPart before after text = (sent : ℕ) × Appends before after (take sent text)
