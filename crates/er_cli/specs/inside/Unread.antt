-- Of a script that is not run.
use Rattle.std.specs.Prelude.{◌≡◌, ℕ, List, Option}
use Rattle.std.specs.Io.KnownBytes.{Appends, Keeps}
use Rattle.er_event.specs.declared.refusals.Refusal.TheVariants.{Memory}
use Rattle.er_cli.specs.declared.TheConstants.{USAGE, DEVICE, MEMORY}
use Rattle.er_cli.specs.declared.input.InputFault.{InputFault}
use Rattle.er_cli.specs.declared.input.InputFault.TheVariants as fault
use Rattle.er_cli.specs.declared.input.InputFault.TheVariants.{TooLong, Read}
use Rattle.er_answers.specs.declared.question.Answer.TheVariants.{Refused}
use Rattle.er_cli.specs.declared.texts.LineAnswer.TheVariants.{Usage}
use Rattle.er_cli.specs.Texts.{answer_text, told_text, AppendsPart}

-- the status of a script that is not run, and what is printed of it
abbrev pub EndsUnread : InputFault → Option (List ℕ) → Option (List ℕ) → ℕ → Type 0
EndsUnread TooLong before after status = (status ≡ USAGE) × Appends before after (answer_text Usage)
EndsUnread Read before after status = (status ≡ DEVICE) × (after ≡ before)
EndsUnread fault.Memory before after status = (status ≡ MEMORY) × Appends before after (told_text (Refused Memory))

-- what is printed of it if a write failed
abbrev pub UnreadPart : InputFault → Option (List ℕ) → Option (List ℕ) → Type 0
UnreadPart TooLong before after = AppendsPart before after (answer_text Usage)
UnreadPart Read before after = Keeps before after
UnreadPart fault.Memory before after = AppendsPart before after (told_text (Refused Memory))
