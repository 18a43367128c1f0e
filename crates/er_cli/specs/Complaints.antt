-- What a person is told of words that aren't a command line. Each text is nested to the left, as it is written part by part.
use Rattle.std.specs.Prelude.{◌≡◌, ◌⊎◌, ℕ, ◌==◌, if◌then◌else◌, List, [], ◌∷◌, ◌++◌, Option, Some, None, unwrap_or, slice_get, codes}
use Rattle.er_event.specs.declared.refusals.Refusal.TheVariants.{Memory}
use Rattle.er_cli.specs.declared.TheConstants.{USAGE}
use Rattle.er_cli.specs.declared.complaints.TheConstants.{TRY_HELP, NO_TEXT}
use Rattle.er_answers.specs.declared.question.Answer.TheVariants.{Refused}
use Rattle.er_words.specs.declared.usage.UsageFault.{UsageFault}
use Rattle.er_words.specs.declared.usage.UsageFault.TheVariants.{UnknownSubcommand, LeadingDash, TooFew, TooMany, BadNumber, BadSeed}
use Rattle.er_words.specs.declared.usage.UsageFault.TheVariants.{BadCount, BadKind}
use Rattle.er_cli.specs.Help.{Printed, Says, Tells, subcommand_text}
use Rattle.er_words.specs.Usage.{fault_of}

abbrev pub what_is_wrong : UsageFault → List ℕ
what_is_wrong UnknownSubcommand = codes "is no subcommand\n"
what_is_wrong (LeadingDash place) = codes "begins with `-`, which no word may\n"
what_is_wrong (TooFew place) = codes "a word is missing at the end\n"
what_is_wrong (TooMany place) = codes "is a word too many\n"
what_is_wrong (BadNumber place most) =
    if most == 255 then codes "is no whole number from 0 to 255\n" else codes "is no whole number from 0 to 65535\n"
what_is_wrong (BadSeed place) = codes "is not 64 hexadecimal digits\n"
what_is_wrong (BadCount place) = codes "is no whole number from 1 to 1000000\n"
what_is_wrong (BadKind place) = codes "is no kind of list: players or results\n"

abbrev pub place_of : UsageFault → ℕ
place_of UnknownSubcommand = 0
place_of (LeadingDash place) = place
place_of (TooFew place) = place
place_of (TooMany place) = place
place_of (BadNumber place most) = place
place_of (BadSeed place) = place
place_of (BadCount place) = place
place_of (BadKind place) = place

-- the word at fault, if there is one
abbrev pub complaint_head : Option (List ℕ) → List ℕ
complaint_head None = codes "event_reporter: "
complaint_head (Some word) = ((codes "event_reporter: " ++ codes "`") ++ word) ++ codes "` "

-- The first fault is named, and how the subcommand is called, or where to look. Words that aren't text come as none.
abbrev pub Complains : List (List ℕ) → List ℕ → Type 0
Complains [] text = text ≡ NO_TEXT.now
Complains (name ∷ words) text =
    (fault : UsageFault) × (fault_of (name ∷ words) ≡ Some fault)
    × (text ≡ (complaint_head (slice_get (name ∷ words) (place_of fault)) ++ what_is_wrong fault)
    ++ unwrap_or (subcommand_text name) TRY_HELP.now)

-- What is wrong goes to the errors, or that memory ran out. The output stays as it is.
abbrev pub EndsAsUsage : List (List ℕ) → Printed → Type 0
EndsAsUsage words p = ((text : List ℕ) × Complains words text × Says text USAGE p.err p.out p.status) ⊎ Tells (Refused Memory) p
