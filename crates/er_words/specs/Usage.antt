-- What is at fault in words that aren't a line: the first thing that is.
use Rattle.std.specs.Prelude.{◌≡◌, ℕ, List, Option, Some, None, Result, Ok, Err}
use Rattle.std.specs.List.{position}
use Rattle.er_words.specs.declared.usage.UsageFault.{UsageFault}
use Rattle.er_words.specs.declared.usage.UsageFault.TheVariants.{UnknownSubcommand, LeadingDash}
use Rattle.er_words.specs.Faults.{values_fault}
use Rattle.er_words.specs.declared.line.Line.{Line}
use Rattle.er_words.specs.declared.line.LineFault.{LineFault}
use Rattle.er_words.specs.declared.line.LineFault.TheVariants.{Usage, Memory}
use Rattle.er_words.specs.Line.{Subcommand, is_option, line_of, split_of, subcommand_of}

-- of the words after a subcommand's name
abbrev pub fault_by : Option Subcommand → List (List ℕ) → Option UsageFault
fault_by None words = Some UnknownSubcommand
fault_by (Some subcommand) words = values_fault subcommand.kinds 1 words

abbrev pub named_fault : List ℕ → List (List ℕ) → Option UsageFault
named_fault name words = fault_by (subcommand_of name) words

-- of words that are split after the first
abbrev pub split_fault : Option (List ℕ × List (List ℕ)) → Option UsageFault
split_fault None = Some UnknownSubcommand
split_fault (Some split) = named_fault split.0 split.1

-- a word that begins with `-`, and else from the first word on
abbrev pub fault_at : Option ℕ → List (List ℕ) → Option UsageFault
fault_at (Some place) words = Some (LeadingDash place)
fault_at None words = split_fault (split_of words)

-- the first fault of words
abbrev pub fault_of : List (List ℕ) → Option UsageFault
fault_of words = fault_at (position is_option words) words

-- The answer to words that are this, if anything, and else have this fault. For any of them memory may run out.
abbrev pub IsReadAs : {T : Type 0} → Option T → Option UsageFault → Result T LineFault → Type 0
IsReadAs found fault (Ok it) = (found ≡ Some it) × (fault ≡ None)
IsReadAs found fault (Err (Usage why)) = (found ≡ None) × (fault ≡ Some why)
IsReadAs found fault (Err Memory) = Unit {0}

-- words are read as the line that they are
abbrev pub ReadsWords : List (List ℕ) → Result Line LineFault → Type 0
ReadsWords words = IsReadAs (line_of words) (fault_of words)
