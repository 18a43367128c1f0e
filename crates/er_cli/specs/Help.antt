-- The answer to the words of a command line.
use Rattle.std.specs.Prelude.{◌≡◌, ◌⊎◌, ℕ, ◌&&◌, ◌||◌, Bool, false, if◌then◌else◌, List, [], ◌∷◌, Option, Some, None, is_some}
use Rattle.std.specs.Prelude.{option_and_then, codes}
use Rattle.std.specs.Str.{bytes_eq}
use Rattle.std.specs.Io.KnownBytes.{Appends}
use Rattle.er_event.specs.declared.refusals.Refusal.{Refusal}
use Rattle.er_event.specs.declared.refusals.Refusal.TheVariants.{Memory, NeedsReopen, Store}
use Rattle.er_answers.specs.declared.question.Answer.{Answer}
use Rattle.er_answers.specs.declared.question.Answer.TheVariants.{Refused}
use Rattle.er_words.specs.Line.{subcommand_of}
use Rattle.er_cli.specs.Texts.{told_text, AppendsPart}
use Rattle.er_cli.specs.declared.TheConstants.{DONE, REFUSED, DEVICE, MEMORY}
use Rattle.er_cli.specs.declared.help.TheConstants.{VERSION, HELP, INIT, ENROL, IMPORT, START, PAIR, RESULT, CORRECT, DROP, CUT, PLAYOFF}
use Rattle.er_cli.specs.declared.help.TheConstants.{STANDINGS, PLAYERS, SLIPS, BRACKET, EXPORT, SERVE, MIGRATE}

abbrev pub is_help : List ℕ → Bool
is_help word = bytes_eq word (codes "--help") || bytes_eq word (codes "-h")

abbrev pub is_version : List ℕ → Bool
is_version word = bytes_eq word (codes "--version") || bytes_eq word (codes "-V")

-- what an option asks for: this help, or the version
abbrev pub option_text : (help word : List ℕ) → Option (List ℕ)
option_text help word = if is_help word then Some help else (if is_version word then Some VERSION.now else None)

-- what there is to know of each subcommand
abbrev pub help_texts : List (List ℕ × List ℕ)
help_texts =
    (codes "init", INIT.now)
    ∷ (codes "enrol", ENROL.now)
    ∷ (codes "import", IMPORT.now)
    ∷ (codes "start", START.now)
    ∷ (codes "pair", PAIR.now)
    ∷ (codes "result", RESULT.now)
    ∷ (codes "correct", CORRECT.now)
    ∷ (codes "drop", DROP.now)
    ∷ (codes "cut", CUT.now)
    ∷ (codes "playoff", PLAYOFF.now)
    ∷ (codes "standings", STANDINGS.now)
    ∷ (codes "players", PLAYERS.now)
    ∷ (codes "slips", SLIPS.now)
    ∷ (codes "bracket", BRACKET.now)
    ∷ (codes "export", EXPORT.now)
    ∷ (codes "serve", SERVE.now)
    ∷ (codes "migrate", MIGRATE.now)
    ∷ []

abbrev pub text_in : List (List ℕ × List ℕ) → List ℕ → Option (List ℕ)
text_in [] name = None
text_in (known ∷ texts) name = if bytes_eq name known.0 then Some known.1 else text_in texts name

-- of the one that has this name
abbrev pub subcommand_text : List ℕ → Option (List ℕ)
subcommand_text = text_in help_texts

-- the text that the words ask for: an option by itself, or after a subcommand
abbrev pub text_for : List (List ℕ) → Option (List ℕ)
text_for (word ∷ []) = option_text HELP.now word
text_for (name ∷ word ∷ []) = option_and_then (λ help. option_text help word) (subcommand_text name)
text_for _ = None

-- whether they ask for one
abbrev pub asks_text : List (List ℕ) → Bool
asks_text (word ∷ []) = is_help word || is_version word
asks_text (name ∷ word ∷ []) = is_some (subcommand_of name) && (is_help word || is_version word)
asks_text _ = false

-- ---- where an answer goes, and the status that comes with it

-- out of memory, a fault of the store, and any other refusal
abbrev pub refusal_status : Refusal → ℕ
refusal_status Memory = MEMORY
refusal_status (Store cause) = DEVICE
refusal_status NeedsReopen = DEVICE
refusal_status why = REFUSED

-- what a stream held before, and what it holds then
pub record Stream : Type 0 where
  pub before : Option (List ℕ)
  pub after : Option (List ℕ)

abbrev pub stream : (before after : Option (List ℕ)) → Stream
stream before after = record { before = before; after = after }

-- what a run has printed to the output and to the errors, and its status
pub record Printed : Type 0 where
  pub out : Stream
  pub err : Stream
  pub status : ℕ

abbrev pub prints : (out out_then err err_then : Option (List ℕ)) → ℕ → Printed
prints out out_then err err_then status = record { out = stream out out_then; err = stream err err_then; status = status }

-- The text goes to a stream, with the status that is due. If a write fails, a beginning of the text is there, and the status
-- is the device's.
abbrev pub PutsText : List ℕ → ℕ → Stream → ℕ → Type 0
PutsText text due stream status =
    ((status ≡ due) × Appends stream.before stream.after text) ⊎ ((status ≡ DEVICE) × AppendsPart stream.before stream.after text)

-- the text goes to the one stream, and the other stays
abbrev pub Says : List ℕ → ℕ → (meant other : Stream) → ℕ → Type 0
Says text due meant other status = PutsText text due meant status × (other.after ≡ other.before)

-- a refusal goes to the errors, anything else to the output
abbrev pub Tells : Answer → Printed → Type 0
Tells (Refused why) p = Says (told_text (Refused why)) (refusal_status why) p.err p.out p.status
Tells told p = Says (told_text told) DONE p.out p.err p.status
