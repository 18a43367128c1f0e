-- A line of each subcommand, and what is wrong with others, as literals.
use Rattle.std.proofs.Common.{◌≡◌, List, ℕ, [], ◌∷◌, codes, Some, refl}
use Rattle.std.specs.Prelude.{replicate}
use Rattle.er_words.specs.{Values.seed_of, declared.values.ExportKind.TheVariants.Results}
use Rattle.er_words.specs.declared.usage.UsageFault.TheVariants.{UnknownSubcommand, LeadingDash, TooFew, TooMany, BadNumber, BadSeed}
use Rattle.er_words.specs.declared.usage.UsageFault.TheVariants.{BadCount, BadKind}
use Rattle.er_words.specs.{Line.line_of, Usage.fault_of}
use Rattle.er_words.specs.declared.line.Line.TheVariants as line

-- a file, a list, a name and 64 digits
abbrev f : List ℕ
f = codes "f.event"

abbrev c : List ℕ
c = codes "c.csv"

abbrev ana : List ℕ
ana = codes "Ana"

abbrev zeros : List ℕ
zeros = replicate 64 48

init : line_of (codes "init" ∷ f ∷ ana ∷ codes "3" ∷ codes "8" ∷ []) ≡ Some (line.Init f ana 3 8)
init = refl

enrol : line_of (codes "enrol" ∷ f ∷ ana ∷ []) ≡ Some (line.Enrol f ana)
enrol = refl

import_list : line_of (codes "import" ∷ f ∷ c ∷ []) ≡ Some (line.Import f c)
import_list = refl

start : line_of (codes "start" ∷ f ∷ []) ≡ Some (line.Start f)
start = refl

pair : line_of (codes "pair" ∷ f ∷ codes "2" ∷ zeros ∷ []) ≡ Some (line.Pair f 2 (replicate 32 0))
unfolding seed_of
pair = refl

report : line_of (codes "result" ∷ f ∷ codes "1" ∷ codes "300" ∷ codes "2" ∷ codes "1" ∷ codes "0" ∷ [])
    ≡ Some (line.Result f 1 300 (record { x = 2; y = 1; d = 0 }))
report = refl

correct : line_of (codes "correct" ∷ f ∷ codes "1" ∷ codes "300" ∷ codes "2" ∷ codes "1" ∷ codes "0" ∷ [])
    ≡ Some (line.Correct f 1 300 (record { x = 2; y = 1; d = 0 }))
correct = refl

drop : line_of (codes "drop" ∷ f ∷ codes "512" ∷ []) ≡ Some (line.Drop f 512)
drop = refl

cut : line_of (codes "cut" ∷ f ∷ []) ≡ Some (line.Cut f)
cut = refl

playoff : line_of (codes "playoff" ∷ f ∷ codes "1" ∷ codes "2" ∷ codes "0" ∷ codes "2" ∷ codes "3" ∷ [])
    ≡ Some (line.Playoff f 1 2 (record { x = 0; y = 2; d = 3 }))
playoff = refl

standings : line_of (codes "standings" ∷ f ∷ []) ≡ Some (line.Standings f)
standings = refl

players : line_of (codes "players" ∷ f ∷ []) ≡ Some (line.Players f)
players = refl

slips : line_of (codes "slips" ∷ f ∷ codes "2" ∷ []) ≡ Some (line.Slips f 2)
slips = refl

bracket : line_of (codes "bracket" ∷ f ∷ []) ≡ Some (line.Bracket f)
bracket = refl

export : line_of (codes "export" ∷ f ∷ codes "results" ∷ []) ≡ Some (line.Export f Results)
export = refl

serve : line_of (codes "serve" ∷ f ∷ codes "8080" ∷ codes "300" ∷ []) ≡ Some (line.Serve f 8080 300)
serve = refl

migrate : line_of (codes "migrate" ∷ f ∷ []) ≡ Some (line.Migrate f)
migrate = refl

-- ---- what isn't a line

no_word : fault_of [] ≡ Some UnknownSubcommand
no_word = refl

other_name : fault_of (codes "help" ∷ f ∷ []) ≡ Some UnknownSubcommand
other_name = refl

option : fault_of (codes "start" ∷ codes "-f" ∷ f ∷ []) ≡ Some (LeadingDash 1)
option = refl

no_file : fault_of (codes "start" ∷ []) ≡ Some (TooFew 1)
no_file = refl

two_files : fault_of (codes "start" ∷ f ∷ f ∷ []) ≡ Some (TooMany 2)
two_files = refl

large_round : fault_of (codes "slips" ∷ f ∷ codes "256" ∷ []) ≡ Some (BadNumber 2 255)
large_round = refl

large_player : fault_of (codes "drop" ∷ f ∷ codes "65536" ∷ []) ≡ Some (BadNumber 2 65535)
large_player = refl

large_slot : fault_of (codes "playoff" ∷ f ∷ codes "1" ∷ codes "300" ∷ []) ≡ Some (BadNumber 3 255)
large_slot = refl

short_seed : fault_of (codes "pair" ∷ f ∷ codes "1" ∷ codes "0" ∷ []) ≡ Some (BadSeed 3)
unfolding seed_of
short_seed = refl

no_connection : fault_of (codes "serve" ∷ f ∷ codes "8080" ∷ codes "0" ∷ []) ≡ Some (BadCount 3)
no_connection = refl

no_list : fault_of (codes "export" ∷ f ∷ codes "standings" ∷ []) ≡ Some (BadKind 2)
no_list = refl
