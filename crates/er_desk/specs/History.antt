-- Many openings of one file, one after the other.
use Rattle.std.specs.Prelude.{◌≡◌, ℕ, ◌+◌, ◌==◌, if◌then◌else◌, List, [], ◌∷◌, ◌++◌, length, Option, Some, None}
use Rattle.er_event.specs.declared.commands.Command.{Command}
use Rattle.er_event.specs.Change.{initial_event}
use Rattle.er_rules.specs.Fold.{Folds}
use Rattle.er_desk.specs.Desk.{Point}
use Rattle.er_desk.specs.Run.{Session, MayEnd}

-- a session, and where the next one begins
pub record Ended : Type 0 where
  pub session : Session
  pub last : Point

-- the sessions, each begun where the one before may end
abbrev pub IsHistory : Point → List Ended → Point → Type 0
IsHistory first [] last = last ≡ first
IsHistory first (ended ∷ more) last = MayEnd first ended.session ended.last × IsHistory ended.last more last

abbrev pub list_of_option : Option Command → List Command
list_of_option None = []
list_of_option (Some command) = command ∷ []

-- The commands of a session that the next one found. The serial tells whether the doubt is among them.
abbrev pub found_of : ℕ → Ended → List Command
found_of serial ended =
    ended.session.acknowledged
    ++ (if ended.last.serial == serial + length ended.session.acknowledged then [] else list_of_option ended.session.in_doubt)

-- all accepted commands
abbrev pub accepted_commands : ℕ → List Ended → List Command
accepted_commands serial [] = []
accepted_commands serial (ended ∷ []) = ended.session.acknowledged ++ list_of_option ended.session.in_doubt
accepted_commands serial (ended ∷ next ∷ more) = found_of serial ended ++ accepted_commands ended.last.serial (next ∷ more)

-- all but the last session's doubt
abbrev pub surely_accepted_commands : ℕ → List Ended → List Command
surely_accepted_commands serial [] = []
surely_accepted_commands serial (ended ∷ []) = ended.session.acknowledged
surely_accepted_commands serial (ended ∷ next ∷ more) = found_of serial ended ++ surely_accepted_commands ended.last.serial (next ∷ more)

-- the point is the fold of the commands, and its serial their number
pub record LeadsTo (first : Point) (commands : List Command) (last : Point) : Type 0 where
  pub event : Folds first.event commands last.event
  pub serial : last.serial ≡ first.serial + length commands

abbrev pub new_point : List ℕ → ℕ → ℕ → Point
new_point name rounds cut = record { event = initial_event name rounds cut; serial = 0 }
