-- A list of commands, and the session that it makes.
use Rattle.std.specs.Prelude.{◌≡◌, ◌⊎◌, ℕ, ◌+◌, ◌<◌, Bool, if◌then◌else◌, IsTrue, List, [], ◌∷◌, length, take, slice_get, Option, Some}
use Rattle.std.specs.Prelude.{None, Ok, Err, IfSome, MatchOption}
use Rattle.sqlite.specs.Tree.{Trees}
use Rattle.er_event.specs.declared.commands.Command.{Command}
use Rattle.er_event.specs.declared.refusals.Cause.{Cause}
use Rattle.er_event.specs.declared.refusals.Refusal.{Refusal}
use Rattle.er_event.specs.declared.refusals.Refusal.TheVariants.{Store, NeedsReopen}
use Rattle.er_event.specs.Event.{EventValue}
use Rattle.er_rules.specs.Step.{Steps}
use Rattle.er_store.specs.Fault.{IsFault}
use Rattle.er_rules.specs.Fold.{Folds}
use Rattle.er_desk.specs.Reply.{Reply, IsLawfulReply}
use Rattle.er_desk.specs.Desk.{Point, Placed, DeskState, Outcome, IsStoredAt, placed_at}

-- the replies to commands one after the other
abbrev pub Runs : DeskState → List Command → List Reply → DeskState → Type 0
Runs old [] [] new = new ≡ old
Runs old (command ∷ commands) (reply ∷ replies) new = (mid : DeskState) × Outcome old command reply mid × Runs mid commands replies new
Runs old [] (reply ∷ replies) new = ⊥
Runs old (command ∷ commands) [] new = ⊥

-- the commands that got a receipt
abbrev pub acknowledged_commands : List Command → List Reply → List Command
acknowledged_commands (command ∷ commands) (Ok receipt ∷ replies) = command ∷ acknowledged_commands commands replies
acknowledged_commands (command ∷ commands) (Err why ∷ replies) = acknowledged_commands commands replies
acknowledged_commands [] replies = []
acknowledged_commands (command ∷ commands) [] = []

-- the store had a fault in the command of this place, and the later ones were answered that the file has to be opened anew
abbrev pub FailsAt : List Reply → ℕ → Type 0
FailsAt replies k =
    ((why : Refusal) × IsFault why × (slice_get replies k ≡ Some (Err why)))
    × ((later : ℕ) (reply : Reply) → k < later → slice_get replies later ≡ Some reply → reply ≡ Err NeedsReopen)

-- The run in plain words. Each reply is lawful at the fold of the commands that were acknowledged before it, or says
-- that the file has to be opened anew.
pub record IsRun (old : DeskState) (commands : List Command) (replies : List Reply) (new : DeskState) : Type 0 where
  pub all : length replies ≡ length commands
  pub each : (k : ℕ) (command : Command) (reply : Reply) → slice_get commands k ≡ Some command → slice_get replies k ≡ Some reply
      → (mid : EventValue) × Folds old.event (acknowledged_commands (take k commands) (take k replies)) mid
      × (IsLawfulReply old.version mid (old.serial + length (acknowledged_commands (take k commands) (take k replies))) command reply
      ⊎ ((reply ≡ Err NeedsReopen) × IsTrue new.needs_reopen))
  pub event_is : Folds old.event (acknowledged_commands commands replies) new.event
  pub serial_is : new.serial ≡ old.serial + length (acknowledged_commands commands replies)
  pub version_is : new.version ≡ old.version
  -- the desk is stopped if it was before, or by a fault of the store in one of the commands
  pub stopped_by : IsTrue new.needs_reopen → IsTrue old.needs_reopen ⊎ ((k : ℕ) × FailsAt replies k)
  pub needed_reopen : IsTrue old.needs_reopen
      → IsTrue new.needs_reopen × ((k : ℕ) (reply : Reply) → slice_get replies k ≡ Some reply → reply ≡ Err NeedsReopen)
  pub stops : (k : ℕ) (cause : Cause) → slice_get replies k ≡ Some (Err (Store cause)) → IsTrue new.needs_reopen

-- ---- sessions

-- what one desk was asked
pub record Session : Type 0 where
  -- the commands that were acknowledged
  pub acknowledged : List Command
  -- the one that the store failed in, or the program was stopped in
  pub in_doubt : Option Command

-- in which nothing was asked
abbrev pub no_session : Session
no_session = record { acknowledged = []; in_doubt = None }

-- the last command that was tried
abbrev pub tried_or : Option Command → Command → Reply → Option Command
tried_or (Some later) command reply = Some later
tried_or None command (Err NeedsReopen) = None
tried_or None command reply = Some command

abbrev pub last_tried : List Command → List Reply → Option Command
last_tried (command ∷ commands) (reply ∷ replies) = tried_or (last_tried commands replies) command reply
last_tried [] replies = None
last_tried (command ∷ commands) [] = None

-- the session of a run: if the store has failed, it failed in the last command that was tried
abbrev pub session_of : List Command → List Reply → Bool → Session
session_of commands replies needs_reopen = record {
  acknowledged = acknowledged_commands commands replies;
  in_doubt = if needs_reopen then last_tried commands replies else None;
}

-- the session ends after what was acknowledged
pub record EndsAfterAcknowledged (first : Point) (session : Session) (last : Point) : Type 0 where
  pub event : Folds first.event session.acknowledged last.event
  pub serial : last.serial ≡ first.serial + length session.acknowledged
  -- only a command that the step takes is in doubt, since only then is the file written
  pub taken : IfSome session.in_doubt (λ doubt. (next : EventValue) × Steps last.event doubt (Ok next))

-- or with its doubt too
pub record EndsWithDoubt (first : Point) (session : Session) (last : Point) (doubt : Command) : Type 0 where
  pub mid : Point
  pub kept : EndsAfterAcknowledged first session mid
  pub event : Steps mid.event doubt (Ok last.event)
  pub serial : last.serial ≡ mid.serial + 1

abbrev pub MayEnd : Point → Session → Point → Type 0
MayEnd first session last = EndsAfterAcknowledged first session last ⊎ MatchOption session.in_doubt ⊥ (EndsWithDoubt first session last)

-- what a crash leaves represents one of the session's ends, whole, in the same version
abbrev pub IsStoredEnd : Placed → Session → Trees → Type 0
IsStoredEnd first session trees = (last : Point) × MayEnd first.point session last × IsStoredAt (placed_at last first.version) trees
