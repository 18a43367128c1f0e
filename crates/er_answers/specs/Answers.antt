-- What one question to a desk does: what it answers, its state then, and what its file takes.
use Rattle.std.specs.Global.{Global}
use Rattle.std.specs.Prelude.{◌≡◌, ℕ, Bool, IsFalse, List, [], ◌∷◌, Result, Ok, Err, Vec}
use Rattle.sqlite_trees.specs.declared.store.Store.{Ghosts}
use Rattle.er_event.specs.declared.refusals.Refusal.{Refusal}
use Rattle.er_event.specs.declared.slips.SlipRow.{SlipRow}
use Rattle.er_rank.specs.declared.rows.Row.{Row}
use Rattle.er_desk.specs.declared.desk.Desk.{Desk}
use Rattle.er_desk.specs.Asking.{Asks}
use Rattle.er_desk.specs.Desk.{DeskState, Outcome, ReadsRows, ReadsSlip, ShowsEvent, desk_state, point_of}
use Rattle.er_desk.specs.Migrating.{Migrates, MovesDesk}
use Rattle.er_desk.specs.Reply.{Reply}
use Rattle.er_desk.specs.Run.{Session, session_of, no_session}
use Rattle.er_answers.specs.Question.{IsRowsTold, IsSlipTold, ShowsView, moved_told, reply_told}
use Rattle.er_answers.specs.Due.{IsAnswerAt}
use Rattle.er_answers.specs.declared.question.Question.{Question}
use Rattle.er_answers.specs.declared.question.Question.TheVariants.{Submit, Standings, Show, Slip, Migrate}
use Rattle.er_answers.specs.declared.question.Answer.{Answer}
use Rattle.er_answers.specs.declared.question.Answer.TheVariants.{Accepted, Text, Refused}

-- What the desk does, whatever its tables hold. What shows its event leaves it as it is.
abbrev pub DoesAsked : DeskState → Question → Answer → DeskState → Type 0
DoesAsked old (Submit command) told new = (reply : Reply) × Outcome old command reply new × (told ≡ reply_told reply)
DoesAsked old Standings told new =
    (read : Result (Vec Row Global) Refusal) × ReadsRows old read new × IsRowsTold old.event read told
DoesAsked old (Show view) told new = ShowsEvent Refused old (ShowsView view) told × (new ≡ old)
DoesAsked old (Slip round table) told new = (read : Result SlipRow Refusal) × ReadsSlip old read new × IsSlipTold read told
DoesAsked old Migrate told new = (moved : Result ℕ Refusal) × Migrates old moved new × (told ≡ moved_told moved)

-- What a desk answers. `Represented` is that its tables represented its event, on a clean disk: on this rests that the answer is the one of
-- its event.
pub record AnswersDesk (Represented : Type 0) (old : DeskState) (question : Question) (told : Answer) (new : DeskState) : Type 0 where
  pub does : DoesAsked old question told new
  pub due : Represented → IsFalse old.needs_reopen → IsAnswerAt old.version (point_of old) question told

-- the reply that is told, if one is
abbrev pub replies_of : Answer → List Reply
replies_of (Accepted receipt) = Ok receipt ∷ []
replies_of (Refused why) = Err why ∷ []
replies_of (Text text) = []
replies_of told = []

-- what was asked of the file: one command with its reply, or nothing
abbrev pub session_at : Question → Answer → Bool → Session
session_at (Submit command) told needs_reopen = session_of (command ∷ []) (replies_of told) needs_reopen
session_at question told needs_reopen = no_session

-- What a migration does to the file, and answers. It asks no command.
pub record MovesFile {S : Type 0} (g : Ghosts S) (old : Desk S g) (told : Answer) (new : Desk S g) : Type 0 where
  pub moved : Result ℕ Refusal
  pub does : MovesDesk g old moved new
  pub tells : told ≡ moved_told moved

-- what a question does to the file: a session of its desk is asked, or its tables are moved
abbrev pub AsksFor : {S : Type 0} (g : Ghosts S) → Desk S g → Question → Answer → Desk S g → Type 0
AsksFor g old Migrate told new = MovesFile g old told new
AsksFor g old question told new = Asks g old (session_at question told (desk_state new).needs_reopen) new
