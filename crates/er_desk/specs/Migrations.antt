-- Histories in which tables are moved to version 2 between commands. A migration isn't a command: it changes neither the
-- event nor the serial, and what is said of sessions passes over it.
use Rattle.std.specs.Prelude.{◌≡◌, ◌⊎◌, ℕ, List, [], ◌∷◌, map, Option, Some, None}
use Rattle.er_event.specs.declared.commands.Command.{Command}
use Rattle.er_event.specs.Sound.{IsSetUp}
use Rattle.er_desk.specs.Desk.{Placed}
use Rattle.er_desk.specs.Run.{Session, MayEnd}
use Rattle.er_desk.specs.History.{Ended, new_point}
use Rattle.er_desk.specs.Headline.{IsEndOf}

-- what a desk may be asked
pub data Request : Type 0 where
  Submits : Command → Request
  Migrates : Request

-- the commands among them
abbrev pub commands_in : List Request → List Command
commands_in [] = []
commands_in (Submits command ∷ more) = command ∷ commands_in more
commands_in (Migrates ∷ more) = commands_in more

abbrev pub command_in : Option Request → Option Command
command_in None = None
command_in (Some (Submits command)) = Some command
command_in (Some Migrates) = None

-- what one desk was asked: what was acknowledged, and what the store failed in, or the program was stopped in
pub record MovingSession : Type 0 where
  pub acknowledged : List Request
  pub in_doubt : Option Request

-- only its commands
abbrev pub passed_over : MovingSession → Session
passed_over s = record { acknowledged = commands_in s.acknowledged; in_doubt = command_in s.in_doubt }

-- A migration leads to version 2, and nothing leads back.
abbrev pub version_after : ℕ → List Request → ℕ
version_after version [] = version
version_after version (Submits command ∷ more) = version_after version more
version_after version (Migrates ∷ more) = version_after 2 more

-- the session ends where its commands lead; a migration in doubt may have been done
pub record MayEndIn (first : Placed) (session : MovingSession) (last : Placed) : Type 0 where
  pub point : MayEnd first.point (passed_over session) last.point
  pub version : (last.version ≡ version_after first.version session.acknowledged)
      ⊎ ((session.in_doubt ≡ Some Migrates) × (last.version ≡ 2))

-- a session, and where the next one begins
pub record MovingEnded : Type 0 where
  pub session : MovingSession
  pub last : Placed

abbrev pub IsMovingHistory : Placed → List MovingEnded → Placed → Type 0
IsMovingHistory first [] last = last ≡ first
IsMovingHistory first (ended ∷ more) last = MayEndIn first ended.session ended.last × IsMovingHistory ended.last more last

-- the same history without its migrations
abbrev pub without_migrations : List MovingEnded → List Ended
without_migrations ends = map (λ (it : MovingEnded). record { session = passed_over it.session; last = it.last.point }) ends

-- Every history of a new event, made in version 1 or 2, ends as the same one without its migrations does, and no
-- history leads back to version 1.
abbrev pub MovingHistories : Type 0
MovingHistories = (name : List ℕ) (rounds cut version : ℕ) → IsSetUp name rounds cut → (ends : List MovingEnded) (last : Placed)
    → IsMovingHistory (record { point = new_point name rounds cut; version = version }) ends last
    → IsEndOf (new_point name rounds cut) (without_migrations ends) last.point × (version ≡ 2 → last.version ≡ 2)
