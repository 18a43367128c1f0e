-- The two versions of an event's tables, and which events tables of each can keep.
use Rattle.std.specs.Prelude.{◌≡◌, ◌≤◌, ◌⊎◌, ℕ, List, All}
use Rattle.er_event.specs.declared.changes.Change.{Change}
use Rattle.er_event.specs.declared.changes.Change.TheVariants.{AddPlayer}
use Rattle.er_event.specs.declared.events.Phase.TheVariants.{Enrolling}
use Rattle.er_event.specs.declared.players.Player.{Player}
use Rattle.er_event.specs.declared.rows.event.TheConstants.{MOST_OLD_ROUNDS}
use Rattle.er_event.specs.Change.{after}
use Rattle.er_event.specs.Event.{EventValue}
use Rattle.er_event.specs.Sound.{IsSoundButForSeeds}

abbrev pub IsVersion : ℕ → Type 0
IsVersion version = (version ≡ 1) ⊎ (version ≡ 2)

-- tables of this version can keep `rounds` rounds
abbrev pub KeepsRounds : ℕ → ℕ → Type 0
KeepsRounds version rounds = version ≡ 1 → rounds ≤ MOST_OLD_ROUNDS

-- and these players: version 1 has no column for the rounds that somebody missed
abbrev pub KeepsPlayers : ℕ → List Player → Type 0
KeepsPlayers version players = version ≡ 1 → All (λ (p : Player). p.joined ≡ 0) players

-- tables of this version can keep the event
pub record Keeps (version : ℕ) (e : EventValue) : Type 0 where
  pub rounds : KeepsRounds version e.rounds
  pub players : KeepsPlayers version e.players

-- tables of this version can take the change: a player comes into version 1 only before the start
abbrev pub CanTake : ℕ → EventValue → Change → Type 0
CanTake version e (AddPlayer name) = version ≡ 1 → e.phase ≡ Enrolling
CanTake version e _ = Unit {0}

-- if tables keep an event and can take a change, they also keep the event after it
abbrev pub ChangesAreKept : Type 0
ChangesAreKept = (version : ℕ) (event : EventValue) (change : Change) → IsSoundButForSeeds event → CanTake version event change
    → Keeps version event → Keeps version (after event change)
