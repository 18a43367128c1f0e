-- Tables of a version that keep an event, and can take a change of it, keep the event after it.
use Rattle.er_event.proofs.Prelude.{SetDropped, Player, dropped_at, EventValue, All-push, ap, get_or, length, refl, ◌≡◌, ℕ}
use Rattle.std.proofs.lemmas.List.Elements.{All-map}
use Rattle.er_event.specs.{Change.{after, new_player}, Version.{CanTake, ChangesAreKept, KeepsPlayers}, Sound.IsSoundButForSeeds}
use Rattle.er_event.specs.{declared.changes.Change.Change, declared.changes.Change.TheVariants.AddPlayer}
use Rattle.er_event.proofs.Absent.{joined-dropped}

abbrev Early : Player → Type 0
Early p = p.joined ≡ 0

players_kept : (version : ℕ) (e : EventValue) (c : Change) → IsSoundButForSeeds e → CanTake version e c
    → KeepsPlayers version e.players → KeepsPlayers version (after e c).players
players_kept version e (AddPlayer name) sound takes kept one =
    All-push Early e.players (new_player e name) (kept one) (ap length (sound.rounds.enrolling (takes one)))
players_kept version e (SetDropped player) sound takes kept one =
    All-map Early (dropped_at player) e.players
    (λ k d below. rw (joined-dropped player (get_or e.players k d)) (kept one k d below))
players_kept version e _ sound takes kept one = kept one

rounds_stay : (e : EventValue) (c : Change) → (after e c).rounds ≡ e.rounds
rounds_stay e (AddPlayer name) = refl
rounds_stay e (SetDropped player) = refl
rounds_stay e _ = refl

pub changes_are_kept : ChangesAreKept
changes_are_kept version e c sound takes kept = record {
  rounds = rw (rounds_stay e c) kept.rounds;
  players = players_kept version e c sound takes kept.players;
}
