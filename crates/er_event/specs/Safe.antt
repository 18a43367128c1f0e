-- What is enough for a change to keep an event sound, but for its seeds.
use Rattle.std.specs.Prelude.{◌≡◌, ◌≢◌, ◌<◌, ◌≤◌, IsTrue, IsFalse, length, None, Some}
use Rattle.er_event.specs.declared.players.TheConstants.{MAX_PLAYERS}
use Rattle.er_event.specs.declared.changes.Change.{Change}
use Rattle.er_event.specs.declared.changes.Change.TheVariants.{AddPlayer, SetDropped, SetPhase, AddRound, SetScore, AddBracket}
use Rattle.er_event.specs.declared.changes.Change.TheVariants.{SetBracketScore}
use Rattle.er_event.specs.declared.events.Phase.TheVariants.{Enrolling, Swiss}
use Rattle.er_event.specs.declared.matches.Match.{Match}
use Rattle.er_event.specs.Event.{EventValue}
use Rattle.er_event.specs.Name.{is_lawful_name}
use Rattle.er_event.specs.Score.{is_swiss_score, is_playoff_score}
use Rattle.er_event.specs.Bracket.{slot_at, stage_after, is_over}
use Rattle.er_event.specs.Sound.{IsSoundButForSeeds}
use Rattle.er_event.specs.Change.{has_name, stage_of, scored_slot, NamesStored, IsNextRound, IsOpening, after}

abbrev pub IsSafe : EventValue → Change → Type 0
-- a lawful name that nobody has, and room for one more
IsSafe event (AddPlayer name) =
    IsTrue (is_lawful_name name) × (length event.players < MAX_PLAYERS) × IsFalse (has_name event.players name)
-- an event that has started
IsSafe event (SetDropped player) = event.phase ≢ Enrolling
-- from Enrolling to Swiss, with at least two players
IsSafe event (SetPhase phase) = (event.phase ≡ Enrolling) × (phase ≡ Swiss) × (2 ≤ length event.players)
IsSafe event (AddRound matches) = IsNextRound event matches
-- a stored match of two players, and a score that a Swiss match may end with
IsSafe event (SetScore round table score) = NamesStored event (SetScore round table score) × IsTrue (is_swiss_score score)
IsSafe event (AddBracket matches) = IsOpening event matches
-- an open slot, a score that a match of the playoff may end with, and the next stage, or the end, if the score
-- completes the stage
IsSafe event (SetBracketScore stage slot score next finished) =
    let played = scored_slot (stage_of event.bracket.stages stage) slot score in
    (m : Match) × (slot_at event stage slot ≡ Some m) × (m.score ≡ None) × IsTrue (is_playoff_score score)
    × (next ≡ stage_after played) × (finished ≡ is_over played)

-- a safe change keeps an event sound, but for its seeds
abbrev pub ChangesKeepSound : Type 0
ChangesKeepSound = (event : EventValue) (change : Change) → IsSoundButForSeeds event → IsSafe event change
    → IsSoundButForSeeds (after event change)
