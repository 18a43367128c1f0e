-- What the matches of rounds come to, for all players at once.
use Rattle.std.specs.{Prelude.{◌≡◌, ◌<◌, ◌==◌, if◌then◌else◌, ℕ, List, [], length, flat_map, slice_index_or}, List.enumerate_from}
use Rattle.std.specs.Prelude.{slice_set, Option, Some, None}
use Rattle.er_event.specs.declared.matches.Match.{Match}
use Rattle.er_event.specs.declared.totals.Totals.{Totals}
use Rattle.er_event.specs.{declared.rounds.Round.Round, Results.{RoundResult, results_by}, Round.is_complete, Totals.{plus, totals_of}}

-- the match of the two who sit at this place has this score
pub record Rescores (before : List Match) (m : Match) (after : List Match) : Type 0 where
  pub place : ℕ
  pub within : place < length before
  pub first : (slice_index_or before place m).a ≡ m.a
  pub second : (slice_index_or before place m).b ≡ m.b
  pub is : after ≡ slice_set before place m

-- matches, of which one may get a new score
abbrev pub IsRescored : List Match → Option Match → List Match → Type 0
IsRescored before None after = after ≡ before
IsRescored before (Some m) after = Rescores before m after

-- the match, with its new score if it is the one that has it
abbrev pub with_new : Match → Option Match → Match
with_new m None = m
with_new m (Some scored) = if scored.a == m.a then scored else m

-- a player's results of a match
abbrev pub results_of_match : ℕ → ℕ → Match → List RoundResult
results_of_match player round m = results_by player round m m.score

-- of a round, once it is complete
abbrev pub complete_results : ℕ → ℕ × Round → List RoundResult
complete_results player numbered =
    if is_complete numbered.1.matches then flat_map (results_of_match player numbered.0) numbered.1.matches else []

-- of rounds that are numbered from this one on
abbrev pub results_from : ℕ → ℕ → List Round → List RoundResult
results_from player first rounds = flat_map (complete_results player) (enumerate_from first rounds)

-- by number, what the results of these rounds come to; 0 is no player's
abbrev pub ArePlayed : List Round → List Totals → Type 0
ArePlayed rounds played =
    (player : ℕ) → 0 < player → player < length played
    → slice_index_or played player (totals_of []) ≡ totals_of (results_from player 1 rounds)

-- by number, with what these results of each come to
abbrev pub AddsResults : (ℕ → List RoundResult) → List Totals → List Totals → Type 0
AddsResults results before after =
    (player : ℕ) → 0 < player → player < length before
    → slice_index_or after player (totals_of []) ≡ plus (slice_index_or before player (totals_of [])) (totals_of (results player))
