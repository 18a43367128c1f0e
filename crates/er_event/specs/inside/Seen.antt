-- The games of a match as one player saw them, the player's own first.
use Rattle.std.specs.Prelude.{◌≡◌, ◌≢◌, ◌⊎◌, ℕ, ◌*◌, ◌≤◌, List, [], ◌∷◌, length, flat_map, slice_get, slice_set, slice_index_or, AllPairs}
use Rattle.std.specs.Prelude.{Option, Some, None}
use Rattle.er_event.specs.declared.matches.Match.{Match}
use Rattle.er_event.specs.declared.rounds.Round.{Round}
use Rattle.er_event.specs.declared.scores.Games.{Games}
use Rattle.er_event.specs.declared.totals.Totals.{Totals}
use Rattle.er_event.specs.Change.{scored_slot}
use Rattle.er_event.specs.inside.Played.{results_of_match}
use Rattle.er_event.specs.Round.{seats}
use Rattle.er_event.specs.Totals.{totals_of}

-- nobody sits twice
abbrev pub IsSeatedOnce : List Match → Type 0
IsSeatedOnce matches = AllPairs (λ p q. p ≢ q) (flat_map seats matches)

abbrev pub AreFew : Games → Type 0
AreFew g = (g.x ≤ 3) × (g.y ≤ 3) × (g.d ≤ 3)

-- what one match comes to for a player who saw these games, the player's own first
abbrev pub totals_of_games : Option Games → Totals
totals_of_games None = totals_of []
totals_of_games (Some g) = totals_of (record { round = 0; opponent = None; won = g.x; lost = g.y; drawn = g.d } ∷ [])

-- none if the player isn't in the match, or it has no score
abbrev pub AreSeen : Match → ℕ → Option Games → Type 0
AreSeen m player None = (round : ℕ) → results_of_match player round m ≡ []
AreSeen m player (Some g) =
    ((player ≡ m.a) ⊎ (player ≡ m.b)) × AreFew g
    × ((round : ℕ) → totals_of (results_of_match player round m) ≡ totals_of_games (Some g))

-- what `rounds` matches can come to at most
pub record AreOver (rounds : ℕ) (t : Totals) : Type 0 where
  pub points : t.points ≤ 3 * rounds
  pub rounds_are : t.rounds ≤ rounds
  pub game_points : t.game_points ≤ 12 * rounds
  pub games : t.games ≤ 9 * rounds

-- the rounds, but the match of a table of the round at this place has this score
abbrev pub rounds_with_score : List Round → ℕ → ℕ → Games → List Round
rounds_with_score rounds place table score =
    let r = slice_index_or rounds place (record { matches = [] }) in
    slice_set rounds place (record { matches = scored_slot r.matches table score })

-- the table is one of the round's
abbrev pub RoundHasTable : List Round → ℕ → ℕ → Type 0
RoundHasTable rounds place table = (r : Round) → slice_get rounds place ≡ Some r → (1 ≤ table) × (table ≤ length r.matches)
