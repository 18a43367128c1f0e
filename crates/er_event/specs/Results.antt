-- What each player has played, round by round, and how many rounds each has missed.
use Rattle.std.specs.Prelude.{ℕ, ◌==◌, ◌&&◌, not, nat_le, if◌then◌else◌, List, [], ◌∷◌, ◌++◌, flat_map, filter, count_by, find}
use Rattle.std.specs.{Prelude.{Option, Some, None}, List.enumerate_from, Option.option_map_or}
use Rattle.er_event.specs.declared.matches.Match.{Match}
use Rattle.er_event.specs.declared.players.Player.{Player}
use Rattle.er_event.specs.declared.rounds.Round.{Round}
use Rattle.er_event.specs.declared.scores.Games.{Games}
use Rattle.er_event.specs.{Event.EventValue, Round.{is_bye, is_complete}}

-- one complete round, as a player played it
pub record RoundResult : Type 0 where
  pub round : ℕ
  -- none in a bye
  pub opponent : Option ℕ
  -- how many games the player won and lost, and how many were drawn
  pub won : ℕ
  pub lost : ℕ
  pub drawn : ℕ

-- the player who sits in this seat; 0 is the empty seat of a bye, and nobody
abbrev pub opponent_at : ℕ → Option ℕ
opponent_at seat = if seat == 0 then None else Some seat

-- of one match, by its score: for a player who sits first, and for one who sits second; nobody sits second in a bye
abbrev pub results_by : ℕ → ℕ → Match → Option Games → List RoundResult
results_by player round m None = []
results_by player round m (Some s) =
    let first : RoundResult = record { round = round; opponent = opponent_at m.b; won = s.x; lost = s.y; drawn = s.d } in
    let second : RoundResult = record { round = round; opponent = opponent_at m.a; won = s.y; lost = s.x; drawn = s.d } in
    (if m.a == player then first ∷ [] else []) ++ (if m.b == player && not (is_bye m) then second ∷ [] else [])

-- of one round, by its number
abbrev pub results_in : ℕ → ℕ × Round → List RoundResult
results_in player numbered = flat_map (λ m. results_by player numbered.0 m m.score) numbered.1.matches

-- the rounds in which each match has a score, by number
abbrev pub complete_rounds : EventValue → List (ℕ × Round)
complete_rounds event = filter (λ numbered. is_complete numbered.1.matches) (enumerate_from 1 event.stored)

-- the complete rounds that the player has played, in their order
abbrev pub results_of : EventValue → ℕ → List RoundResult
results_of event player = flat_map (results_in player) (complete_rounds event)

-- ---- the rounds that were missed

-- how many rounds were paired before the player of this number came, or 0 if there is no such player
abbrev pub rounds_missed_of : List Player → ℕ → ℕ
rounds_missed_of players number = option_map_or (λ (p : Player). p.joined) (find (λ (p : Player). p.no == number) players) 0

-- how many complete rounds were paired before the player came: each is lost, with no opponent and no games
abbrev pub missed_rounds : EventValue → ℕ → ℕ
missed_rounds event player = count_by (λ numbered. nat_le numbered.0 (rounds_missed_of event.players player)) (complete_rounds event)
