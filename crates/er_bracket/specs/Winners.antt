-- The matches that somebody has won.
use Rattle.std.specs.Prelude.{◌≢◌, MatchOption}
use Rattle.er_event.specs.declared.matches.Match.{Match}
use Rattle.er_event.specs.declared.scores.Games.{Games}

-- it has a score, by which one of the two won more games
abbrev pub IsWon : Match → Type 0
IsWon m = MatchOption m.score ⊥ (λ (s : Games). s.x ≢ s.y)
