-- Players by number, and the percentages that totals give.
use Rattle.std.specs.Prelude.{ℕ, ◌*◌, ◌≤◌}
use Rattle.er_share.specs.Fraction.{Fraction, percentage}
use Rattle.er_event.specs.declared.totals.Totals.{Totals}

abbrev pub no_totals : Totals
no_totals = record { points = 0; rounds = 0; game_points = 0; games = 0 }

-- the number of one of `players` players
abbrev pub IsKnown : ℕ → ℕ → Type 0
IsKnown players player = (1 ≤ player) × (player ≤ players)

abbrev pub match_win_of : Totals → Fraction
match_win_of t = percentage t.points (3 * t.rounds)

abbrev pub game_win_of : Totals → Fraction
game_win_of t = percentage t.game_points (3 * t.games)
