-- Which matches may stand in a Swiss round.
use Rattle.std.specs.Prelude.{◌≡◌, ◌≢◌, IsTrue, ℕ, ◌==◌, ◌&&◌, ◌||◌, nat_le, Bool, true, false, Option, Some, None}
use Rattle.er_event.specs.declared.players.TheConstants.{MAX_PLAYERS}
use Rattle.er_event.specs.declared.matches.Match.{Match}
use Rattle.er_event.specs.declared.scores.Games.{Games}
use Rattle.er_event.specs.Score.{is_swiss_score, is_playoff_score}
use Rattle.er_event.specs.Round.{is_bye}

-- one of `count` players, who are numbered from 1
abbrev pub is_known : ℕ → ℕ → Bool
is_known count number = nat_le 1 number && nat_le number count

abbrev pub is_bye_score : Games → Bool
is_bye_score s = s.x == 2 && s.y == 0 && s.d == 0

-- a bye is won; another match may lack its score
abbrev pub is_lawful_score : Bool → Option Games → Bool
is_lawful_score true None = false
is_lawful_score true (Some s) = is_bye_score s
is_lawful_score false None = true
is_lawful_score false (Some s) = is_swiss_score s

abbrev pub is_lawful_match : ℕ → Match → Bool
is_lawful_match count m = is_known count m.a && (is_bye m || is_known count m.b) && is_lawful_score (is_bye m) m.score

-- two players, or a bye at the table 0
pub record MayStand (table : ℕ) (m : Match) : Type 0 where
  pub lawful : IsTrue (is_lawful_match MAX_PLAYERS m)
  pub apart : m.a ≢ m.b
  pub bye : is_bye m ≡ (table == 0)

-- one who sits in both
abbrev pub shares_seat : Match → Match → Bool
shares_seat m n = m.a == n.a || m.a == n.b || m.b == n.a || m.b == n.b

-- open, or with a score that is lawful in the playoff
abbrev pub is_lawful_slot_score : Option Games → Bool
is_lawful_slot_score None = true
is_lawful_slot_score (Some s) = is_playoff_score s
