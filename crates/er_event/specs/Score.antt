-- Which games make a lawful score, and how games are shown.
use Rattle.std.specs.Prelude.{ℕ, ◌==◌, nat_le, Bool, ◌&&◌, not, List, ◌++◌, codes}
use Rattle.std.specs.Fmt.{decimal}
use Rattle.er_event.specs.declared.scores.Games.{Games}

-- in a Swiss round: at most two games won by each, and not two by both
abbrev pub is_swiss_score : Games → Bool
is_swiss_score s = nat_le s.x 2 && nat_le s.y 2 && not (s.x == 2 && s.y == 2) && nat_le s.d 3

-- in the playoff: at most three games won by each, and one of the two won more
abbrev pub is_playoff_score : Games → Bool
is_playoff_score s = nat_le s.x 3 && nat_le s.y 3 && not (s.x == s.y) && nat_le s.d 3

-- a bye is a match won 2-0
abbrev pub bye_score : Games
bye_score = record { x = 2; y = 0; d = 0 }

-- `X-Y-D`
abbrev pub games_text : Games → List ℕ
games_text games = decimal games.x ++ codes "-" ++ decimal games.y ++ codes "-" ++ decimal games.d
