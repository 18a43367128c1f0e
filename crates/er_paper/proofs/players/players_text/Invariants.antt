use Rattle.std.proofs.Common.{◌≡◌, ◌∷◌, ◌++◌, codes, flat_map, take}
use Rattle.std.specs.String.{string_bytes}
use Rattle.er_paper.specs.Texts.{player_line}
use Rattle.er_paper.proofs.players.players_text.Given as goal

abbrev pub invariant-loop-player : goal.invariant-loop-player
invariant-loop-player l = string_bytes l.text ≡ codes "  No D Name" ++ (10 ∷ flat_map player_line (take l.player-index l.player-items))
