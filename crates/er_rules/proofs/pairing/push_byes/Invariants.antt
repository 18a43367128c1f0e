use Rattle.std.proofs.Common.{◌≡◌, ◌++◌, map, filter, take}
use Rattle.er_event.specs.Round.{is_bye}
use Rattle.er_event.specs.Round.{match_of}
use Rattle.er_rules.proofs.pairing.push_byes.Given as goal

-- the matches of the pairs that were looked at
abbrev pub invariant-loop-player : goal.invariant-loop-player
invariant-loop-player l = l.matches ≡ l.initial.matches ++ filter is_bye (map match_of (take l.player-index l.pairs))
