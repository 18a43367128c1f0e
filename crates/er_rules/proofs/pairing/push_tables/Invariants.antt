use Rattle.std.proofs.Common.{◌≡◌, ◌++◌, not, map, filter, take}
use Rattle.er_event.specs.Round.{is_bye}
use Rattle.er_event.specs.Round.{match_of}
use Rattle.er_rules.proofs.pairing.push_tables.Given as goal

-- the matches of the pairs that were looked at
abbrev pub invariant-loop-a : goal.invariant-loop-a
invariant-loop-a l = l.matches ≡ l.initial.matches ++ filter (λ m. not (is_bye m)) (map match_of (take l.a-index l.pairs))
