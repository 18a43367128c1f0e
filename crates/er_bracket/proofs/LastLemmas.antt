-- The last match of a bracket is the only match of its last stage.
use Rattle.std.proofs.{lemmas.Grind.common_steps, Common.{◌≡◌, ◌≢◌, ℕ, zero, suc, ◌+◌, ◌-◌, ◌<◌, ◌≤◌, List, [], ◌∷◌, length, get_or}}
use Rattle.std.proofs.Common.{Option, Some, None, sym, ap, ◌∙◌, arith}
use Rattle.er_event.specs.{declared.matches.Match.Match, Bracket.last_match}

-- the match of a stage that has just one
abbrev pub only_match : List Match → Option Match
only_match [] = None
only_match (m ∷ []) = Some m
only_match (m ∷ n ∷ more) = None

pub last-after : (stage next : List Match) (more : List (List Match)) → last_match (stage ∷ next ∷ more) ≡ last_match (next ∷ more)
last-after h1 next more = grind (arith, common_steps)

last-at : (stages : List (List Match)) (i : ℕ) (d : List Match) → i + 1 ≡ length stages → last_match stages ≡ only_match (get_or stages i d)
last-at [] i d end = absurd (omega arith)
last-at (s ∷ []) zero d end = grind (arith, common_steps)
last-at (s ∷ []) (suc i) d end = absurd (omega arith)
last-at (s ∷ t ∷ more) zero d end = absurd (omega arith)
last-at (s ∷ t ∷ more) (suc i) d end = last-after s t more ∙ last-at (t ∷ more) i d (omega arith)

-- the last stage as it is read
pub last-read : (stages : List (List Match)) (last : List Match) → 1 ≤ length stages → last ≡ get_or stages (length stages - 1) last
    → last_match stages ≡ only_match last
last-read stages last some is = last-at stages (length stages - 1) last (omega arith) ∙ ap only_match (sym is)

pub only-one : (stage : List Match) (m : Match) → 1 ≤ length stage → length stage < 2 → m ≡ get_or stage 0 m → only_match stage ≡ Some m
only-one h1 m some few is = grind (arith, common_steps)

pub only-else : (stage : List Match) → length stage ≢ 1 → only_match stage ≡ None
only-else h1 other = grind (arith, common_steps)
