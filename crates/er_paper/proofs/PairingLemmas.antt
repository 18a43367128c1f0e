-- The lines of matches, one after the other.
use Rattle.std.specs.List.{enumerate_from}
use Rattle.std.proofs.{lemmas.Grind.common_steps, Common.{◌≡◌, ℕ, ◌+◌, ◌<◌, List, [], ◌∷◌, ◌++◌, flat_map, length, take, get_or, ap, arith}}
use Rattle.std.proofs.{Common.append-nil, lemmas.List.{take_more, length-take-le}, lemmas.List.Concat.flat_map-append}
use Rattle.er_event.specs.{declared.matches.Match.Match}

enumerate_from-push : (n : ℕ) (ms : List Match) (m : Match)
    → enumerate_from n (ms ++ m ∷ []) ≡ enumerate_from n ms ++ (n + length ms, m) ∷ []
enumerate_from-push n [] m = let same : n ≡ n + 0 = omega arith in ap (λ k. (k, m) ∷ []) same
enumerate_from-push n (first ∷ ms) m = grind (arith, common_steps, enumerate_from-push (n + 1) ms m)

-- one more match
pub lines-more : (line : ℕ × Match → List ℕ) (ms : List Match) (i : ℕ) (m : Match) → i < length ms → m ≡ get_or ms i m
    → flat_map line (enumerate_from 1 (take (i + 1) ms)) ≡ flat_map line (enumerate_from 1 (take i ms)) ++ line (1 + i, m)
lines-more line ms i m below is = grind (arith, common_steps, append-nil, flat_map-append, length-take-le, enumerate_from-push, take_more)
