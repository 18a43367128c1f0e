-- The lines of stages, one after the other.
use Rattle.std.proofs.{lemmas.Grind.common_steps, Common.{◌≡◌, ℕ, ◌+◌, ◌<◌, List, [], ◌∷◌, ◌++◌, length, take, get_or, ap, ◌∙◌, arith}}
use Rattle.std.proofs.{Common.append-nil, lemmas.List.{take_more, length-take-le}}
use Rattle.er_event.specs.{declared.matches.Match.Match, Event.EventValue}
use Rattle.er_paper.specs.Texts.{stage_lines, stages_lines}

stages-push : (e : EventValue) (n : ℕ) (stages : List (List Match)) (stage : List Match)
    → stages_lines e n (stages ++ stage ∷ []) ≡ stages_lines e n stages ++ stage_lines e (n + length stages) stage
stages-push e n [] stage = let same : n ≡ n + 0 = omega arith in append-nil (stage_lines e n stage) ∙ ap (λ k. stage_lines e k stage) same
stages-push e n (first ∷ later) stage = grind (arith, common_steps, stages-push e (n + 1) later stage)

-- one more stage
pub stages-more : (e : EventValue) (stages : List (List Match)) (i : ℕ) (stage : List Match) → i < length stages
    → stage ≡ get_or stages i stage → stages_lines e 1 (take (i + 1) stages) ≡ stages_lines e 1 (take i stages) ++ stage_lines e
    (1 + i) stage
stages-more e stages i stage below is = grind (arith, common_steps, length-take-le, stages-push, take_more)
