-- One line more of a script.
use Rattle.std.proofs.Common.{◌≡◌, ℕ, ◌+◌, ◌<◌, List, [], ◌∷◌, ◌++◌, length, map, take, get_or, Option, Bor, refl, subst, ap, ◌∙◌}
use Rattle.std.proofs.{Common.append-nil, lemmas.List.{map-append, take_more}, lemmas.List.Concat.flat_map-append}
use Rattle.std.specs.List.{flat_map}
use Rattle.er_cli.specs.Action.{script_action}
use Rattle.er_desk.specs.Desk.{DeskState}
use Rattle.er_cli.specs.{declared.texts.LineAnswer.LineAnswer, Texts.answer_text, Script.{LineAnswers, RunsLines}}

pub Runs-push : (lines : List (List ℕ)) (answers : List LineAnswer) (old mid new : Option DeskState) (line : List ℕ) (answer : LineAnswer)
    → RunsLines old lines answers mid → LineAnswers mid (script_action line) answer new
    → RunsLines old (lines ++ line ∷ []) (answers ++ answer ∷ []) new
Runs-push [] [] old mid new line answer runs last = (new, subst (λ k. LineAnswers k (script_action line) answer new) runs last, refl)
Runs-push (l ∷ lines) (a ∷ answers) old mid new line answer runs last =
    (runs.0, runs.1, Runs-push lines answers runs.0 mid new line answer runs.2 last)
Runs-push [] (a ∷ answers) old mid new line answer runs last = absurd runs
Runs-push (l ∷ lines) [] old mid new line answer runs last = absurd runs

pub printed-push : (answers : List LineAnswer) (answer : LineAnswer)
    → flat_map answer_text (answers ++ answer ∷ []) ≡ flat_map answer_text answers ++ answer_text answer
printed-push answers answer = flat_map-append answer_text answers (answer ∷ []) ∙ ap
    (λ text. flat_map answer_text answers ++ text) (append-nil (answer_text answer))

-- the first lines and the next one
pub lines-push : (lines : List (Bor (List ℕ))) (i : ℕ) (d : Bor (List ℕ)) → i < length lines
    → map (λ (line : Bor (List ℕ)). line.now) (take (i + 1) lines) ≡ map
    (λ (line : Bor (List ℕ)). line.now) (take i lines) ++ (get_or lines i d).now ∷ []
lines-push lines i d within =
    let now = λ (line : Bor (List ℕ)). line.now in
    ap (map now) (take_more lines i d within) ∙ map-append now (take i lines) (get_or lines i d ∷ [])
