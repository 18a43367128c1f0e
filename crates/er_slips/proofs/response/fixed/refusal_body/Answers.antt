use Rattle.std.proofs.Common.{◌≡◌, ℕ, List, [], ◌∷◌, ◌++◌, ap, ap₂, ◌∙◌, append_assoc, codes}
use Rattle.std.specs.Fmt.{decimal}
use Rattle.er_slips.specs.Response.{detail}
use Rattle.er_slips.proofs.response.fixed.refusal_body.Goals as goal

regroup : (head name key number more last : List ℕ)
    → (((((([] ++ head) ++ name) ++ key) ++ number) ++ more) ++ last) ≡ head ++ (name ++ (key ++ (number ++ (more ++ last))))
regroup head name key number more last = simp append_assoc

pub returns-clause-value : goal.returns-clause-value
returns-clause-value c =
    let join = λ (text more : List ℕ). text ++ more in
    let begun = c.push.ensures.value ∙ ap (λ text. text ++ codes "{\"name\":\"") c.new-body.ensures.value in
    let named = c.push-2.ensures.value ∙ ap₂ join begun (c.as_bytes.ensures.value ∙ c.name_of.ensures.value) in
    let numbered = c.push_number.ensures.value ∙ ap₂ join (c.push-3.ensures.value ∙ ap (λ text. text ++ codes "\",\"refused\":") named)
    (ap decimal (c.from.ensures ∙ c.number.ensures)) in
    c.push-4.ensures.value ∙ ap (λ text. text ++ 125 ∷ [])
    (c.push_detail.ensures.value ∙ ap (λ text. text ++ detail c.args.refusal.now) numbered)
    ∙ regroup (codes "{\"name\":\"") _ (codes "\",\"refused\":") _ _ (125 ∷ [])
