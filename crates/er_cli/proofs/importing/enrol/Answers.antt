use Rattle.std.proofs.Common.{inl, inr, Bool, List, ℕ, [], ◌∷◌, Err, refl, sym, subst, ◌∙◌}
use Rattle.er_event.specs.{declared.commands.Command.TheVariants.Enrol, declared.refusals.Refusal.TheVariants.Memory}
use Rattle.er_desk.specs.{Asking.Asks, Desk.{Outcome, desk_state}, Run.session_of}
use Rattle.er_cli.proofs.importing.enrol.Goals as goal

pub returns-clause-turn : goal.returns-clause-turn
returns-clause-turn g c =
    subst (λ (name : List ℕ). Outcome (desk_state c.args.desk.now) (Enrol name) c.submit.result (desk_state c.submit.new.self))
    (c.from-name.ensures ∙ (c.in-Ok.ensures.items ∙ c.as_bytes.ensures.value)) c.submit.ensures.submits.turn

pub returns-clause-asked : goal.returns-clause-asked
returns-clause-asked g c =
    let new = c.submit.new.self in
    subst (λ (name : List ℕ).
    Asks g.S.Store c.args.desk.now (session_of (Enrol name ∷ []) (c.submit.result ∷ []) (desk_state new).needs_reopen) new)
    (c.from-name.ensures ∙ (c.in-Ok.ensures.items ∙ c.as_bytes.ensures.value)) (c.submits_ask.ensures _ _ _ _ c.submit.ensures.submits)

pub returns-in_default-clause-turn : goal.returns-in_default-clause-turn
returns-in_default-clause-turn g c =
    inr (inl (record { was_running = c.requires; same = refl; why = Memory; answered = refl; cause = inl refl; own = inl refl }))

pub returns-in_default-clause-asked : goal.returns-in_default-clause-asked
returns-in_default-clause-asked g c =
    let desk = c.args.desk.now in
    subst (λ (b : Bool). Asks g.S.Store desk (session_of (Enrol c.args.name.now ∷ []) (Err Memory ∷ []) b) desk) (sym c.requires)
    c.asks_nothing.ensures
