use Rattle.er_event.proofs.Prelude.{EventValue, is_complete, Round, ap, length, sym, ◌∙◌, ◌≡◌, list_all}
use Rattle.er_event.proofs.RoundLemmas.{All-of, of-All}
use Rattle.er_event.proofs.events.Event.has_all_rounds.Goals as goal

pub returns : goal.returns
returns c =
    let e = c.args.self.now in
    let test = c.are_counted.ensures ∙ ap (list_all (λ (r : Round). is_complete r.matches)) c.stored-2.ensures.value in
    let count = ap length c.stored.ensures.value in
    let view = ap (λ (v : EventValue). v.rounds) c.self.view_is in
    let limit : length e.stored ≡ e.rounds = sym count ∙ (c.if-stored-from.false ∙ (c.from.ensures ∙ view)) in (
      λ yes. (limit, All-of (λ (r : Round). is_complete r.matches) e.stored (sym test ∙ yes)),
      λ done. test ∙ of-All (λ (r : Round). is_complete r.matches) e.stored done.1,
    )
