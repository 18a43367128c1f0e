use Rattle.er_event.proofs.Prelude.{slot_in, EventValue, IsSoundButForSeeds, Match, List, ap, subst, ◌∙◌}
use Rattle.er_event.proofs.SlotScoreLemmas.{open-fits}
use Rattle.er_event.proofs.events.Event.slot_at.Goals as goal

pub returns-clause-fits : goal.returns-clause-fits
returns-clause-fits c =
    let sound = subst IsSoundButForSeeds c.self.view_is c.self.invariant in
    let list = c.as_slice.ensures ∙ ap (λ (v : EventValue). v.bracket.stages) c.self.view_is in
    open-fits c.args.self.now c.args.stage c.args.slot c.slot_in.result sound
    (c.slot_in.ensures ∙ ap (λ (ss : List (List Match)). slot_in ss c.args.stage c.args.slot) list)
