use Rattle.er_event.proofs.Prelude.{EventValue, IsSoundButForSeeds, subst, sym, with_round}
use Rattle.er_event.proofs.events.Event.add_round.Goals as goal

pub invariant_of-self : goal.invariant_of-self
invariant_of-self c =
    rw c.in-Ok.ensures.items
    (subst (λ (v : EventValue). IsSoundButForSeeds (with_round v c.args.round.matches)) (sym c.self.view_is) c.requires)
