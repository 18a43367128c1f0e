use Rattle.er_event.proofs.Prelude.{Fits, one_more, with_bracket_score, EventValue, IsSoundButForSeeds, SetBracketScore, Match, event_value}
use Rattle.er_event.proofs.Prelude.{List, ap, subst, sym, ◌∙◌, ◌≡◌}
use Rattle.er_event.proofs.{EndLemmas.{slot-more, written-slot}, PlayoffLemmas.in_playoff}
use Rattle.er_event.proofs.events.Event.set_bracket_score.Goals as goal

pub invariant_of-self : goal.invariant_of-self
invariant_of-self c =
    let e = event_value c.self.inside in
    subst (λ (ss : List (List Match)). IsSoundButForSeeds (in_playoff e e.phase ss)) (sym c.in-Err.ensures.err) c.self.invariant

pub score_slot-requires : goal.score_slot-requires
score_slot-requires c =
    let e = event_value c.self.inside in
    let fits = subst (λ (v : EventValue). Fits v (SetBracketScore c.args.stage c.args.slot c.args.score c.args.next c.args.finished))
    (sym c.self.view_is) c.requires in (
      fits.named.0,
      slot-more e c.args.stage c.args.slot fits.named.0 fits.named.1 (one_more c.args.next) c.add_next.new.stages
          c.in_default.ensures.ok,
    )

made : (c : goal.After-phase_after-self-inside) → in_playoff (event_value c.self.inside) c.phase_after-self-inside.result
    c.score_slot.new.stages ≡ with_bracket_score
    (event_value c.self.inside) c.args.stage c.args.slot c.args.score c.args.next c.args.finished
made c =
    let e = event_value c.self.inside in
    let fits = subst (λ (v : EventValue). Fits v (SetBracketScore c.args.stage c.args.slot c.args.score c.args.next c.args.finished))
    (sym c.self.view_is) c.requires in
    written-slot e c.args.stage c.args.slot c.args.score c.args.next c.args.finished fits.named.0 fits.named.1 c.add_next.new.stages
    c.score_slot.new.stages c.in_default.ensures.ok c.score_slot.ensures c.phase_after-self-inside.result
    c.phase_after-self-inside.ensures

pub invariant_of-self-2 : goal.invariant_of-self-2
invariant_of-self-2 c = rw (made c) (rw (← c.self.view_is) at c.requires).sound

pub returns-clause-ok : goal.returns-clause-ok
returns-clause-ok c = made c ∙ ap (λ (v : EventValue). with_bracket_score v c.args.stage c.args.slot c.args.score c.args.next
    c.args.finished) c.self.view_is
