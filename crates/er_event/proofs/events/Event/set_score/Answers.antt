use Rattle.er_event.proofs.Prelude.{Fits, EventValue, IsSoundButForSeeds, SetScore, event_value, arith, length, rules, subst, sym, ◌≡◌}
use Rattle.er_event.proofs.Prelude.{common_steps}
use Rattle.std.specs.Vec.{vec_len}
use Rattle.er_event.proofs.{RescoredLemmas.round-within, ScoreLemmas.{fits-low, listed-within, written}}
use Rattle.er_event.proofs.events.Event.set_score.Goals as goal

pub index_mut-listed-requires : goal.index_mut-listed-requires
index_mut-listed-requires c =
    let fits = subst (λ (v : EventValue). Fits v (SetScore c.args.round c.args.table c.args.score)) (sym c.self.view_is) c.requires in
    let count : length c.self.inside.stored.items ≡ vec_len c.self.inside.stored = search rules in
    rw (c.from.ensures, ← count) (round-within (event_value c.self.inside) c.args.round c.args.table c.args.score fits)

pub overflow_sub-from-2 : goal.overflow_sub-from-2
overflow_sub-from-2 c = grind (arith, common_steps, fits-low)

pub score_match-requires : goal.score_match-requires
score_match-requires c = grind (arith, common_steps, listed-within, event_value)

pub invariant_of-self : goal.invariant_of-self
invariant_of-self c =
    let e = event_value c.self.inside in
    let fits = subst (λ (v : EventValue). Fits v (SetScore c.args.round c.args.table c.args.score)) (sym c.self.view_is) c.requires in
    subst IsSoundButForSeeds (sym (written e c.args.round c.args.table c.args.score fits c.from.result c.from-2.result
    c.index_mut-listed.result.now c.from.ensures c.from-2.ensures c.index_mut-listed.ensures.value c.score_match.new.matches
    c.score_match.ensures)) fits.sound

pub returns : goal.returns
returns c =
    let e = event_value c.self.inside in
    let fits = subst (λ (v : EventValue). Fits v (SetScore c.args.round c.args.table c.args.score)) (sym c.self.view_is) c.requires in
    rw (← c.self.view_is)
    (written e c.args.round c.args.table c.args.score fits c.from.result c.from-2.result c.index_mut-listed.result.now c.from.ensures
    c.from-2.ensures c.index_mut-listed.ensures.value c.score_match.new.matches c.score_match.ensures)
