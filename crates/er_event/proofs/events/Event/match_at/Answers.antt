use Rattle.er_event.proofs.Prelude.{match_in, Match, Round, List, ap, get_or, length, subst, sym, ◌-◌, ◌<◌, ◌∙◌}
use Rattle.er_event.proofs.Prelude.{◌≡◌, ◌≤◌}
use Rattle.er_event.proofs.ScoreLemmas.{read-fits, read-match, read-past}
use Rattle.er_event.proofs.events.Event.match_at.Goals as goal

pub returns-in_err-round-clause-value : goal.returns-in_err-round-clause-value
returns-in_err-round-clause-value c =
    let past = c.in_err-round.ensures.lookup.3 in
    rw c.from_residual.ensures (sym (read-past c.args.self.now c.args.round c.args.table c.from.result c.if-round-eq0.false c.from.ensures
    (subst (λ (rs : List Round). length rs ≤ c.from.result - 1) c.stored.ensures.value past)))

pub returns-clause-value : goal.returns-clause-value
returns-clause-value c =
    let e = c.args.self.now in
    let look = c.in_ok-round.ensures.lookup.3 in
    let r = c.in_ok-round.round.now in
    let list = c.stored.ensures.value in
    let at = read-match e c.args.round c.args.table c.from.result r c.if-round-eq0.false c.from.ensures
    (subst (λ (rs : List Round). c.from.result - 1 < length rs) list look.0)
    (subst (λ (rs : List Round). r ≡ get_or rs (c.from.result - 1) r) list (look.1 r)) in
    c.match_in.ensures ∙ (ap (λ (ms : List Match). match_in ms c.args.table) c.as_slice.ensures ∙ sym at)

pub returns-clause-fits : goal.returns-clause-fits
returns-clause-fits c =
    read-fits c.args.self.now c.args.round c.args.table c.match_in.result c.stored.ensures.sound (sym (returns-clause-value c))
