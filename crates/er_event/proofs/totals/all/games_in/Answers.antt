use Rattle.er_event.proofs.Prelude.{Match, Bor, option_map, subst, sym, ◌∙◌, ◌≢◌}
use Rattle.er_event.proofs.PlayedLemmas.{empty, new-apart, seat-apart, seen-with, unseen}
use Rattle.er_event.specs.inside.Seen.{AreSeen}
use Rattle.er_event.proofs.totals.all.games_in.Goals as goal

pub returns-in_default-clause-value : goal.returns-in_default-clause-value
returns-in_default-clause-value c =
    unseen c.args.seats.now c.at.ensures.once c.args.player (sym c.at.ensures.value ∙ empty c.at.result c.in_default.not-Some)
    (option_map (λ (m : Bor Match). m.now) c.args.new)

pub games_seen-requires-clause-apart : goal.games_seen-requires-clause-apart
games_seen-requires-clause-apart c =
    let seat = c.in-Some.seat in
    subst (λ (m : Match). m.a ≢ m.b) (sym c.with_new.ensures)
    (new-apart seat (option_map (λ (m : Bor Match). m.now) c.args.new)
    (seat-apart c.args.seats.now c.at.ensures.once c.args.player seat (sym c.at.ensures.value ∙ c.in-Some.is)) c.requires.apart)

pub returns-clause-value : goal.returns-clause-value
returns-clause-value c =
    let seat = c.in-Some.seat in
    seen-with c.args.seats.now c.at.ensures.once c.args.player seat (sym c.at.ensures.value ∙ c.in-Some.is) c.games_seen.result
    (option_map (λ (m : Bor Match). m.now) c.args.new)
    (subst (λ (m : Match). AreSeen m c.args.player c.games_seen.result) c.with_new.ensures c.games_seen.ensures)
