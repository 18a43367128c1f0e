use Rattle.er_event.proofs.Prelude.{Round, List, arith, ap, length, subst, ◌∙◌, ◌≡◌}
use Rattle.er_event.proofs.{MissedLemmas.{complete, complete-few}, PlayedLemmas.{gathered-now, over-weaker}}
use Rattle.er_event.specs.inside.Played.{ArePlayed}
use Rattle.er_event.proofs.events.Event.all_totals.Goals as goal

pub invariant_of-result : goal.invariant_of-result
invariant_of-result c =
    let sound = c.stored-stored.ensures.sound in
    let same = ap length c.stored-stored.ensures.value in
    let few = complete-few (length c.stored-stored.result.now) c.stored-stored.result.now in
    let most = sound.rounds.few in
    let limit = sound.set_up.rounds.1 in
    (λ k d below. over-weaker _ _ _ (omega arith) (c.played_in.ensures.over k d below), omega (arith, c.complete_of.ensures))

pub returns : goal.returns
returns c =
    let e = c.args.self.now in
    let value = c.stored-stored.ensures.value in
    let played : ArePlayed e.stored c.played_in.result =
    subst (λ (rounds : List Round). ArePlayed rounds c.played_in.result) value c.played_in.ensures.played in
    let count : c.complete_of.result ≡ complete (length e.stored) e.stored =
    c.complete_of.ensures ∙ ap (λ (rounds : List Round). complete (length rounds) rounds) value in
    gathered-now e c.stored-stored.ensures.sound (record { played = c.played_in.result; complete = c.complete_of.result }) played
    c.played_in.ensures.long count
