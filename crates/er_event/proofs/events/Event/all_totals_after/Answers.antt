use Rattle.er_event.proofs.Prelude.{arith, ap, length, ◌∙◌, ◌≡◌, ℕ}
use Rattle.er_event.proofs.{MissedLemmas.{complete, complete-few}, PlayedLemmas.gathered-after}
use Rattle.er_event.specs.{Change.after}
use Rattle.er_event.proofs.events.Event.all_totals_after.Goals as goal

pub invariant_of-result : goal.invariant_of-result
invariant_of-result c =
    let next = after c.args.self.now c.args.change.now in
    let few = complete-few (length c.stored.result.now) next.stored in
    let most = c.requires.sound.rounds.few in
    let limit = c.requires.sound.set_up.rounds.1 in
    (c.all_played_after.ensures.over, omega (arith, c.complete_after.ensures))

pub returns : goal.returns
returns c =
    let e = c.args.self.now in
    let next = after e c.args.change.now in
    let count : c.complete_after.result ≡ complete (length e.stored) next.stored =
    c.complete_after.ensures ∙ ap (λ (n : ℕ). complete n next.stored) (ap length c.stored.ensures.value) in
    gathered-after e c.args.change.now c.stored.ensures.sound c.requires.sound
    (record { played = c.all_played_after.result; complete = c.complete_after.result }) c.all_played_after.ensures.played
    c.all_played_after.ensures.long count
