use Rattle.er_event.proofs.Prelude.{IsSoundButForSeeds, arith, ap, ap₂, sym, ◌∙◌, ◌≡◌, ℕ}
use Rattle.er_event.proofs.{MissedLemmas.{complete, complete-few, totals-split}, OverLemmas.played-over}
use Rattle.er_event.specs.{Change.after, Results.rounds_missed_of, Totals.{missed_totals, plus}, declared.totals.Totals.Totals}
use Rattle.er_event.proofs.events.Event.totals_after.Goals as goal

pub with_missed-requires : goal.with_missed-requires
with_missed-requires c =
    let next = after c.args.self.now c.args.change.now in
    let sound : IsSoundButForSeeds next = c.requires.sound in
    let over = played-over next sound c.args.player in
    let few = complete-few c.joined_after-joined.result next.stored in
    let played = ap (λ (t : Totals). t.rounds) c.played_after.ensures in
    let missed = c.complete_after-missed.ensures in
    omega (arith, over.rounds_are, sound.rounds.few, sound.set_up.rounds.1)

pub returns : goal.returns
returns c =
    let next = after c.args.self.now c.args.change.now in
    let joined : c.joined_after-joined.result ≡ rounds_missed_of next.players c.args.player =
    c.joined_after-joined.ensures.value ∙ ap (rounds_missed_of next.players) c.get.ensures.value in
    let missed : c.complete_after-missed.result ≡ complete (rounds_missed_of next.players c.args.player) next.stored =
    c.complete_after-missed.ensures ∙ ap (λ (n : ℕ). complete n next.stored) joined in
    c.with_missed.ensures ∙ (ap₂ plus c.played_after.ensures (ap missed_totals missed)
    ∙ sym (totals-split next c.args.player))
