use Rattle.er_event.proofs.Prelude.{IsSoundButForSeeds, refl, List, Player, ap, arith, length, sym, ◌+◌, ◌∙◌, ◌≡◌}
use Rattle.er_event.proofs.MissedLemmas.{joined-after, joined-stored}
use Rattle.er_event.specs.{Change.{after, new_player}, Results.rounds_missed_of}
use Rattle.er_event.proofs.events.Event.joined_after.Goals as goal

pub returns-in-AddPlayer-clause-value : goal.returns-in-AddPlayer-clause-value
returns-in-AddPlayer-clause-value c =
    let e = c.args.self.now in
    let new = new_player e c.in-AddPlayer.name in
    let same = c.players.ensures.value in
    let number : new.no ≡ 1 + length c.players.result.now = omega (arith, ap length same) in
    let joined : new.joined ≡ length c.stored.result.now = sym (ap length c.stored.ensures.value) in
    rw c.in-AddPlayer.is (rw same at (c.joined_with.ensures new number joined))

pub returns-in-AddPlayer-clause-few : goal.returns-in-AddPlayer-clause-few
returns-in-AddPlayer-clause-few c =
    let e = c.args.self.now in
    let next = after e c.args.change.now in
    let value : c.joined_with.result ≡ rounds_missed_of next.players c.args.player = returns-in-AddPlayer-clause-value c in
    let sound : IsSoundButForSeeds next = c.requires.sound in
    let low = joined-stored c.args.player next.players next.stored sound.missed in
    let same : length next.stored ≡ length e.stored = rw c.in-AddPlayer.is refl in
    omega (arith, value, low, same)

pub returns-in_default-clause-value : goal.returns-in_default-clause-value
returns-in_default-clause-value c =
    c.joined_of.ensures ∙ (ap (λ (ps : List Player). rounds_missed_of ps c.args.player) c.players-in_default.ensures.value
    ∙ sym (joined-after c.args.self.now c.args.change.now c.args.player c.in_default.not-AddPlayer))

pub returns-in_default-clause-few : goal.returns-in_default-clause-few
returns-in_default-clause-few c =
    let e = c.args.self.now in
    let is : c.joined_of.result ≡ rounds_missed_of e.players c.args.player =
    c.joined_of.ensures ∙ ap (λ (ps : List Player). rounds_missed_of ps c.args.player) c.players-in_default.ensures.value in
    let low = joined-stored c.args.player e.players e.stored c.players-in_default.ensures.sound.missed in
    omega (arith, is, low)
