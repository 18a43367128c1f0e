use Rattle.er_event.proofs.Prelude.{List, [], Player, arith, ap, ap₂, length, sym, ◌∙◌, ◌≡◌}
use Rattle.er_event.proofs.MissedLemmas.{complete, joined-stored, missed-few, totals-split}
use Rattle.er_event.specs.{Results.rounds_missed_of, inside.Played.results_from, Totals.{missed_totals, plus, totals_of}}
use Rattle.er_event.proofs.events.Event.totals.Goals as goal

pub complete_of-missed-requires : goal.complete_of-missed-requires
complete_of-missed-requires c =
    let e = c.args.self.now in
    rw (c.stored.ensures.value, c.joined_of-joined.ensures, c.players.ensures.value)
    (joined-stored c.get.result e.players e.stored c.players.ensures.sound.missed)

pub with_missed-requires : goal.with_missed-requires
with_missed-requires c =
    let e = c.args.self.now in
    let joined : c.joined_of-joined.result ≡ rounds_missed_of e.players c.get.result =
    c.joined_of-joined.ensures ∙ ap (λ (ps : List Player). rounds_missed_of ps c.get.result) c.players.ensures.value in
    let missed = missed-few e c.get.result in
    let is : c.complete_of-missed.result ≡ complete (rounds_missed_of e.players c.get.result) e.stored =
    c.complete_of-missed.ensures ∙ ap₂ complete joined c.stored.ensures.value in
    let number = c.from.ensures ∙ c.get-2.ensures.value in
    let within = c.get-2.ensures.within in
    let long = c.played_in.ensures.long in
    let over = (c.played_in.ensures.over c.from.result (totals_of []) (omega (arith, c.from.ensures, within, long))).rounds_are in
    let same = ap length c.stored-2.ensures.value in
    let sound = c.players.ensures.sound in
    omega (arith, over, same, sound.rounds.few, sound.set_up.rounds.1)

pub returns : goal.returns
returns c =
    let e = c.args.self.now in
    let joined : c.joined_of-joined.result ≡ rounds_missed_of e.players c.args.player =
    c.joined_of-joined.ensures ∙ ap₂ rounds_missed_of c.players.ensures.value c.get.ensures.value in
    let is : c.complete_of-missed.result ≡ complete (rounds_missed_of e.players c.args.player) e.stored =
    c.complete_of-missed.ensures ∙ ap₂ complete joined c.stored.ensures.value in
    let within = c.get-2.ensures.within in
    let long = c.played_in.ensures.long in
    let read = rw c.stored-2.ensures.value at
    (c.played_in.ensures.played c.from.result (omega (arith, c.from.ensures, within)) (omega (arith, c.from.ensures, within, long))) in
    let number = c.from.ensures ∙ c.get-2.ensures.value in
    let played = read ∙ ap (λ n. totals_of (results_from n 1 e.stored)) number in
    c.with_missed.ensures ∙ (ap₂ plus played (ap missed_totals is)
    ∙ sym (totals-split e c.args.player))
