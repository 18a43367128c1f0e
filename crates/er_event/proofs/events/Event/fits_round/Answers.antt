use Rattle.er_event.proofs.Prelude.{EventValue, Swiss, ap, arith, length, rules, sym, ◌<◌, ◌∙◌, ◌≡◌, range_with_len}
use Rattle.er_event.proofs.AddLemmas.{IsSound-round, round-follows}
use Rattle.er_event.proofs.events.Event.fits_round.Goals as goal

pub returns : goal.returns
returns c =
    let e = c.args.self.now in
    let ms = c.args.matches.now in
    let swiss : e.phase ≡ Swiss = search (rules, c.phase.ensures.value, c.ne.ensures, c.if-ne.false) in
    let kept = ap length c.stored.ensures.value in
    let view = ap (λ (v : EventValue). v.rounds) c.self.view_is in
    let room : length e.stored < e.rounds = omega (arith, c.from.ensures, c.if-stored-from.false) in
    let known = c.players.ensures.sound.players.numbered ∙ ap (range_with_len 1) (sym (ap length c.players.ensures.value)) in (
      λ yes. IsSound-round e ms c.phase.ensures.sound swiss room
          (rw (known) (rw (c.stored-2.ensures.value) at (c.may_follow.ensures.0 yes))),
      λ sound. c.may_follow.ensures.1 (rw (c.stored-2.ensures.value) (rw (known) at (round-follows e ms sound))),
    )
