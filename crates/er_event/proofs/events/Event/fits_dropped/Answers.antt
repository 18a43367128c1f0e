use Rattle.er_event.proofs.Prelude.{Enrolling, ap, arith, length, ◌∙◌, ◌≢◌, nat_tests, common_steps}
use Rattle.er_event.proofs.DropLemmas.{Contains-numbered, IsSound-dropped, numbered-within, some-dropped}
use Rattle.er_event.proofs.events.Event.fits_dropped.Goals as goal

pub returns-in-Enrolling : goal.returns-in-Enrolling
returns-in-Enrolling c = grind (arith, common_steps, some-dropped c.args.player c.args.self.now.players)

pub returns-in_default : goal.returns-in_default
returns-in_default c =
    let e = c.args.self.now in
    let k = c.args.player in
    let sound = c.players.ensures.sound in
    let same = ap length c.players.ensures.value in
    let started : e.phase ≢ Enrolling = λ phase. c.in_default.not-Enrolling (c.phase.ensures.value ∙ phase) in
    let dropped = IsSound-dropped e k sound started in (
      λ within. (Contains-numbered e.players k sound.players.numbered (grind (arith, nat_tests)) (grind (arith, nat_tests)), dropped),
      λ both. let high = (numbered-within e.players k sound.players.numbered both.0).1 in grind (arith, nat_tests),
    )
