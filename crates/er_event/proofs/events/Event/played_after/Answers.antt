use Rattle.er_event.proofs.Prelude.{arith, ◌∙◌}
use Rattle.er_event.proofs.events.Event.played_after.Goals as goal

pub returns : goal.returns
returns c =
    let number = c.from.ensures ∙ c.get.ensures.value in
    let within = c.get.ensures.within in
    let long = c.all_played_after.ensures.long in
    rw number (c.all_played_after.ensures.played c.args.player (omega (arith, number, within)) (omega (arith, number, within, long)))
