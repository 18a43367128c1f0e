use Rattle.er_event.proofs.Prelude.{arith, option_map, common_steps}
use Rattle.er_event.proofs.{BracketLemmas.{are_lawful, of-Lawful}, EndLemmas.some-lawful}
use Rattle.er_event.proofs.events.fits.is_end.Goals as goal

pub returns-then-not-follows : goal.returns-then-not-follows
returns-then-not-follows c =
    grind (arith, common_steps, some-lawful c.args.stage.now c.args.over c.in-Some.next.now, of-Lawful c.in-Some.next.now)

pub returns : goal.returns
returns c = grind (arith, common_steps, are_lawful, option_map)
