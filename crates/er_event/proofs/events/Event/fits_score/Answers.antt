use Rattle.er_event.proofs.Prelude.{arith, nat_tests, common_steps}
use Rattle.er_event.proofs.ScoreLemmas.{fits-swiss}
use Rattle.er_event.proofs.events.Event.fits_score.Goals as goal

pub returns-then-not-is_bye : goal.returns-then-not-is_bye
returns-then-not-is_bye c = grind (arith, common_steps, fits-swiss, nat_tests)
