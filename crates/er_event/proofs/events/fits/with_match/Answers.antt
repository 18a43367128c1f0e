use Rattle.er_event.proofs.EndLemmas.{set-copy}
use Rattle.er_event.proofs.events.fits.with_match.Goals as goal

pub returns : goal.returns
returns c = set-copy c.args.stage.now c.copy_from_slice.new.self _ c.args.at c.args.played c.copy_from_slice.ensures.after c.requires.within
