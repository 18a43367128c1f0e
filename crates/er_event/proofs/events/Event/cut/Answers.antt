use Rattle.er_event.proofs.Prelude.{IsSoundButForSeeds, subst}
use Rattle.er_event.proofs.PlayoffLemmas.{opening-fits}
use Rattle.er_event.proofs.events.Event.cut.Goals as goal

pub returns-clause-fits : goal.returns-clause-fits
returns-clause-fits c ms opening = opening-fits c.args.self.now ms (subst IsSoundButForSeeds c.self.view_is c.self.invariant) opening
