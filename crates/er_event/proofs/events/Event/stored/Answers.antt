use Rattle.er_event.proofs.Prelude.{IsSoundButForSeeds, subst}
use Rattle.er_event.proofs.AddLemmas.{IsSound-round}
use Rattle.er_event.proofs.events.Event.stored.Goals as goal

pub returns-clause-fits : goal.returns-clause-fits
returns-clause-fits c ms next =
    let sound = subst IsSoundButForSeeds c.self.view_is c.self.invariant in
    record {
      named = tt;
      sound = IsSound-round c.args.self.now ms sound next.swiss next.room
          (record { done = next.done; round = next.round; new = next.new });
    }
