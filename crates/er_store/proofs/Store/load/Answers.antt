use Rattle.er_store.proofs.Prelude.{IsFault, rules, subst, sym, ◌≡◌, false, Database, RepresentsIn}
use Rattle.er_store.proofs.LoadLemmas.{represents_where}
use Rattle.er_store.proofs.Store.load.Goals as goal

pub returns-in_err-event-clause-found : goal.returns-in_err-event-clause-found
returns-in_err-event-clause-found g c runs clean e s represents sound =
    let why : IsFault c.in_err-event.field-0.0 = c.in_err-event.ensures.found clean represents.0 e s represents.1 sound in
    search (rules, why)

pub returns-clause-found : goal.returns-clause-found
returns-clause-found g c runs clean e s represents sound =
    let found = c.in_ok-event.ensures.found clean represents.0 e s represents.1 sound in
    (found.0, found.1)

pub returns-clause-shows : goal.returns-clause-shows
returns-clause-shows g c clean =
    let found = c.in_ok-event.ensures in
    let same = found.looks.same clean in
    let new = c.load_tables-read.new.conn in
    let mode : new.in_transaction ≡ false = search rules in
    let seen = c.sees_last_commit.ensures mode same.0.is_open in (
      c.in_ok-event._version,
      found.known,
      record {
        parts = (found.reads clean).0;
        tallies = (found.reads clean).1;
        shows = found.shows clean;
        represents = λ has keyed. record {
          is_open = same.0.is_open;
          sound = seen.1;
          settled = seen.0;
          represents = subst (λ (d : Database). RepresentsIn c.in_ok-event._version d c.in_ok-event.event c.in_ok-event.serial)
              (sym same.0.now_is) (represents_where (found.shows clean has) keyed);
        };
      },
    )
