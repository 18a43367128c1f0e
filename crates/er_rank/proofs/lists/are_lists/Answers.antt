use Rattle.std.proofs.Common.{rules}
use Rattle.er_rank.proofs.EventLemmas.{AreLists-event}
use Rattle.er_rank.proofs.lists.are_lists.Goals as goal

pub returns-then-not-are_tallies-clause-event : goal.returns-then-not-are_tallies-clause-event
returns-then-not-are_tallies-clause-event c = λ event are.
    let lists = AreLists-event event c.args.tallies.now c.args.meetings.now are in
    let all = c.are_tallies.ensures.1 lists.tallies in
    search rules

pub returns-clause-event : goal.returns-clause-event
returns-clause-event c = λ event are.
    let lists = AreLists-event event c.args.tallies.now c.args.meetings.now are in
    search rules
