use Rattle.std.proofs.{Common.arith, lemmas.Grind.common_steps, lemmas.List.length-map}
use Rattle.er_rank.specs.Meeting.{AreListsOf}
use Rattle.er_rank.proofs.{EventLemmas.{AreTallies-event, AreLists-event, meetings-known}, MeetingLemmas.is_met, SoundLemmas.seats_known}
use Rattle.er_rank.proofs.standings.Goals.{After-as_slice-3}
use Rattle.er_rank.proofs.standings.Goals as goal

pub meetings_of-requires-clause-numbered : goal.meetings_of-requires-clause-numbered
meetings_of-requires-clause-numbered c = grind (arith, common_steps, AreTallies-event)

pub meetings_of-requires-clause-known : goal.meetings_of-requires-clause-known
meetings_of-requires-clause-known c = grind (arith, common_steps, length-map, seats_known)

-- the lists that the code made
are_lists : (c : After-as_slice-3) → AreListsOf c.args.event.now c.as_slice-2.result.now c.as_slice-3.result.now
are_lists c = grind (arith, common_steps, is_met, meetings-known)

pub standings_of-requires : goal.standings_of-requires
standings_of-requires c =
    AreLists-event c.args.event.now c.as_slice-2.result.now c.as_slice-3.result.now
    (are_lists (goal.at.standings_of-requires c).After-as_slice-3)

pub returns-clause-value : goal.returns-clause-value
returns-clause-value c = c.standings_of.ensures.value c.args.event.now (are_lists (goal.at.returns-clause-value c).After-as_slice-3)

pub returns-clause-only : goal.returns-clause-only
returns-clause-only c = c.standings_of.ensures.only c.args.event.now (are_lists (goal.at.returns-clause-only c).After-as_slice-3)
