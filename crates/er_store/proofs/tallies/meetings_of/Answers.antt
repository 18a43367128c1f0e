use Rattle.er_store.proofs.Prelude.{◌∙◌, map, sym, ap, ap₂, filter, List, All, Option, ℤ, subst, take_all, none-some, meetings, MeetingRow}
use Rattle.er_store.proofs.Prelude.{is_outside, complete_rows, sides_in}
use Rattle.er_store.proofs.Meetings.{meetings-counted, meetings-same, IsMeetingRow, all-show}
use Rattle.er_store.proofs.tallies.meetings_of.Goals as goal

pub returns-in_default-clause-event : goal.returns-in_default-clause-event
returns-in_default-clause-event c e sound rows =
    let shows : All (IsMeetingRow e) c.args.rows.now = subst (All (IsMeetingRow e)) (sym rows) (all-show e sound) in
    let it = shows c.loop-row.row-index _ c.loop-row-test.true in
    absurd (none-some _ (sym c.in_default.is ∙ (c.meeting_of.ensures.event e it.it sound it.low it.high it.sides)))

pub returns-clause-event : goal.returns-clause-event
returns-clause-event c e sound rows =
    let all = c.args.rows.now in
    meetings-same c.loop-row.meetings.items (meetings e) (c.loop-row.invariant
    ∙ (ap₂ (λ (o : Option ℤ) (rs : List MeetingRow). map sides_in (filter (is_outside o) rs)) c.open_round-unfinished.ensures
    (take_all c.loop-row.row-index all c.loop-row-test.false)
    ∙ (ap (λ (rs : List MeetingRow). map sides_in (complete_rows rs)) rows ∙ meetings-counted e sound)))
