use Rattle.std.proofs.{lemmas.Grind.common_steps, Common.{◌≡◌, ◌+◌, [], ◌∷◌, ◌++◌, length, take, ap, ◌∙◌, arith}, lemmas.List.with_items_is}
use Rattle.std.specs.Vec.{with_items}
use Rattle.er_rank.specs.{Meeting.encounters, inside.Opponents.AreOpponentsOf}
use Rattle.er_rank.proofs.OpponentLemmas.{both-here, first-room, second-room, encounters-more, first_of}
use Rattle.er_rank.proofs.opponents.opponents_of.Goals.{After-meet}
use Rattle.er_rank.proofs.opponents.opponents_of.Goals as goal

pub loop-meeting-init : goal.loop-meeting-init
loop-meeting-init c = grind (arith, common_steps)

pub meet-requires : goal.meet-requires
meet-requires c =
    let at = c.loop-meeting.meeting-index in
    let below = c.loop-meeting-test.true in
    let count = c.loop-meeting.invariant.0 in
    let both = both-here c.args.players c.args.meetings.now at c.meeting-item.result c.requires below c.meeting-item.is in
    record {
      known = (both.lo.0, omega (arith, both.lo.1, count, ap length c.deref_mut.ensures.value));
      «record» = both.hi_record;
      room = rw c.deref_mut.ensures.value (first-room c.args.players c.args.meetings.now at c.meeting-item.result c.requires below
          c.meeting-item.is c.loop-meeting.opponents.items count c.loop-meeting.invariant.1);
    }

-- after the first of a meeting: how many there are, and what they come to
with_first : (c : After-meet) → (length c.meet.new.opponents ≡ c.args.players) ×
    (length c.meet.new.opponents ≡ c.loop-meeting.opponents.len)
    × AreOpponentsOf (encounters (take c.loop-meeting.meeting-index c.args.meetings.now) ++ first_of c.meeting-item.result ∷ [])
    c.meet.new.opponents
with_first c =
    let before = encounters (take c.loop-meeting.meeting-index c.args.meetings.now) in
    let value = c.deref_mut.ensures.value in (
      omega (arith, c.loop-meeting.invariant.0, ap length value, c.meet.auto.opponents),
      omega (arith, c.meet.auto.opponents, c.deref_mut.ensures.len),
      c.meet.ensures before (rw value c.loop-meeting.invariant.1),
    )

pub meet-requires-in-loop-meeting : goal.meet-requires-in-loop-meeting
meet-requires-in-loop-meeting c =
    let at = c.loop-meeting.meeting-index in
    let below = c.loop-meeting-test.true in
    let so_far = with_first (goal.at.meet-requires-in-loop-meeting c).After-meet in
    let both = both-here c.args.players c.args.meetings.now at c.meeting-item.result c.requires below c.meeting-item.is in
    let are = c.deref_mut-in-loop-meeting.ensures.value ∙ with_items_is c.loop-meeting.opponents c.meet.new.opponents so_far.1 in
    record {
      known = (both.hi.0, omega (arith, both.hi.1, so_far.0, ap length are));
      «record» = both.lo_record;
      room = rw are (second-room c.args.players c.args.meetings.now at c.meeting-item.result c.requires below c.meeting-item.is
          c.meet.new.opponents so_far.0 so_far.2);
    }

pub loop-meeting-preserved : goal.loop-meeting-preserved
loop-meeting-preserved c =
    let at = c.loop-meeting.meeting-index in
    let met = c.args.meetings.now in
    let m = c.meeting-item.result in
    let vec = c.loop-meeting.opponents in
    let now = c.meet-in-loop-meeting.new.opponents in
    let so_far = with_first (goal.at.loop-meeting-preserved c).After-meet in
    let between = c.deref_mut-in-loop-meeting.ensures.value ∙ with_items_is vec c.meet.new.opponents so_far.1 in
    let second = c.meet-in-loop-meeting.ensures (encounters (take at met) ++ first_of m ∷ []) (rw between so_far.2) in
    let long : length now ≡ vec.len = omega (arith, so_far.1, ap length between, c.meet-in-loop-meeting.auto.opponents) in
    let are = with_items_is (with_items vec c.meet.new.opponents) now long in
    let more : AreOpponentsOf (encounters (take (at + 1) met)) now =
    rw (encounters-more met at m c.loop-meeting-test.true c.meeting-item.is) second in
    (omega (arith, ap length are, so_far.0, so_far.1, long), rw are more)

pub returns-clause-count : goal.returns-clause-count
returns-clause-count c = c.loop-meeting.invariant.0

pub returns-clause-value : goal.returns-clause-value
returns-clause-value c = grind (arith, common_steps)
