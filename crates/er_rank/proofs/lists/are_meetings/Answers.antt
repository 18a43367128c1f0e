use Rattle.std.proofs.Common.{◌≡◌, [], ◌∷◌, ◌++◌, length, take, true≢false, sym, ◌∙◌, append_assoc, arith}
use Rattle.er_rank.specs.Meeting.{encounters, AreEncounters}
use Rattle.er_rank.proofs.{CountLemmas.AreEncounters-front, OpponentLemmas.{first_of, second_of, encounters-more, encounters-split}}
use Rattle.er_rank.proofs.lists.are_meetings.Goals.{then-not-try_count-via-then-not-try_count}
use Rattle.er_rank.proofs.lists.are_meetings.Goals.{then-not-try_count-via-else-not-try_count+then-not-try_count-2}
use Rattle.er_rank.proofs.lists.are_meetings.Goals as goal

pub returns-then-not-try_count : goal.returns-then-not-try_count
returns-then-not-try_count c = (
  λ never. absurd (true≢false (sym never)),
  λ all.
      let players = c.args.players in
      let m = c.meeting-item.result in
      let so_far = c.loop-meeting.invariant in
      let before = encounters (take c.loop-meeting.meeting-index c.args.meetings.now) in
      let with_first = before ++ first_of m ∷ [] in
      let split = encounters-split c.args.meetings.now c.loop-meeting.meeting-index m c.loop-meeting-test.true c.meeting-item.is in
      let later = second_of m ∷ split.0 in
      let whole = split.1 ∙ sym (append_assoc before (first_of m ∷ []) later) ∙ sym (append_assoc with_first (second_of m ∷ []) split.0) in
      let both = AreEncounters-front players (with_first ++ second_of m ∷ []) split.0 (rw whole at all) in
      let first = AreEncounters-front players with_first (second_of m ∷ []) both in
      let may = c.try_count.ensures.may before so_far.counts (rw so_far.players so_far.are) in
      elim c.then-not-try_count.branch [
        | then-not-try_count-via-then-not-try_count w ↦ sym w.if-not-try_count.true ∙ may.1 (rw so_far.players first)
        | then-not-try_count-via-else-not-try_count+then-not-try_count-2 w ↦
            let long : length c.try_count.new.counts ≡ players = omega (arith, c.try_count.auto.counts, so_far.players) in
            let counted = c.try_count.ensures.counted before so_far.counts w.if-not-try_count.false in
            let may_both = w.try_count-else-not-try_count.ensures.may with_first counted (rw long first) in
            sym w.if-not-try_count-2.true ∙ may_both.1 (rw long both)
      ],
)

pub loop-meeting-preserved : goal.loop-meeting-preserved
loop-meeting-preserved c =
    let players = c.args.players in
    let m = c.meeting-item.result in
    let so_far = c.loop-meeting.invariant in
    let before = encounters (take c.loop-meeting.meeting-index c.args.meetings.now) in
    let with_first = before ++ first_of m ∷ [] in
    let more = encounters-more c.args.meetings.now c.loop-meeting.meeting-index m c.loop-meeting-test.true c.meeting-item.is in
    let long : length c.try_count.new.counts ≡ players = omega (arith, c.try_count.auto.counts, so_far.players) in
    let one_more = c.try_count.ensures.counted before so_far.counts c.if-not-try_count.false in
    let may = c.try_count.ensures.may before so_far.counts (rw so_far.players so_far.are) in
    let first : AreEncounters players with_first = rw so_far.players at may.0 c.if-not-try_count.false in
    let may_both = c.try_count-else-not-try_count.ensures.may with_first one_more (rw long first) in
    let both : AreEncounters players (with_first ++ second_of m ∷ []) = rw long at may_both.0 c.if-not-try_count-2.false in
    record {
      players = omega (arith, c.try_count-else-not-try_count.auto.counts, long);
      are = rw more both;
      counts = rw more (c.try_count-else-not-try_count.ensures.counted with_first one_more c.if-not-try_count-2.false);
    }
