use Rattle.std.proofs.{lemmas.Grind.common_steps, Common.{◌≡◌, ◌+◌, ◌-◌, length, true≢false, sym, ◌∙◌, refl, arith}}
use Rattle.er_rank.proofs.{CountLemmas.{AreEncounters-more, MayMeet-last}, lists.try_count.Goals.then-at-counts-via-then-at-counts}
use Rattle.er_rank.proofs.lists.try_count.Goals.{then-at-counts-via-else-at-counts+then-counts-at-ge-MAX_ROUNDS}
use Rattle.er_rank.proofs.lists.try_count.Goals.{then-at-counts-via-else-at-counts+else-counts-at-ge-MAX_ROUNDS+then-not-is_record}
use Rattle.er_rank.proofs.lists.try_count.Goals as goal

pub returns-then-at-counts-clause-may : goal.returns-then-at-counts-clause-may
returns-then-at-counts-clause-may c = λ before counted are. (
  λ never. absurd (true≢false (sym never)),
  λ more.
      let at = c.from-at.result - 1 in
      let number : 1 + at ≡ c.args.player = omega (arith, c.from-at.ensures, c.get.ensures.value, c.get.ensures.within.0) in
      let may = MayMeet-last before c.args.player c.args.opponent (length c.args.counts.now) more in
      elim c.then-at-counts.branch [
        | then-at-counts-via-then-at-counts w ↦ absurd (omega (arith, number, may.known, w.if-at-counts.true))
        | then-at-counts-via-else-at-counts+then-counts-at-ge-MAX_ROUNDS w ↦
            let here = rw number at (counted at w.if-at-counts.false) in
            absurd (omega (arith, here, may.few, w.if-counts-at-ge-MAX_ROUNDS.true))
        | then-at-counts-via-else-at-counts+else-counts-at-ge-MAX_ROUNDS+then-not-is_record w ↦
            absurd (true≢false (sym (w.is_record.ensures.1 may.recorded) ∙ w.if-not-is_record.true))
      ],
)

pub returns-clause-may : goal.returns-clause-may
returns-clause-may c = λ before counted are.
    let at = c.from-at.result - 1 in
    let number : 1 + at ≡ c.args.player = omega (arith, c.from-at.ensures, c.get.ensures.value, c.get.ensures.within.0) in
    let here = rw number at (counted at c.if-at-counts.false) in (
      λ _. AreEncounters-more before c.args.player c.args.opponent (length c.args.counts.now) (omega (arith, number)) are (record {
        known = omega (arith, number, c.if-at-counts.false);
        few = omega (arith, here, c.if-counts-at-ge-MAX_ROUNDS.false);
        recorded = c.is_record.ensures.0 c.if-not-is_record.false;
      }),
      λ _. refl,
    )

pub returns-clause-counted : goal.returns-clause-counted
returns-clause-counted c = grind (arith, common_steps)
