use Rattle.std.proofs.Common.{◌≡◌, ℕ, ◌+◌, ◌<◌, false, List, map, length, get_or, All, true≢false, refl, sym, subst, ◌∙◌, arith, inl, inr}
use Rattle.std.proofs.{lemmas.Bool.cases_eq, lemmas.List.{length-map, get_or-map, get_or_read, same_lists, take_all}}
use Rattle.std.proofs.{lemmas.List.Elements.All-more, lemmas.List.FromFn.{length-range_with_len, get_or-range_with_len}}
use Rattle.std.specs.List.{range_with_len}
use Rattle.er_event.specs.declared.tallies.Tally.{Tally}
use Rattle.er_rank.specs.{Meeting.IsRecord, Tally.no_totals}
use Rattle.er_rank.proofs.{PlacingLemmas.number-here, lists.are_tallies.Goals.then-from-at-via-then-from-at}
use Rattle.er_rank.proofs.lists.are_tallies.Goals.{then-from-at-via-else-from-at+then-not-is_record}
use Rattle.er_rank.proofs.lists.are_tallies.Goals as goal

abbrev has_record : Tally → Type 0
has_record t = IsRecord t.totals

pub returns-then-from-at : goal.returns-then-from-at
returns-then-from-at c = (
  λ never. absurd (true≢false (sym never)),
  λ are.
      let list = c.args.list.now in
      let at = c.loop-at.at in
      let tally = c.index-list-at.result in
      let number = number-here list at tally are.numbered c.loop-at-test.true c.index-list-at.is in
      let recorded = subst has_record (sym c.index-list-at.is) (are.records at tally c.loop-at-test.true) in
      elim c.then-from-at.branch [
        | then-from-at-via-then-from-at w ↦
            absurd (w.if-from-at.true (omega (arith, number, c.from-in-loop-at.ensures, c.get.ensures.value)))
        | then-from-at-via-else-from-at+then-not-is_record w ↦
            absurd (true≢false (sym (w.is_record.ensures.1 recorded) ∙ w.if-not-is_record.true))
      ],
)

pub loop-at-preserved : goal.loop-at-preserved
loop-at-preserved c =
    let list = c.args.list.now in
    let at = c.loop-at.at in
    let tally = c.index-list-at.result in
    let number : tally.no ≡ 1 + at = omega (arith, c.from-in-loop-at.ensures, c.get.ensures.value, c.if-from-at.false) in
    let recorded = subst has_record c.index-list-at.is (c.is_record.ensures.0 c.if-not-is_record.false) in
    record {
      numbered = λ k d below. elim (cases_eq k at) [
        | inl same ↦ rw same (subst (λ (t : Tally). t.no ≡ 1 + at)
            (get_or_read list at tally c.loop-at-test.true c.index-list-at.is d) number)
        | inr other ↦ c.loop-at.invariant.numbered k d (omega arith)
      ];
      records = All-more has_record list at tally c.loop-at-test.true c.loop-at.invariant.records recorded;
    }

-- each at its place
are-numbered : (list : List Tally) → ((k : ℕ) (d : Tally) → k < length list → (get_or list k d).no ≡ 1 + k)
    → map (λ (t : Tally). t.no) list ≡ range_with_len 1 (length list)
are-numbered list each =
    let long = length-map list (λ (t : Tally). t.no) in
    same_lists _ _ (long ∙ sym (length-range_with_len 1 (length list))) (λ k d below.
    let none : Tally = record { no = 0; totals = no_totals; dropped = false } in
    let within : k < length list = omega (arith, long) in
    let place = get_or-range_with_len 1 (length list) k d within in
    get_or-map (λ (t : Tally). t.no) list k none d within ∙ (each k none within ∙ sym place))

pub returns : goal.returns
returns c =
    let list = c.args.list.now in
    let so_far = c.loop-at.invariant in (
      λ _. record {
        few = omega (arith, c.from.ensures, c.if-list-from.false);
        numbered = are-numbered list (λ k d below. so_far.numbered k d (omega (arith, c.loop-at-test.false)));
        records = subst (All has_record) (take_all c.loop-at.at list c.loop-at-test.false) so_far.records;
      },
      λ _. refl,
    )
