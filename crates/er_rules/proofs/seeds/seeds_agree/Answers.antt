use Rattle.std.proofs.{lemmas.Grind.common_steps, Common.{rules, ◌≡◌, ◌≢◌, IsTrue, ℕ, List, length, Some, true≢false, sym, ap, subst, ◌∙◌}}
use Rattle.std.proofs.{Common.arith, lemmas.Option.same_Some}
use Rattle.std.specs.List.{slice_get}
use Rattle.er_event.specs.{declared.matches.Match.Match, Bracket.SameSlots}
use Rattle.er_rank.specs.Standings.{IsTop}
use Rattle.er_bracket.specs.Seeds.{first_stage}
use Rattle.er_rules.proofs.{SlotLemmas.{same_length, first_some, no_stage}, seeds.seeds_agree.Goals.{In_ok-seeds, in-2, in_default-matches}}
use Rattle.er_rules.proofs.seeds.seeds_agree.Goals as goal

-- the first stage is the event's
first_is : (c : In_ok-seeds) → slice_get c.args.event.now.bracket.stages 0 ≡ Some c.first-item.result
first_is c = grind (arith, common_steps)

-- and the seeds are the only ones
only_seeds : (c : In_ok-seeds) (seeds : List ℕ) → IsTop c.args.event.now c.args.event.now.cut seeds → seeds ≡ c.in_ok-seeds.seeds.items
only_seeds c seeds is =
    let cut = c.from.ensures ∙ c.cut.ensures.value in
    c.in_ok-seeds.ensures.only seeds (subst (λ (k : ℕ). IsTop c.args.event.now k seeds) (sym cut) is)

pub returns-then-not-matches : goal.returns-then-not-matches
returns-then-not-matches c =
    let here = (goal.at.returns-then-not-matches c).In_ok-seeds in
    let at = first_is here in
    let seeds = c.in_ok-seeds.seeds.items in
    let some = first_some c.args.event.now c.bracket.ensures.sound c.first-item.result at in (
      λ never. absurd (true≢false (sym never)),
      λ has.
          let it = has c.first-item.result at in
          let one = only_seeds here it.0 it.1 in
          let same = same_length c.first-item.result (first_stage it.0) it.2 in
          elim c.match-matches.branch [
            | in-2 w ↦ sym c.if-not-matches.true ∙ w.matches-is
            | in_default-matches w ↦
                let count : c.len.result ≡ length seeds = search rules in
                let two : c.len.result ≢ 2 = search rules in
                let four : c.len.result ≢ 4 = search rules in
                let eight : c.len.result ≢ 8 = search rules in
                let long : length it.0 ≡ c.len.result = ap length one ∙ sym count in
                let none = no_stage it.0 (λ h. two (sym long ∙ h)) (λ h. four (sym long ∙ h)) (λ h. eight (sym long ∙ h)) in
                absurd (omega (arith, some, same, none))
          ],
    )

pub returns : goal.returns
returns c =
    let here = (goal.at.returns c).In_ok-seeds in
    let at = first_is here in
    let e = c.args.event.now in
    let first = c.first-item.result in
    let seeds = c.in_ok-seeds.seeds.items in
    let stage = first_stage seeds in
    let other : c.as_slice-4.result.now ≡ stage = c.as_slice-4.ensures
    ∙ (c.in_ok-stage.ensures ∙ ap first_stage c.as_slice-2.ensures.value) in
    let Test : List Match → List Match → Type 0 = λ ms ns.
    (IsTrue c.same_slots.result → SameSlots ms ns) × (SameSlots ms ns → IsTrue c.same_slots.result) in
    let test : Test first stage = subst (Test first) other
    (subst (λ (ms : List Match). Test ms c.as_slice-4.result.now) c.as_slice-3.ensures c.same_slots.ensures) in
    let top = subst (λ (k : ℕ). IsTop e k seeds) (c.from.ensures ∙ c.cut.ensures.value) c.in_ok-seeds.ensures.value in (
      λ yes one is. (seeds, top, subst (λ (ms : List Match). SameSlots ms stage) (same_Some first one (sym at ∙ is)) (test.0 yes)),
      λ has.
          let it = has first at in
          test.1 (subst (λ (ps : List ℕ). SameSlots first (first_stage ps)) (only_seeds here it.0 it.1) it.2),
    )
