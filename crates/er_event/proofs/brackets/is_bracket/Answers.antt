use Rattle.er_event.proofs.Prelude.{arith, subst, sym, true≢false, ◌∙◌, common_steps}
use Rattle.er_event.proofs.BracketLemmas.{IsFirst, bracket-first, is-bracket, of-AllLawful}
use Rattle.er_event.proofs.brackets.is_bracket.Goals.{then-cut-eq0-via-else-cut-eq0+then-not-is_first, then-cut-eq0-via-then-cut-eq0}
use Rattle.er_event.proofs.brackets.is_bracket.Goals as goal

pub returns-then-cut-eq0 : goal.returns-then-cut-eq0
returns-then-cut-eq0 c = (
  λ never. absurd (true≢false (sym never)),
  λ is. elim c.then-cut-eq0.branch [
    | then-cut-eq0-via-then-cut-eq0 w ↦ absurd (let some = is.cut_is_played in omega arith)
    | then-cut-eq0-via-else-cut-eq0+then-not-is_first w ↦ absurd
        (let first = bracket-first c.args.count c.args.cut c.args.stages.now c.in-Some.first.now (sym c.in-Some.ensures.value) is in
        true≢false (sym (w.is_first.ensures.1 (subst (IsFirst c.args.count c.args.cut) (sym w.as_slice.ensures) first))
        ∙ w.if-not-is_first.true))
  ],
)

pub returns-then-not-are_all_lawful : goal.returns-then-not-are_all_lawful
returns-then-not-are_all_lawful c = grind (arith, common_steps, of-AllLawful c.args.stages.now)

pub returns : goal.returns
returns c = grind (arith, common_steps, is-bracket)
