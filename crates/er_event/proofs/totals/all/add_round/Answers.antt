use Rattle.er_event.proofs.Prelude.{totals_of, AreOver, [], arith, ap₂, inl, inr, subst, sym, get_or_default, ◌+◌, ◌∙◌}
use Rattle.std.proofs.lemmas.{Bool.cases_eq, List.{get_or-set_other, get_or-set_same}}
use Rattle.er_event.proofs.Prelude.{length-set}
use Rattle.er_event.specs.Totals.{plus}
use Rattle.er_event.proofs.totals.all.add_round.Goals as goal

pub loop-number-preserved : goal.loop-number-preserved
loop-number-preserved c =
    let k = c.loop-number.number in
    let now = c.loop-number.played in
    let next = c.with_games.result in
    let inv = c.loop-number.invariant in
    let was = inv.rest k (omega arith) in
    record {
      value = λ player low below ms is round. elim (cases_eq player k) [
        | inl same ↦ rw same (get_or-set_same now k next (totals_of []) (omega arith)
            ∙ (c.with_games.ensures.value ∙ ap₂ plus was (sym (c.games_in.ensures.value ms is round))))
        | inr other ↦ get_or-set_other now k player next (totals_of []) other ∙ inv.value player low (omega arith) ms is round
      ];
      over = λ rounds all player below. elim (cases_eq player k) [
        | inl same ↦ rw same (subst (AreOver (rounds + 1)) (sym (get_or-set_same now k next (totals_of []) (omega arith)))
            (c.with_games.ensures.more rounds (subst (AreOver rounds) (sym was) (all k (totals_of []) (omega arith)))))
        | inr other ↦ subst (AreOver (rounds + 1)) (sym (get_or-set_other now k player next (totals_of []) other))
            (inv.over rounds all player (omega arith))
      ];
      rest = λ player high. get_or-set_other now k player next (totals_of []) (λ same. omega arith) ∙ inv.rest player (omega arith);
      long = length-set now k next ∙ inv.long;
      long_before = inv.long_before;
    }

pub returns-clause-over : goal.returns-clause-over
returns-clause-over c = λ rounds all k d below.
    subst (AreOver (rounds + 1)) (get_or_default c.loop-number.played k (totals_of []) d below)
    (c.loop-number.invariant.over rounds all k (omega arith))
