-- A correction that is sent again at once is taken, and gives the same event.
use Rattle.std.specs.List.{enumerate_from}
use Rattle.std.proofs.Common.{arith, ◌≡◌, inl, inr, ℕ, ◌+◌, true, false, not, List, [], ◌∷◌, map, Option, Some, None, is_none}
use Rattle.std.proofs.{Common.{Ok, refl, sym, ap, ap₂, subst}, lemmas.Grind.common_steps, Math.ListN.set, lemmas.List.set-set}
use Rattle.std.proofs.{lemmas.List.get_or-set_same, lemmas.Option.slice_get_within, lemmas.Bool.{not-false, cases_Bool}}
use Rattle.er_event.specs.{declared.scores.Games.Games, declared.matches.Match.Match, declared.commands.Command.TheVariants.Correct}
use Rattle.er_event.specs.{declared.refusals.Refusal.Refusal, declared.refusals.Refusal.TheVariants.{IsBye, BadScore, NotReported}}
use Rattle.er_event.specs.{Event.EventValue, Round.{is_bye, is_at, match_at}, Score.is_swiss_score, Change.score_table}
use Rattle.er_event.specs.Change.{with_score}
use Rattle.er_rules.specs.{Commands.{first_refusal, is_swiss}, Step.{Steps, StepsBy, checks}, Retry.RepeatsCorrection}
use Rattle.er_rules.proofs.{Found.found_stored, Keeping.{is_taken, same_Ok, passes}, Sound.asked, Rescoring.{entered_now, scored_round}}

twice : (t n : ℕ) (s : Games) (m : Match) → score_table t s (n, score_table t s (n, m)) ≡ score_table t s (n, m)
twice t n s m = elim (cases_Bool (is_at t (n, m))) [ inl is ↦ rw (is, is) refl | inr other ↦ rw (other, other) refl ]

rescored : (n t : ℕ) (s : Games) (ms : List Match)
    → map (score_table t s) (enumerate_from n (map (score_table t s) (enumerate_from n ms))) ≡ map (score_table t s) (enumerate_from n ms)
rescored n t s [] = refl
rescored n t s (m ∷ ms) = ap₂ ◌∷◌ (twice t n s m) (rescored (n + 1) t s ms)

-- the rounds after the same score twice
module _ (e : EventValue) (round table : ℕ) (score : Games) (m : Match) (at : match_at e round table ≡ Some m) (two : is_bye m ≡ false)
  where
    abbrev after : EventValue
    after = with_score e round table score

    same_event : with_score after round table score ≡ after
    same_event = grind (arith, common_steps, found_stored, get_or-set_same, rescored, scored_round, set, set-set, slice_get_within)

    free : is_swiss e.phase ≡ true → is_swiss_score score ≡ true → first_refusal (checks after (Correct round table score)) ≡ None
    free swiss lawful =
        let it = entered_now e round table score m at two in
        let hit = it.1.2 in
        rw (swiss, it.0, it.1.1, hit.1, hit.2, hit.3.1, lawful) refl

    steps_again : is_swiss e.phase ≡ true → is_swiss_score score ≡ true → Steps after (Correct round table score) (Ok after)
    steps_again swiss lawful =
        let Then : Option Refusal → Type 0 = λ o. StepsBy o after (Correct round table score) (Ok after) in
        subst Then (sym (free swiss lawful)) (ap (λ (x : EventValue). Ok x) (sym same_event))

pub correct_again : RepeatsCorrection
correct_again e next round table score taken =
    let it = is_taken e next (Correct round table score) taken in
    let pass = passes (checks e (Correct round table score)) it.0 in
    let there = asked (match_at e round table)
    (λ m. (is_bye m, IsBye) ∷ (is_none m.score, NotReported) ∷ (not (is_swiss_score score), BadScore) ∷ []) pass.1 in
    let is = same_Ok next _ it.1 in
    subst (λ (x : EventValue). Steps x (Correct round table score) (Ok x)) (sym is)
    (steps_again e round table score there.0 there.1 there.2.0 (not-false _ pass.0) (not-false _ there.2.1.1.0))
