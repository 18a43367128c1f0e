-- A score of the playoff that was entered once is there at every later point.
use Rattle.std.proofs.Common.{arith, ◌≡◌, ℕ, ◌-◌, ◌==◌, ◌||◌, Bool, true, false, cond, not, List, [], ◌∷◌, ◌++◌, Some, None, Result, Ok}
use Rattle.std.proofs.{Common.{Err, refl, sym, ap, subst, ◌∙◌}, lemmas.Grind.common_steps, Math.ListN.set, lemmas.Bool.not-false}
use Rattle.std.specs.List.{slice_get}
use Rattle.er_event.specs.{declared.scores.Games.Games, declared.events.Phase.Phase, declared.events.Phase.TheVariants.Finished}
use Rattle.er_event.specs.{declared.matches.Match.Match, declared.commands.Command.Command, declared.commands.Command.TheVariants.Pair}
use Rattle.er_event.specs.{declared.commands.Command.TheVariants.Cut, declared.refusals.Refusal.Refusal}
use Rattle.er_event.specs.{declared.refusals.Refusal.TheVariants.BadScore, Event.EventValue, Bracket.{slot_at, open_match}}
use Rattle.er_event.specs.{Score.is_playoff_score, Change.{match_with_score, stage_of, scored_slot}}
use Rattle.er_rules.specs.Commands.{first_refusal, is_enrolling, is_swiss, is_playoff, already_reported}
use Rattle.er_rules.specs.Step.{Steps, Makes, checks, scored_at}
use Rattle.er_rules.specs.{Fold.Folds, Retry.IsRetryRefusal}
use Rattle.er_rules.proofs.{Found.{Stored, found_stored, stored_more, stored_now, stored_stays}, Keeping.{is_taken, same_Ok, stages_in}}
use Rattle.er_rules.proofs.{Keeping.passes, Sound.asked, Retrying.{kept_on, IsOver, over_stays, not_again}, Rescoring.HasScore}
use Rattle.er_event.specs.declared.commands.Command.TheVariants.{Pair, Cut, Playoff as PlayOff}

abbrev HasPlayedSlot : ℕ → List Match → Type 0
HasPlayedSlot slot ms = Stored HasScore ms (slot - 1)

-- the slot is stored, and has a score
abbrev IsPlayed : ℕ → ℕ → List (List Match) → Type 0
IsPlayed stage slot stages = ((stage == 0 || slot == 0) ≡ false) × Stored (HasPlayedSlot slot) stages (stage - 1)

played_more : (stage slot : ℕ) (stages more : List (List Match)) → IsPlayed stage slot stages → IsPlayed stage slot (stages ++ more)
played_more stage slot stages more it = (it.0, stored_more (HasPlayedSlot slot) stages more (stage - 1) it.1)

played_stays : (stage slot k t : ℕ) (s : Games) (stages : List (List Match)) → IsPlayed stage slot stages
    → IsPlayed stage slot (set stages (k - 1) (scored_slot (stage_of stages k) t s))
played_stays stage slot k t s stages it =
    let stays : (ms : List Match) → HasPlayedSlot slot ms → HasPlayedSlot slot (scored_slot ms t s) = λ ms.
    stored_stays HasScore (match_with_score s) (open_match 0 0) (λ m has. (s, refl)) ms (t - 1) (slot - 1) in
    (it.0, stored_stays (HasPlayedSlot slot) (λ ms. scored_slot ms t s) [] stays stages (k - 1) (stage - 1) it.1)

abbrev HasPlayed : ℕ → ℕ → EventValue → Type 0
HasPlayed stage slot e = IsOver e × IsPlayed stage slot e.bracket.stages

played_kept : (stage slot : ℕ) (e next : EventValue) (c : Command) → Steps e c (Ok next) → HasPlayed stage slot e
    → HasPlayed stage slot next
played_kept stage slot e next c steps has = (over_stays e next c steps has.0, made c (is_taken e next c steps))
  where
    as_now : {stages : List (List Match)} → next.bracket.stages ≡ stages → IsPlayed stage slot stages
        → IsPlayed stage slot next.bracket.stages
    as_now same it = subst (IsPlayed stage slot) (sym same) it

    made : (c : Command) → (first_refusal (checks e c) ≡ None) × Makes e c (Ok next) → IsPlayed stage slot next.bracket.stages
    made (Pair k seed) is = as_now (ap stages_in is.1.2.2) has.1
    made Cut is = absurd (not_again (is_swiss e.phase) has.0.1 (passes (checks e Cut) is.0).0)
    made (PlayOff k t s) is =
        as_now (ap stages_in (same_Ok next _ is.1)) (played_more stage slot _ _ (played_stays stage slot k t s e.bracket.stages has.1))
    made c is = as_now (ap stages_in (same_Ok next _ is.1)) has.1

playoff_over : (p : Phase) (b : Bool) → is_playoff p ≡ true
    → (is_enrolling (cond b Finished p) ≡ false) × (is_swiss (cond b Finished p) ≡ false)
playoff_over p h1 is = grind (arith, common_steps)

-- a match of the playoff that is given a score has it
played_now : (e : EventValue) (stage slot : ℕ) (s : Games) (m : Match) → slot_at e stage slot ≡ Some m
    → IsPlayed stage slot (set e.bracket.stages (stage - 1) (scored_at e stage slot s))
played_now e stage slot s m at =
    let it = found_stored (stage == 0 || slot == 0) (λ ms. slice_get ms (slot - 1)) e.bracket.stages (stage - 1) m at in
    let here = stored_now HasScore (match_with_score s) (open_match 0 0) it.1.0 (slot - 1) (m, it.1.2, (s, refl)) in
    (it.0, stored_now (HasPlayedSlot slot) (λ ms. scored_slot ms slot s) [] e.bracket.stages (stage - 1) (it.1.0, it.1.1, here))

module _ (e next later : EventValue) (more : List Command) (folds : Folds next more later) (result : Result EventValue Refusal)
    (stage slot : ℕ) (score : Games) where
  abbrev Refused : Type 0
  Refused = (why : Refusal) × (result ≡ Err why) × IsRetryRefusal (PlayOff stage slot score) why

  refused_later : IsPlayed stage slot later.bracket.stages → Steps later (PlayOff stage slot score) result → Refused
  refused_later it again = grind (arith, common_steps)

  pub play_again : Steps e (PlayOff stage slot score) (Ok next) → Steps later (PlayOff stage slot score) result → Refused
  play_again taken again =
      let it = is_taken e next (PlayOff stage slot score) taken in
      let pass = passes (checks e (PlayOff stage slot score)) it.0 in
      let there = asked (slot_at e stage slot) (λ m. already_reported m.score ++ (not (is_playoff_score score), BadScore) ∷ []) pass.1 in
      let is = same_Ok next _ it.1 in
      let left = playoff_over e.phase _ (not-false _ pass.0) in
      let over : IsOver next =
      (ap (λ (x : EventValue). is_enrolling x.phase) is ∙ left.0, ap (λ (x : EventValue). is_swiss x.phase) is ∙ left.1) in
      let entered = played_more stage slot _ _ (played_now e stage slot score there.0 there.1) in
      let played = subst (IsPlayed stage slot) (sym (ap stages_in is)) entered in
      let now = kept_on (HasPlayed stage slot) (played_kept stage slot) next later more folds (over, played) in
      refused_later now.1 again
