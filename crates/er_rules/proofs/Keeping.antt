-- The step keeps the seeds of the playoff.
use Rattle.std.proofs.Common.{arith, true, false, ◌||◌, ◌⊎◌, ◌≡◌, inl, inr, ℕ, zero, suc, ◌-◌, not, List, [], ◌∷◌, ◌++◌, get_or, Option}
use Rattle.std.proofs.Common.{Some, None}
use Rattle.std.proofs.{Common.{Result, Ok, IfOk, OnOk, refl, sym, ap, subst, ◌∙◌}, lemmas.Grind.common_steps, Math.ListN.set}
use Rattle.std.proofs.lemmas.Option.{none-some, same_Some}
use Rattle.std.specs.List.{slice_get}
use Rattle.er_event.specs.{declared.events.Phase.Phase, declared.events.Phase.TheVariants.{Enrolling, Swiss, Playoff}}
use Rattle.er_event.specs.{declared.commands.Command.Command, declared.commands.Command.TheVariants.{Enrol, Start, Pair, Cut}}
use Rattle.er_event.specs.{declared.refusals.Refusal.Refusal, declared.brackets.Bracket.Bracket, declared.matches.Match.Match}
use Rattle.er_event.specs.{declared.scores.Games.Games, Event.EventValue, Bracket.{SameSlots, open_match, stage_after}}
use Rattle.er_event.specs.Change.{match_with_score}
use Rattle.er_event.specs.{Change.{stage_of, scored_slot, one_more, scored_stages}, Sound.IsSoundButForSeeds}
use Rattle.er_rank.specs.{declared.rows.Row.Row, Standings.{IsRowOf, IsTop}}
use Rattle.er_bracket.specs.Seeds.{first_stage}
use Rattle.er_rules.specs.{Commands.{Check, first_refusal, is_enrolling, is_swiss}, Step.{Makes, StepsBy, Steps, Answers, checks}}
use Rattle.er_rules.specs.{Step.with_stage_score, Sound.{HasSeeds, IsSound}}
use Rattle.er_event.specs.declared.commands.Command.TheVariants.{Enrol, Start, Pair, Cut, Playoff as PlayOff}

-- ---- the standings read neither the phase nor the bracket

module _ (e : EventValue) (p : Phase) (b : Bracket) where
  abbrev other : EventValue
  other = record e { phase = p; bracket = b }

  row_moved : (r : Row) → IsRowOf e r → IsRowOf other r
  row_moved r is = grind (arith, common_steps)

  pub top_moved : (k : ℕ) (seeds : List ℕ) → IsTop e k seeds → IsTop other k seeds
  top_moved k seeds top = grind (arith, common_steps)

-- no check of the list fails
abbrev pub AllPass : List Check → Type 0
AllPass [] = Unit {0}
AllPass (c ∷ cs) = (c.0 ≡ false) × AllPass cs

pub passes : (cs : List Check) → first_refusal cs ≡ None → AllPass cs
passes [] is = tt
passes ((false, w) ∷ cs) is = (refl, passes cs is)
passes ((true, w) ∷ cs) is = absurd (none-some w (sym is))

pub enrolling_is : (p : Phase) → not (is_enrolling p) ≡ false → p ≡ Enrolling
enrolling_is h1 is = grind (arith, common_steps)

-- players enrol in two phases
pub open_is : (p : Phase) → not (is_enrolling p || is_swiss p) ≡ false → (p ≡ Enrolling) ⊎ (p ≡ Swiss)
open_is h1 is = grind (arith, common_steps)

pub swiss_is : (p : Phase) → not (is_swiss p) ≡ false → p ≡ Swiss
swiss_is h1 is = grind (arith, common_steps)

-- ---- no stage, no seeds

-- ---- a score changes no player of a slot

same_itself : (ms : List Match) → SameSlots ms ms
same_itself [] = tt
same_itself (m ∷ ms) = ((refl, refl), same_itself ms)

same_then : (xs bs cs : List Match) → SameSlots xs bs → SameSlots bs cs → SameSlots xs cs
same_then [] [] cs p q = q
same_then [] (b ∷ bs) cs p q = absurd p
same_then (a ∷ xs) [] cs p q = absurd p
same_then (a ∷ xs) (b ∷ bs) [] p q = absurd q
same_then (a ∷ xs) (b ∷ bs) (c ∷ cs) p q = ((p.0.0 ∙ q.0.0, p.0.1 ∙ q.0.1), same_then xs bs cs p.1 q.1)

same_scored : (ms : List Match) (i : ℕ) (score : Games) (d : Match) → SameSlots (set ms i (match_with_score score (get_or ms i d))) ms
same_scored [] i score d = tt
same_scored (x ∷ ms) zero score d = ((refl, refl), same_itself ms)
same_scored (x ∷ ms) (suc i) score d = ((refl, refl), same_scored ms i score d)

-- the first stage after a score was there before, but for the score
abbrev FirstWas : List (List Match) → List Match → Type 0
FirstWas stages first = (was : List Match) × (slice_get stages 0 ≡ Some was) × SameSlots first was

first_placed : (x : List Match) (stages : List (List Match)) (i t : ℕ) (score : Games) (later : List (List Match)) (first : List Match)
    → slice_get (set (x ∷ stages) i (scored_slot (get_or (x ∷ stages) i []) t score) ++ later) 0 ≡ Some first
    → FirstWas (x ∷ stages) first
first_placed x stages zero t score later first at =
    (x, refl, rw (← same_Some (scored_slot x t score) first at) (same_scored x (t - 1) score (open_match 0 0)))
first_placed x stages (suc i) t score later first at = (x, refl, rw (← same_Some x first at) (same_itself x))

first_scored : (stages : List (List Match)) (k t : ℕ) (score : Games) (first : List Match)
    → slice_get (scored_stages stages k t score (stage_after (scored_slot (stage_of stages k) t score))) 0 ≡ Some first
    → FirstWas stages first
first_scored [] k t score first at = absurd (none-some first at)
first_scored (x ∷ stages) k t score first at =
    first_placed x stages (k - 1) t score (one_more (stage_after (scored_slot (stage_of (x ∷ stages) k) t score))) first at

-- ---- the law

pub is_taken : (e next : EventValue) (c : Command) → Steps e c (Ok next) → (first_refusal (checks e c) ≡ None) × Makes e c (Ok next)
is_taken e next c steps = by_check (first_refusal (checks e c)) refl steps
  where
    by_check : (o : Option Refusal) → first_refusal (checks e c) ≡ o → StepsBy o e c (Ok next)
        → (first_refusal (checks e c) ≡ None) × Makes e c (Ok next)
    by_check h1 is made = grind (arith, common_steps)

pub same_Ok : (a b : EventValue) → ◌≡◌ {A = Result EventValue Refusal} (Ok a) (Ok b) → a ≡ b
same_Ok a b is = cc

abbrev pub stages_in : EventValue → List (List Match)
stages_in e = e.bracket.stages

module _ (e : EventValue) (sound : IsSound e) where
  enrolling : not (is_enrolling e.phase) ≡ false → e.bracket.stages ≡ []
  enrolling free = sound.but_for_seeds.bracket.none (inl (enrolling_is e.phase free))

  swiss : not (is_swiss e.phase) ≡ false → e.bracket.stages ≡ []
  swiss free = sound.but_for_seeds.bracket.none (inr (swiss_is e.phase free))

  -- the event after has no stage either
  none_after : (next : EventValue) → next.bracket.stages ≡ e.bracket.stages → e.bracket.stages ≡ [] → HasSeeds next
  none_after next same none = grind (arith, common_steps)

  pub keeps : (c : Command) (next : EventValue) → AllPass (checks e c) → Makes e c (Ok next) → HasSeeds next
  keeps (Enrol name) next pass made =
      none_after next (ap stages_in (same_Ok next _ made)) (sound.but_for_seeds.bracket.none (open_is e.phase pass.0))
  keeps Start next pass made = none_after next (ap stages_in (same_Ok next _ made)) (enrolling pass.0)
  keeps (Pair round seed) next pass made = none_after next (ap stages_in made.2.2) (swiss pass.0)
  keeps Cut next pass made =
      let seeds = made.0 in
      let b : Bracket = record { stages = first_stage seeds ∷ [] } in
      subst HasSeeds (sym (same_Ok next (other e Playoff b) made.2)) (λ first at.
      let is = same_Some (first_stage seeds) first at in
      let same = subst (λ (ms : List Match). SameSlots ms (first_stage seeds)) is (same_itself (first_stage seeds)) in
      (seeds, top_moved e Playoff b e.cut seeds made.1, same))
  keeps (PlayOff stage slot score) next pass made =
      let after = with_stage_score e stage slot score in
      subst HasSeeds (sym (same_Ok next after made)) (λ first at.
      let old = first_scored e.bracket.stages stage slot score first at in
      let has = sound.seeds old.0 old.1 in
      (has.0, top_moved e after.phase after.bracket e.cut has.0 has.1, same_then first old.0 (first_stage has.0) old.2 has.2))
  keeps c next pass made = none_after next (ap stages_in (same_Ok next _ made)) (swiss pass.0)

pub step_keeps : (e : EventValue) (c : Command) (next : EventValue) → IsSound e → Steps e c (Ok next) → IsSoundButForSeeds next
    → IsSound next
step_keeps e c next sound steps but_for_seeds =
    let made = is_taken e next c steps in
    record { but_for_seeds = but_for_seeds; seeds = keeps e sound c next (passes (checks e c) made.0) made.1 }

pub answers_keep : (e : EventValue) (c : Command) (next : EventValue) → IsSound e → Answers e c (Ok next) → IsSoundButForSeeds next
    → IsSound next
answers_keep e c next sound h1 but_for_seeds = grind (arith, common_steps, step_keeps)

pub if_three : {T E : Type 0} (r : Result T E) (P Q R : T → Type 0) (A : Type 0) → ((x : T) → P x → Q x → A → R x) → IfOk r P → IfOk r Q
    → OnOk r A → IfOk r R
if_three h1 h2 h3 h4 h5 f p q a = grind (arith, common_steps)
