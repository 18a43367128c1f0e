-- The stage of a match of the playoff: how many slots it has, and that its scores are lawful.
use Rattle.std.proofs.{lemmas.Grind.common_steps, Common.{◌≡◌, ◌⊎◌, inl, ℕ, ◌-◌, ◌<◌, ◌≤◌, ◌/◌, ◌==◌, ◌||◌, true, List, [], ◌∷◌, length}}
use Rattle.std.proofs.{Common.{get_or, All, Some, IfSome, IsTrue, sym, subst, arith}, lemmas.List.Elements.{All-from_recursion, All-set}}
use Rattle.std.proofs.lemmas.Option.{none-some, same_Some, slice_get_within}
use Rattle.std.specs.List.{slice_get, AllByRecursion}
use Rattle.er_event.specs.{declared.events.Phase.TheVariants.Playoff, declared.matches.Match.Match, declared.scores.Games.Games}
use Rattle.er_event.specs.{Event.EventValue, Score.is_playoff_score, Bracket.{FollowOn, slot_at, open_match}}
use Rattle.er_event.specs.Change.{match_with_score, stage_of}
use Rattle.er_event.specs.{Change.scored_slot, Sound.IsSoundButForSeeds}
use Rattle.er_rules.proofs.{Opening.{IsCut, is_cut}, Found.{Stored, found_stored}, SlotLemmas.same_length}

abbrev pub IsSlots : ℕ → Type 0
IsSlots n = (n ≡ 1) ⊎ (n ≡ 2) ⊎ (n ≡ 4)

abbrev IsLawful : Match → Type 0
IsLawful m = IfSome m.score (λ s. IsTrue (is_playoff_score s))

-- ---- each stage has half of the slots of that before it

abbrev AreSlots : List Match → Type 0
AreSlots ms = IsSlots (length ms)

slots_from : (stages : List (List Match)) (stage : List Match) → FollowOn (stage ∷ stages) → AreSlots stage
    → AllByRecursion AreSlots (stage ∷ stages)
slots_from [] stage follow is = (is, tt)
slots_from (next ∷ more) stage follow is = grind (arith, common_steps, slots_from more next follow.3, same_length)

slots_of : (stages : List (List Match)) (first : List Match) → slice_get stages 0 ≡ Some first → FollowOn stages → AreSlots first
    → AllByRecursion AreSlots stages
slots_of [] first at follow is = absurd (none-some first at)
slots_of (stage ∷ stages) first at follow is = slots_from stages stage follow (subst AreSlots (sym (same_Some stage first at)) is)

cut_slots : (cut n : ℕ) → n ≡ cut / 2 → IsCut cut → IsSlots n
cut_slots cut n half h1 = grind (arith, common_steps)

-- ---- where a match is stored

module _ (e : EventValue) (sound : IsSoundButForSeeds e) (playing : e.phase ≡ Playoff) (k t : ℕ) (m : Match)
    (found : slot_at e k t ≡ Some m) where
  abbrev stages : List (List Match)
  stages = e.bracket.stages

  stored : Stored (λ ms. slice_get ms (t - 1) ≡ Some m) stages (k - 1)
  stored = (found_stored (k == 0 || t == 0) (λ (ms : List Match). slice_get ms (t - 1)) stages (k - 1) m found).1

  within : k - 1 < length stages
  within = slice_get_within stages (k - 1) stored.0 stored.1

  pub low_stage : 1 ≤ k
  low_stage = grind (arith, common_steps)

  pub high_stage : k ≤ length stages
  high_stage = omega (arith, low_stage, within)

  -- what holds of each stage holds of this one
  at_stage : (P : List Match → Type 0) → All P stages → P (stage_of stages k)
  at_stage P all = all (k - 1) [] within

  pub slots : IsSlots (length (stage_of stages k))
  slots =
      let b = sound.bracket.bracket (inl playing) in
      let first = cut_slots e.cut (length b.first) b.slots (is_cut e.cut sound.set_up.cut b.cut_is_played) in
      at_stage AreSlots (All-from_recursion AreSlots stages (slots_of stages b.first b.is_first b.follows first))

  pub lawful : (score : Games) → is_playoff_score score ≡ true → All IsLawful (scored_slot (stage_of stages k) t score)
  lawful score is =
      let b = sound.bracket.bracket (inl playing) in
      let all : All IsLawful (stage_of stages k) = at_stage (All IsLawful) b.scores in
      All-set IsLawful (stage_of stages k) (t - 1) (match_with_score score (get_or (stage_of stages k) (t - 1) (open_match 0 0))) is all
