-- How many rounds, stages and matches a sound event may have.
use Rattle.er_store.proofs.Prelude.{common_steps, ◌≡◌, ◌≤◌, ◌<◌, ◌+◌, ◌==◌, ℕ, true, false, List, [], ◌∷◌, ◌++◌, map, flat_map, length}
use Rattle.er_store.proofs.Prelude.{Contains, subst, arith, AllByRecursion, range_with_len, nat_tests, length-map, recursion_from_All}
use Rattle.er_store.proofs.Prelude.{Match, Round, EventValue, with_round, seats, IsRound, IsSoundButForSeeds, numbers, inl, inr, ◌||◌, Bool}
use Rattle.er_store.proofs.Prelude.{Option, Some, None, IfSome, refl, sym, zero, suc, none-some, same_Some, Phase, Games, with_slot_score}
use Rattle.er_store.proofs.Prelude.{IsStage}
use Rattle.std.specs.List.{IsDistinct, list_any, slice_get}
use Rattle.std.proofs.{lemmas.Bool.Decides.Decides-eqb, lemmas.Map.Made.IsDistinct-from_AllPairs}
use Rattle.std.proofs.lemmas.Map.Steps.{length-le_from_distinct_below}
use Rattle.er_event.specs.{Change.{with_bracket_score, with_bracket}, declared.events.Phase.TheVariants.{Enrolling, Swiss, Playoff}}
use Rattle.er_event.specs.{declared.events.Phase.TheVariants.Finished, Bracket.{next_stage, SameSlots, FollowOn}, Sound.IsInPlayoff}
use Rattle.er_store.proofs.Picking.{within}

-- ---- how many rounds, and matches of a round, a sound event may have

abbrev Apart : ℕ → ℕ → Type 0
Apart p q = (p == q) ≡ false

-- who is named first at each table
abbrev firsts : List Match → List ℕ
firsts matches = map (λ (m : Match). m.a) matches

first_apart : (p : ℕ) (ms : List Match) → AllByRecursion (Apart p) (flat_map seats ms) → AllByRecursion (Apart p) (firsts ms)
first_apart p [] h = tt
first_apart p (m ∷ ms) h = (h.0, first_apart p ms h.1.1)

firsts_apart : (ms : List Match) → IsDistinct ◌==◌ (flat_map seats ms) → IsDistinct ◌==◌ (firsts ms)
unfolding IsDistinct
firsts_apart [] h = tt
firsts_apart (m ∷ ms) h = (first_apart m.a ms h.0.1, firsts_apart ms h.1.1)

firsts_below : (count q : ℕ) (ms : List Match) → AllByRecursion (λ (m : Match). Contains (range_with_len 1 count) m.a) ms
    → list_any (λ p. q == p) (firsts ms) ≡ true → q < count + 1
firsts_below count q [] known has = absurd (cc)
firsts_below count q (m ∷ ms) known has =
    let low = within count m.a known.0 in
    grind (arith, nat_tests, low.1, firsts_below count q ms known.1)

-- nobody is named first at two tables
few_firsts : (count : ℕ) (ms : List Match) → IsRound (range_with_len 1 count) ms → length ms ≤ count + 1
few_firsts count ms round =
    let apart = firsts_apart ms (IsDistinct-from_AllPairs Decides-eqb (flat_map seats ms) round.seated_once) in
    let known = recursion_from_All (λ (m : Match). Contains (range_with_len 1 count) m.a) ms round.first_known in
    let few = length-le_from_distinct_below (firsts ms) (count + 1) apart (λ q has. firsts_below count q ms known has) in
    let long = length-map ms (λ (m : Match). m.a) in
    omega arith

last_of : {X : Type 0} (P : X → Type 0) (xs : List X) (x : X) → AllByRecursion P (xs ++ x ∷ []) → P x
last_of P [] x all = all.0
last_of P (y ∷ xs) x all = last_of P xs x all.1

newest : (e : EventValue) (ms : List Match) → IsSoundButForSeeds (with_round e ms) → IsRound (numbers e.players) ms
newest e ms sound = last_of (λ (r : Round). IsRound (numbers e.players) r.matches) e.stored (record { matches = ms })
    (recursion_from_All _ _ sound.rounds.each)

pub few_matches : (e : EventValue) (ms : List Match) → IsSoundButForSeeds (with_round e ms) → length ms ≤ 513
few_matches e ms sound =
    let few = sound.players.few in
    let within = few_firsts (length e.players) ms (subst (λ known. IsRound known ms) sound.players.numbered (newest e ms sound)) in
    omega arith

pub some_matches : (e : EventValue) (ms : List Match) → IsSoundButForSeeds (with_round e ms) → 0 < length ms
some_matches e ms sound = (newest e ms sound).some

-- ---- how many stages, and matches of a stage, a sound event may have

half : (ms : List Match) → length (next_stage ms) + length (next_stage ms) ≤ length ms
half [] = omega arith
half (m ∷ []) = omega arith
half (m ∷ n ∷ more) = let rest = half more in omega arith

some_next : (ms : List Match) → 1 < length ms → 0 < length (next_stage ms)
some_next [] low = absurd (omega arith)
some_next (m ∷ []) low = absurd (omega arith)
some_next (m ∷ n ∷ more) low = omega arith

same_length : (ms ns : List Match) → SameSlots ms ns → length ms ≡ length ns
same_length [] [] same = refl
same_length [] (n ∷ ns) same = absurd same
same_length (m ∷ ms) [] same = absurd same
same_length (m ∷ ms) (n ∷ ns) same = let rest = same_length ms ns same.1 in omega arith

-- each stage has half of the matches of that before it
stages_from : (stages : List (List Match)) (stage : List Match) → FollowOn (stage ∷ stages) → IsStage stage
    → AllByRecursion IsStage (stage ∷ stages)
stages_from [] stage follow is = (is, tt)
stages_from (next ∷ more) stage follow is = grind (arith, common_steps, next_stage, same_length, some_next, stages_from more next follow.3)

stages_of : (stages : List (List Match)) (first : List Match) → slice_get stages 0 ≡ Some first → FollowOn stages → IsStage first
    → AllByRecursion IsStage stages
stages_of [] first at follow is = absurd (none-some first at)
stages_of (stage ∷ stages) first at follow is = stages_from stages stage follow (subst IsStage (sym (same_Some stage first at)) is)

-- how many matches a stage has at most if `n` others follow it
abbrev most : ℕ → ℕ
most zero = 1
most (suc n) = most n + most n

few_later : (n : ℕ) (stages : List (List Match)) (stage : List Match) → FollowOn (stage ∷ stages) → length stage ≤ most n
    → length stages ≤ n
few_later n [] stage follow few = omega arith
few_later zero (next ∷ more) stage follow few = let some = follow.1 in absurd (omega arith)
few_later (suc n) (next ∷ more) stage follow few =
    let same = same_length next (next_stage stage) follow.2 in
    let fewer = half stage in
    let rest = few_later n more next follow.3 (omega (arith, same)) in
    omega (arith, rest)

three_at_most : (stages : List (List Match)) (first : List Match) → slice_get stages 0 ≡ Some first → FollowOn stages → length first ≤ 4
    → length stages ≤ 3
three_at_most [] first at follow few = omega arith
three_at_most (stage ∷ stages) first at follow few = grind (arith, common_steps)

-- how many play a playoff
cut_between : (cut : ℕ) → (cut == 0 || cut == 2 || cut == 4 || cut == 8) ≡ true → 0 < cut → (2 ≤ cut) × (cut ≤ 8)
cut_between cut h low = (grind (arith, nat_tests), grind (arith, nat_tests))

-- ---- a sound event

module _ (e : EventValue) (sound : IsSoundButForSeeds e) where
  abbrev stages : List (List Match)
  stages = e.bracket.stages

  in_playoff : IsInPlayoff e → AllByRecursion IsStage stages × (length stages ≤ 3)
  in_playoff playing = grind (arith, common_steps, cut_between, stages_of, three_at_most)

  before : stages ≡ [] → AllByRecursion IsStage stages × (length stages ≤ 3)
  before none = subst (λ (ss : List (List Match)). AllByRecursion IsStage ss × (length ss ≤ 3)) (sym none) (tt, omega arith)

  both : AllByRecursion IsStage stages × (length stages ≤ 3)
  both = by_phase e.phase refl
    where
      by_phase : (p : Phase) → e.phase ≡ p → AllByRecursion IsStage stages × (length stages ≤ 3)
      by_phase Enrolling is = before (sound.bracket.none (inl is))
      by_phase Swiss is = before (sound.bracket.none (inr is))
      by_phase Playoff is = in_playoff (inl is)
      by_phase Finished is = in_playoff (inr is)

  pub sound_few : length stages ≤ 3
  sound_few = both.1

pub first_is : (e : EventValue) (ms : List Match) → IsSoundButForSeeds (with_bracket e ms) → IsStage ms
first_is e ms sound = last_of IsStage e.bracket.stages ms (both (with_bracket e ms) sound).0

pub next_is : (e : EventValue) (k t : ℕ) (score : Games) (next : Option (List Match)) (over : Bool)
    → IsSoundButForSeeds (with_bracket_score e k t score next over) → IfSome next IsStage
next_is e k t score None over sound = tt
next_is e k t score (Some ms) over sound =
    last_of IsStage (with_slot_score e k t score).bracket.stages ms (both (with_bracket_score e k t score (Some ms) over) sound).0
