-- An event whose playoff begins, or has one more score, is sound exactly if its checks hold.
use Rattle.er_event.proofs.Prelude.{FollowOn, IsDecided, SameSlots, last_match, next_stage, Fits, EventValue, is_complete, IsBracket}
use Rattle.er_event.proofs.Prelude.{IsPlayoff, IsSoundButForSeeds, is_lawful_cut, numbers, AddBracket, Phase, Enrolling, Finished, Match}
use Rattle.er_event.proofs.Prelude.{Bool, List, None, Some, [], ap, arith, drop, inl, inr, length, not, refl, subst, suc, sym, true, zero}
use Rattle.er_event.proofs.Prelude.{ℕ, ◌++◌, ◌<◌, ◌==◌, ◌∙◌, ◌∷◌, ◌≡◌, ◌≤◌, set, nat_tests, common_steps, All-weaker, recursion_from_All}
use Rattle.er_event.proofs.Prelude.{none-some, same_Some, AllByRecursion, slice_get, nil_from_length}
use Rattle.er_event.proofs.{BracketLemmas.Lawful, SlotLemmas.{follow-split, last-after, same-seats, slots-refl}}
use Rattle.er_event.specs.{Change.{IsOpening, with_bracket}, Sound.AllRoundsDone, declared.events.Phase.TheVariants.Playoff}

-- ---- stages of which one has new scores, with more after it

same-trans : (ks ms ns : List Match) → SameSlots ks ms → SameSlots ms ns → SameSlots ks ns
same-trans ks ms ns a b = (same-seats ks ns).1 ((same-seats ks ms).0 a ∙ (same-seats ms ns).0 b)

module _ (new : List Match) (more : List (List Match)) where
  pub follow-new : (k : ℕ) (stages : List (List Match)) (old : List Match) → slice_get stages k ≡ Some old → SameSlots new old
      → FollowOn stages → FollowOn (new ∷ (drop (suc k) stages ++ more)) → FollowOn (set stages k new ++ more)
  follow-new k [] old at same f h = absurd (none-some old at)
  follow-new zero (s ∷ stages) old at same f h = h
  follow-new (suc k) (s ∷ []) old at same f h = absurd (none-some old at)
  follow-new (suc zero) (s ∷ t ∷ stages) old at same f h = grind (arith, common_steps, next_stage, same-trans, same_Some)
  follow-new (suc (suc k)) (s ∷ t ∷ stages) old at same f h = (f.0, f.1, f.2, follow-new (suc k) (t ∷ stages) old at same f.3 h)

  pub drop-new : (k : ℕ) (stages : List (List Match)) (old : List Match) → slice_get stages k ≡ Some old
      → drop k (set stages k new ++ more) ≡ new ∷ (drop (suc k) stages ++ more)
  drop-new k [] old at = absurd (none-some old at)
  drop-new zero (s ∷ stages) old at = refl
  drop-new (suc k) (s ∷ stages) old at = drop-new k stages old at

  pub all-new : (P : List Match → Type 0) (k : ℕ) (stages : List (List Match)) → P new → AllByRecursion P more → AllByRecursion P stages
      → AllByRecursion P (set stages k new ++ more)
  all-new P k stages here behind h = grind (arith, common_steps)

  pub all-old : (P : List Match → Type 0) (k : ℕ) (stages : List (List Match)) (old : List Match) → slice_get stages k ≡ Some old
      → AllByRecursion P (set stages k new ++ more) → P new × AllByRecursion P more
  all-old P k [] old at h = absurd (none-some old at)
  all-old P zero (s ∷ stages) old at h = (h.0, behind stages h.1)
    where
      behind : (ss : List (List Match)) → AllByRecursion P (ss ++ more) → AllByRecursion P more
      behind [] a = a
      behind (t ∷ ss) a = behind ss a.1
  all-old P (suc k) (s ∷ stages) old at h = all-old P k stages old at h.1

  pub first-new : (k : ℕ) (stages : List (List Match)) (old first : List Match) → slice_get stages k ≡ Some old → SameSlots new old
      → slice_get stages 0 ≡ Some first
      → (f : List Match) × (slice_get (set stages k new ++ more) 0 ≡ Some f) × SameSlots f first
  first-new k [] old first at same is = absurd (none-some first is)
  first-new zero (s ∷ stages) old first at same is = grind (arith, common_steps)
  first-new (suc k) (s ∷ stages) old first at same is = (s, refl, subst (SameSlots s) (same_Some s first is) (slots-refl s))

pub follow-drop : (k : ℕ) (stages : List (List Match)) → FollowOn stages → FollowOn (drop k stages)
follow-drop zero stages h = h
follow-drop (suc k) [] h = tt
follow-drop (suc k) (s ∷ stages) h = follow-drop k stages ((follow-split s stages).0 h).1

pub last-drop : (k : ℕ) (stages : List (List Match)) → k < length stages → last_match stages ≡ last_match (drop k stages)
last-drop zero stages within = refl
last-drop (suc k) [] within = absurd (omega arith)
last-drop (suc k) (s ∷ more) within = grind (arith, common_steps, last-after, last-drop k more)

pub drop-here : (k : ℕ) (stages : List (List Match)) (old : List Match) → slice_get stages k ≡ Some old
    → drop k stages ≡ old ∷ drop (suc k) stages
drop-here k [] old at = absurd (none-some old at)
drop-here zero (s ∷ stages) old at = ap (λ (x : List Match). x ∷ stages) (same_Some s old at)
drop-here (suc k) (s ∷ stages) old at = drop-here k stages old at

-- ---- an event in the playoff

module _ (e : EventValue) (p : Phase) (stages : List (List Match)) where
  abbrev pub in_playoff : EventValue
  in_playoff = record e { phase = p; bracket = record { stages = stages } }

  pub sound-playoff : IsSoundButForSeeds e → IsPlayoff p → AllRoundsDone e → IsBracket (numbers e.players) e.cut stages
      → (p ≡ Finished → IsDecided stages) → (p ≡ Playoff → IsDecided stages → ⊥) → IsSoundButForSeeds in_playoff
  sound-playoff h over done bracket decided undecided =
      let begun : e.phase ≡ Enrolling → ⊥ = λ is.
      (let none = ap length (h.rounds.enrolling is) in let all = done.0 in let some = h.set_up.rounds.0 in omega arith) in
      let two = h.players.started begun in
      record {
        set_up = h.set_up;
        players = grind (arith, h.players);
        rounds = grind (arith, h.rounds);
        missed = h.missed;
        bracket = grind arith;
      }

-- stages that follow on one another end, so that no stage comes after them
pub follow-never : (l : List Match) (later : List (List Match)) (ns : List Match) → FollowOn (l ∷ later)
    → FollowOn (l ∷ (later ++ ns ∷ [])) → ⊥
follow-never l [] ns f h = let one = f h.0 in let two = h.1 in omega arith
follow-never l (t ∷ later) ns f h = follow-never t later ns f.3 h.3

-- an event with a stage is in the playoff
pub started : (e : EventValue) → IsSoundButForSeeds e → (e.bracket.stages ≡ [] → ⊥) → IsPlayoff e.phase
started e h some = grind (arith, common_steps)

-- ---- the playoff begins

module _ (e : EventValue) (ms : List Match) (h : IsSoundButForSeeds e) where
  module _ (none : e.bracket.stages ≡ []) where
    alone : e.bracket.stages ++ ms ∷ [] ≡ ms ∷ []
    alone = ap (λ (ss : List (List Match)). ss ++ ms ∷ []) none

    pub sound-opening : AllRoundsDone e → IsBracket (numbers e.players) e.cut (ms ∷ []) → (IsDecided (ms ∷ []) → ⊥)
        → IsSoundButForSeeds (with_bracket e ms)
    sound-opening done bracket undecided =
        rw alone (sound-playoff e Playoff (ms ∷ []) h (inl refl) done bracket (grind arith) (λ _. undecided))

    pub opening-undecided : IsSoundButForSeeds (with_bracket e ms) → IsDecided (ms ∷ []) → ⊥
    opening-undecided s = subst (λ (ss : List (List Match)). IsDecided ss → ⊥) alone (s.bracket.undecided refl)

  -- no stage stands before
  pub opening-first : IsSoundButForSeeds (with_bracket e ms) → length e.bracket.stages ≡ 0
  opening-first s = by e.bracket.stages refl
    where
      by : (ss : List (List Match)) → e.bracket.stages ≡ ss → length e.bracket.stages ≡ 0
      by [] is = ap length is
      by (l ∷ later) is =
          let over = started e h (grind arith) in
          absurd (follow-never l later ms (rw is at (h.bracket.bracket over).follows) (rw is at (s.bracket.bracket (inl refl)).follows))

pub no-stage : (stages : List (List Match)) → length stages ≡ 0 → stages ≡ []
no-stage stages is = nil_from_length stages is

pub true-empty : (n : ℕ) (b : Bool) → b ≡ (n == 0) → b ≡ true → n ≡ 0
true-empty n b test is = let zero : (n == 0) ≡ true = sym test ∙ is in grind (arith, nat_tests)

pub not-true : (b : Bool) → (b ≡ true → ⊥) → not b ≡ true
not-true b h = grind arith

pub true-not : (b : Bool) → not b ≡ true → b ≡ true → ⊥
true-not b n e = grind arith

-- ---- what may open the playoff

all-open : (ms : List Match) → 0 < length ms → AllByRecursion (λ (m : Match). m.score ≡ None) ms → is_complete ms ≡ true → ⊥
all-open [] some free h = absurd (omega arith)
all-open (m ∷ ms) some free h = grind (arith, common_steps)

open-lawful : (m : Match) → m.score ≡ None → Lawful m
open-lawful m free = grind arith

some-cut : (cut : ℕ) → is_lawful_cut cut ≡ true → 0 < cut → 2 ≤ cut
some-cut cut set some = grind (arith, nat_tests)

pub opening-fits : (e : EventValue) (ms : List Match) → IsSoundButForSeeds e → IsOpening e ms → Fits e (AddBracket ms)
opening-fits e ms h o =
    let two = some-cut e.cut h.set_up.cut o.cut in
    let slots = o.slots in
    let some : 0 < length ms = omega arith in
    let free = all-open ms some (recursion_from_All (λ (m : Match). m.score ≡ None) ms o.unplayed) in
    let lawful = All-weaker (λ (m : Match). m.score ≡ None) Lawful open-lawful ms o.unplayed in
    record { named = tt; sound = sound-opening e ms h (h.bracket.none (inr o.swiss)) o.done (grind (arith, common_steps)) (grind arith) }
