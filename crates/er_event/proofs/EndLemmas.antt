-- A stage that is read with a new score, and when it may be the last.
use Rattle.er_event.proofs.Prelude.{FollowOn, is_over, slot_at, slot_in, IsEnd, one_more, match_with_score, scored_slot, stage_of}
use Rattle.er_event.proofs.Prelude.{with_bracket_score}
use Rattle.er_event.proofs.Prelude.{EventValue, IsSoundButForSeeds, Phase, Finished, Match, Games, All, Bool, Bor, List, None, Option, Some}
use Rattle.er_event.proofs.Prelude.{[], ap, arith, cond, drop, false, get_or, is_some, length, option_map, suc, take, true, zero, ℕ, ◌++◌}
use Rattle.er_event.proofs.Prelude.{◌-◌, ◌<◌, ◌↔◌, ◌∙◌, ◌∷◌, ◌≡◌, ◌≤◌, set, common_steps, All-from_recursion, recursion_from_All, drop_all}
use Rattle.er_event.proofs.Prelude.{get_or_from_slice_get, gets, none-some, same_Some, slice_get_read, slice_get_within, AllByRecursion}
use Rattle.er_event.proofs.Prelude.{slice_get}
use Rattle.std.proofs.{Math.Bool.beq, lemmas.List.set-append_left}
use Rattle.er_event.proofs.{BracketLemmas.Lawful, PlayoffLemmas.in_playoff, SlotLemmas.{slots-refl, winners-length}}
use Rattle.er_event.proofs.SlotScoreLemmas.{FoundSlot, all-at, found-slot, new_stage, new_stage-is, over}

-- ---- the copy of a stage, with open matches after it

pub set-copy : (stage copied rest : List Match) (at : ℕ) (m : Match) → copied ≡ stage → at < length stage
    → take (length stage) (set (copied ++ rest) at m) ≡ set stage at m
set-copy stage copied rest at m same within = grind (arith, common_steps, set-append_left)

-- ---- how many slots a stage has

few : (stages : List (List Match)) (s : List Match) → FollowOn (s ∷ stages) → length s ≤ 4
    → AllByRecursion (λ (t : List Match). length t ≤ 4) (s ∷ stages)
few [] s f h = (h, tt)
few (t ∷ more) s f h = (h, few more t f.3 (omega (arith, winners-length s t f.2)))

few-slots : (stages : List (List Match)) (first : List Match) → slice_get stages 0 ≡ Some first → FollowOn stages → length first ≤ 4
    → All (λ (t : List Match). length t ≤ 4) stages
few-slots [] first at f h = absurd (none-some first at)
few-slots (s ∷ stages) first at f h = grind (arith, common_steps, All-from_recursion, few, same_Some)

-- ---- the end

pub same-bools : (a b : Bool) → ((a ≡ true) ↔ (b ≡ true)) → a ≡ b
same-bools a b h = grind arith

module _ (stage : List Match) (over : Bool) where
  pub none-over : IsEnd stage None over → over ≡ is_over stage
  none-over end = grind (arith, common_steps)

  module _ (next : List Match) where
    pub some-lawful : IsEnd stage (Some next) over → All Lawful next
    some-lawful end = (recursion_from_All (λ (ms : List Match). All Lawful ms) (next ∷ []) end.scores).0

-- ---- the slot as it is read

drop-some : {X : Type 0} (i : ℕ) (xs : List X) (x : X) → slice_get xs i ≡ Some x → drop i xs ≡ x ∷ drop (suc i) xs
drop-some i [] x at = absurd (none-some x at)
drop-some zero (y ∷ xs) x at = ap (λ z. z ∷ xs) (same_Some y x at)
drop-some (suc i) (y ∷ xs) x at = drop-some i xs x at

next-place : (stage : ℕ) → 1 ≤ stage → suc (stage - 1) ≡ stage
next-place stage low = omega arith

module _ (e : EventValue) (stage slot : ℕ) (m : Match) (is : slot_at e stage slot ≡ Some m) (h : IsSoundButForSeeds e) where
  abbrev f : FoundSlot e stage slot m
  f = found-slot e stage slot m is

  abbrev old : List Match
  old = stage_of e.bracket.stages stage

  pub low-stage : 1 ≤ stage
  low-stage = f.low.0

  few-old : length old ≤ 4
  few-old = grind (arith, common_steps, few-slots, over e (stage - 1) old old f.at (slots-refl old) h, all-at)

  pub behind-none : length e.bracket.stages ≤ stage → drop (suc (stage - 1)) e.bracket.stages ≡ []
  behind-none none = drop_all (suc (stage - 1)) e.bracket.stages (omega (arith, low-stage))

  pub behind-some : (l : List Match) → slice_get e.bracket.stages stage ≡ Some l
      → drop (suc (stage - 1)) e.bracket.stages ≡ l ∷ drop (suc stage) e.bracket.stages
  behind-some l at = rw (next-place stage low-stage) (drop-some stage e.bracket.stages l at)

  module _ (stages : List (List Match)) (list : stages ≡ e.bracket.stages) (i j : ℕ) (same : i ≡ stage) (place : j ≡ slot) where
    pub stage-within : i - 1 < length stages
    stage-within = rw (list, same) (slice_get_within e.bracket.stages (stage - 1) old f.at)

    module _ (x : List Match) (there : x ≡ get_or stages (i - 1) x) where
      pub stage-is : x ≡ old
      stage-is = there ∙ (rw (list, same) (get_or_from_slice_get e.bracket.stages (stage - 1) old x f.at))

      pub stage-few : length x ≤ 4
      stage-few = rw stage-is few-old

      pub slot-within : j - 1 < length x
      slot-within = let within = slice_get_within old (slot - 1) m f.here in let count = ap length stage-is in omega arith

      pub slot-set : (score : Games) (new : List Match) → new ≡ set x (j - 1) (match_with_score score m)
          → new ≡ new_stage e stage slot score m is h
      slot-set score new written = grind (arith, common_steps, set, stage-is, new_stage-is)

pub beq-same : (a b : Bool) → beq a b ≡ true → a ≡ b
beq-same a b h = grind arith

pub same-beq : (a b : Bool) → a ≡ b → beq a b ≡ true
same-beq a b h = grind arith

pub later-read : (e : EventValue) (stage : ℕ) (stages : List (List Match)) → stages ≡ e.bracket.stages → (i : ℕ) → i ≡ stage
    → (l : List Match) → i < length stages → l ≡ get_or stages i l → slice_get e.bracket.stages stage ≡ Some l
later-read e stage stages list i same l within is = grind (arith, common_steps, slice_get_read)

pub none-map : (o : Option (Bor (List Match))) → is_some o ≡ false → option_map (λ (n : Bor (List Match)). n.now) o ≡ None
none-map o none = grind arith

-- ---- the slot as it is written

get-more : {X : Type 0} (i : ℕ) (xs ys : List X) (x : X) → slice_get xs i ≡ Some x → slice_get (xs ++ ys) i ≡ Some x
get-more i xs ys x at = grind (arith, common_steps, gets)

slot-of : (stages : List (List Match)) (stage slot : ℕ) (ms : List Match) (m : Match) → 1 ≤ stage → 1 ≤ slot
    → slice_get stages (stage - 1) ≡ Some ms → slice_get ms (slot - 1) ≡ Some m → slot_in stages stage slot ≡ Some m
slot-of stages stage slot ms m a b at here = grind (arith, common_steps)

module _ (e : EventValue) (stage slot : ℕ) (m : Match) (is : slot_at e stage slot ≡ Some m) (more stages : List (List Match))
    (list : stages ≡ e.bracket.stages ++ more) where
  abbrev g : FoundSlot e stage slot m
  g = found-slot e stage slot m is

  read-more : slice_get (e.bracket.stages ++ more) (stage - 1) ≡ Some (stage_of e.bracket.stages stage)
  read-more = get-more (stage - 1) e.bracket.stages more (stage_of e.bracket.stages stage) g.at

  pub slot-more : slot_in stages stage slot ≡ Some m
  slot-more = rw list (slot-of (e.bracket.stages ++ more) stage slot (stage_of e.bracket.stages stage) m g.low.0 g.low.1 read-more g.here)

  pub scored-more : (score : Games) → set stages (stage - 1) (scored_slot (stage_of stages stage) slot score) ≡ set e.bracket.stages
      (stage - 1) (scored_slot (stage_of e.bracket.stages stage) slot score) ++ more
  scored-more score = grind (arith, common_steps, slice_get_within, get_or_from_slice_get, read-more, set, set-append_left)

pub written-slot : (e : EventValue) (stage slot : ℕ) (score : Games) (next : Option (List Match)) (finished : Bool) (m : Match)
    → slot_at e stage slot ≡ Some m
    → (stages made : List (List Match)) → stages ≡ e.bracket.stages ++ one_more next
    → made ≡ set stages (stage - 1) (scored_slot (stage_of stages stage) slot score)
    → (p : Phase) → p ≡ cond finished Finished e.phase → in_playoff e p made ≡ with_bracket_score e stage slot score next finished
written-slot e stage slot score next finished m is stages made list written p phase =
    ap (λ (q : Phase). in_playoff e q made) phase ∙ ap (λ (ss : List (List Match)). in_playoff e (cond finished Finished e.phase) ss)
    (written ∙ scored-more e stage slot m is (one_more next) stages list score)
