-- The slots of a next stage, and which stages follow on one another.
use Rattle.er_event.proofs.Prelude.{FollowOn, IsDecided, SameSlots, is_over, last_match, next_stage, winner, is_complete, seats, Match}
use Rattle.er_event.proofs.Prelude.{Bool}
use Rattle.er_event.proofs.Prelude.{IsTrue, List, None, Option, Some, [], ap, ap₂, arith, drop, flat_map, get_or, length, refl, suc, sym}
use Rattle.er_event.proofs.Prelude.{true, zero, ℕ, ◌*◌, ◌+◌, ◌-◌, ◌/◌, ◌<◌, ◌↔◌, ◌∙◌, ◌∷◌, ◌≡◌, ◌≤◌, common_steps, drop_more, length-drop}
use Rattle.er_event.proofs.Prelude.{slice_get}
use Rattle.er_event.proofs.SeatLemmas.{same-length}

-- ---- the winners, slot by slot

pub length-next : (ms : List Match) → (length (next_stage ms) * 2 ≤ length ms) × (length ms ≤ length (next_stage ms) * 2 + 1)
length-next [] = (omega arith, omega arith)
length-next (m ∷ []) = (omega arith, omega arith)
length-next (m ∷ n ∷ more) = let rest = length-next more in (omega arith, omega arith)

pub same-seats : (ms ns : List Match) → SameSlots ms ns ↔ (flat_map seats ms ≡ flat_map seats ns)
same-seats [] [] = (λ _. refl, λ _. tt)
same-seats [] (n ∷ ns) = (λ h. absurd h, λ e. absurd (cc))
same-seats (m ∷ ms) [] = (λ h. absurd h, λ e. absurd (cc))
same-seats (m ∷ ms) (n ∷ ns) = let rest = same-seats ms ns in
    (λ h. ap₂ ◌∷◌ h.0.0 (ap₂ ◌∷◌ h.0.1 (rest.0 h.1)), λ e. (((cc), (cc)), rest.1 (cc)))

pub slots-refl : (ms : List Match) → SameSlots ms ms
slots-refl ms = (same-seats ms ms).1 refl

pub length-same : (ms ns : List Match) → SameSlots ms ns → length ms ≡ length ns
length-same ms ns h = same-length ms ns ((same-seats ms ns).0 h)

pub winners-length : (ms ns : List Match) → SameSlots ns (next_stage ms) → length ns ≡ length ms / 2
winners-length ms ns h = let count = length-same ns (next_stage ms) h in let next = length-next ms in omega arith

-- the winners still to be seen
abbrev pub Winners : List Match → List Match → ℕ → Type 0
Winners ms ns i = SameSlots (drop i ns) (next_stage (drop (2 * i) ms))

module _ (ms ns : List Match) (half : length ns ≡ length ms / 2) (i : ℕ) where
  module _ (n x y d : Match) (within : i < length ns) (there : n ≡ get_or ns i n) (first : x ≡ get_or ms (2 * i) x)
      (second : y ≡ get_or ms (2 * i + 1) y) where
    ns-here : drop i ns ≡ n ∷ drop (i + 1) ns
    ns-here = drop_more ns i n within ∙ ap (λ (k : Match). k ∷ drop (i + 1) ns) (sym there)

    ms-here : drop (2 * i) ms ≡ x ∷ y ∷ drop (2 * (i + 1)) ms
    ms-here = grind (arith, common_steps)

    winners-here : Winners ms ns i ≡ (((n.a ≡ winner x) × (n.b ≡ winner y)) × Winners ms ns (i + 1))
    winners-here = ap₂ (λ (ks ls : List Match). SameSlots ks (next_stage ls)) ns-here ms-here

    pub winners-more : n.a ≡ winner x → n.b ≡ winner y → Winners ms ns i ↔ Winners ms ns (i + 1)
    winners-more a b = (λ h. (rw winners-here at h).1, λ h. rw winners-here ((a, b), h))

  pub winners-end : length ns ≤ i → Winners ms ns i
  winners-end end = none (drop i ns) (drop (2 * i) ms) (omega (arith, length-drop i ns)) (omega (arith, length-drop (2 * i) ms))
    where
      none : (ks ls : List Match) → length ks ≡ 0 → length ls < 2 → SameSlots ks (next_stage ls)
      none ks ls a b = grind (arith, common_steps)

-- ---- stage by stage

-- what comes after a stage fits it
abbrev pub Stands : List Match → Option (List Match) → Type 0
Stands stage None = IsTrue (is_complete stage) → length stage ≡ 1
Stands stage (Some next) = IsTrue (is_complete stage) × (1 < length stage) × SameSlots next (next_stage stage)

pub follow-split : (s : List Match) (rest : List (List Match)) → FollowOn (s ∷ rest) ↔ (Stands s (slice_get rest 0) × FollowOn rest)
follow-split s [] = (λ h. (h, tt), λ h. h.0)
follow-split s (next ∷ more) = (λ h. ((h.0, h.1, h.2), h.3), λ h. (h.0.0, h.0.1, h.0.2, h.1))

-- what a check of one stage says, at the stages that it read
pub stands : (a s : List Match) (o p : Option (List Match)) (r t : Bool) → o ≡ p → a ≡ s → t ≡ r → (IsTrue r ↔ Stands a p)
    → IsTrue t ↔ Stands s o
stands a s o p r t same read is h = grind (arith, common_steps)

-- ---- the last stage

pub over-counted : (stage : List Match) → IsDecided (stage ∷ []) ↔ (is_over stage ≡ true)
over-counted stage = grind (arith, common_steps)

pub last-after : (stage next : List Match) (more : List (List Match)) → last_match (stage ∷ next ∷ more) ≡ last_match (next ∷ more)
last-after stage next more = grind arith

last-at : (stages : List (List Match)) (i : ℕ) (last : List Match) → i + 1 ≡ length stages → last ≡ get_or stages i last
    → last_match stages ≡ last_match (last ∷ [])
last-at [] i last end is = absurd (omega arith)
last-at (s ∷ []) i last end is = grind (arith, common_steps)
last-at (s ∷ t ∷ more) zero last end is = absurd (omega arith)
last-at (s ∷ t ∷ more) (suc i) last end is = last-after s t more ∙ last-at (t ∷ more) i last (omega arith) is

pub decided-last : (stages : List (List Match)) (last : List Match) → 1 ≤ length stages → last ≡ get_or stages (length stages - 1) last
    → IsDecided stages ↔ (is_over last ≡ true)
decided-last stages last some is = grind (arith, common_steps, last-at, over-counted)
