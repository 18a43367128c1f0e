-- When stages are a bracket.
use Rattle.er_event.proofs.Prelude.{FollowOn, is_known, seats, is_playoff_score, IsBracket, Match, All, AllPairs, Bool, Contains, IfSome}
use Rattle.er_event.proofs.Prelude.{IsTrue, List, Some, [], arith, flat_map, length, refl, subst, sym, true, ℕ, ◌&&◌, ◌/◌, ◌<◌, ◌∙◌, ◌∷◌}
use Rattle.er_event.proofs.Prelude.{◌≡◌, ◌≢◌, common_steps, All-from_recursion, All-weaker, recursion_from_All, same_Some, AllByRecursion}
use Rattle.er_event.proofs.Prelude.{false, list_all, range_with_len, slice_get, true≢false}
use Rattle.er_event.proofs.RoundLemmas.{contains_known, known_contains, of-All}
use Rattle.er_event.specs.Match.{is_lawful_slot_score}

-- ---- who is known

both : (a b : Bool) → (a && b) ≡ true → (a ≡ true) × (b ≡ true)
both true b is = (refl, is)
both false b is = absurd (true≢false (sym is))

module _ (count : ℕ) where
  abbrev Known : ℕ → Type 0
  Known n = Contains (range_with_len 1 count) n

  abbrev pub are_known : Match → Bool
  are_known m = is_known count m.a && is_known count m.b

  seats-known : (ms : List Match) → list_all are_known ms ≡ true → AllByRecursion Known (flat_map seats ms)
  seats-known [] h = tt
  seats-known (m ∷ ms) h =
      let all = both (are_known m) (list_all are_known ms) h in
      let two = both (is_known count m.a) (is_known count m.b) all.0 in
      (known_contains count m.a two.0, (known_contains count m.b two.1, seats-known ms all.1))

  known-seats : (ms : List Match) → AllByRecursion Known (flat_map seats ms) → list_all are_known ms ≡ true
  known-seats [] h = refl
  known-seats (m ∷ ms) h = grind (arith, common_steps, contains_known, known-seats ms h.1.1)

  pub Known-of : (ms : List Match) → list_all are_known ms ≡ true → All Known (flat_map seats ms)
  Known-of ms h = All-from_recursion Known (flat_map seats ms) (seats-known ms h)

  pub of-Known : (ms : List Match) → All Known (flat_map seats ms) → list_all are_known ms ≡ true
  of-Known ms h = known-seats ms (recursion_from_All Known (flat_map seats ms) h)

-- ---- scores

abbrev pub Lawful : Match → Type 0
Lawful m = IfSome m.score (λ s. IsTrue (is_playoff_score s))

abbrev pub are_lawful : List Match → Bool
are_lawful ms = list_all (λ (m : Match). is_lawful_slot_score m.score) ms

pub of-Lawful : (ms : List Match) → All Lawful ms → are_lawful ms ≡ true
of-Lawful ms h = grind (arith, common_steps, of-All, All-weaker)

pub of-AllLawful : (stages : List (List Match)) → All (λ (stage : List Match). All Lawful stage) stages → list_all are_lawful stages ≡ true
of-AllLawful stages h = grind (arith, common_steps, of-All, All-weaker)

-- ---- the whole

abbrev pub IsFirst : ℕ → ℕ → List Match → Type 0
IsFirst count cut first = (length first ≡ cut / 2) × All (λ n. Contains (range_with_len 1 count) n) (flat_map seats first) × AllPairs
    (λ p q. p ≢ q) (flat_map seats first)

pub is-bracket : (count cut : ℕ) (stages : List (List Match)) (first : List Match) → 0 < cut → slice_get stages 0 ≡ Some first
    → IsFirst count cut first → list_all are_lawful stages ≡ true → FollowOn stages → IsBracket (range_with_len 1 count) cut stages
is-bracket count cut stages first some at is lawful follows = grind (arith, common_steps)

pub bracket-first : (count cut : ℕ) (stages : List (List Match)) (first : List Match) → slice_get stages 0 ≡ Some first
    → IsBracket (range_with_len 1 count) cut stages → IsFirst count cut first
bracket-first count cut stages first at h =
    let same = same_Some h.first first (sym h.is_first ∙ at) in subst (IsFirst count cut) same (h.slots, h.known_players, h.seated_once)

pub bracket-same : (known seen : List ℕ) (cut read : ℕ) (stages given : List (List Match)) → known ≡ seen → cut ≡ read → stages ≡ given
    → IsBracket known cut stages → IsBracket seen read given
bracket-same known seen cut read stages given a b c h = grind (arith, common_steps)
