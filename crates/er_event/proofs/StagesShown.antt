-- The stages of a sound event can be shown by rows, and are few.
use Rattle.er_event.proofs.Prelude.{FollowOn, SameSlots, next_stage, open_match, winner, match_with_score, seats, is_playoff_score}
use Rattle.er_event.proofs.Prelude.{IsBracket}
use Rattle.er_event.proofs.Prelude.{is_lawful_cut, Match, Games, FitStageRows, FitsSlotRow, All, Contains, IfSome, IsTrue, List, Option, []}
use Rattle.er_event.proofs.Prelude.{ap, arith, flat_map, length, subst, suc, sym, ℕ, ◌/◌, ◌<◌, ◌∙◌, ◌∷◌, ◌≡◌, ◌≤◌, nat_tests, common_steps}
use Rattle.er_event.proofs.Prelude.{All-cons, All-nil, none-some, same_Some, range_with_len}
use Rattle.er_event.proofs.{SeatLemmas.{All-seats, seats-All}, ShownLemmas.below, SlotLemmas.{length-next, length-same, same-seats}}
use Rattle.er_event.specs.Bracket.{winner_with}

-- the two numbers are 16 bits wide
abbrev IsNarrow : Match → Type 0
IsNarrow m = (m.a < 65536) × (m.b < 65536)

abbrev IsScored : Match → Type 0
IsScored m = IfSome m.score (λ s. IsTrue (is_playoff_score s))

winner_narrow : (m : Match) (score : Option Games) → IsNarrow m → winner_with m score < 65536
winner_narrow m score narrow = grind (arith, common_steps)

next_narrow : (ms : List Match) → All IsNarrow ms → All IsNarrow (next_stage ms)
next_narrow [] all = All-nil IsNarrow
next_narrow (m ∷ []) all = All-nil IsNarrow
next_narrow (m ∷ n ∷ more) all =
    All-cons IsNarrow (open_match (winner m) (winner n)) (next_stage more)
    (winner_narrow m m.score (all 0 m (omega arith)), winner_narrow n n.score (all 1 n (omega arith)))
    (next_narrow more (λ k d below. all (suc (suc k)) d (omega arith)))

same_narrow : (ms ns : List Match) → SameSlots ms ns → All IsNarrow ns → All IsNarrow ms
same_narrow ms ns same all = seats-All (λ k. k < 65536) ms
    (subst (All (λ k. k < 65536)) (sym ((same-seats ms ns).0 same)) (All-seats (λ k. k < 65536) ns all))

all_shown : (ms : List Match) → All IsNarrow ms → All IsScored ms → All FitsSlotRow ms
all_shown ms narrow match_with_score k d below =
    record { first = (narrow k d below).0; second = (narrow k d below).1; score = match_with_score k d below }

follow_shown : (s : List Match) (more : List (List Match)) → 0 < length s → All IsNarrow s → FollowOn (s ∷ more)
    → All (λ (ms : List Match). All IsScored ms) (s ∷ more) → All FitStageRows (s ∷ more)
follow_shown s [] some narrow follows scores = grind (arith, common_steps)
follow_shown s (next ∷ more) some narrow follows scores =
    let count = length-same next (next_stage s) follows.2 in
    let halved = length-next s in
    All-cons FitStageRows s (next ∷ more) (record { some = some; each = all_shown s narrow (scores 0 s (omega arith)) })
    (follow_shown next more (omega (arith, follows.1)) (same_narrow next (next_stage s) follows.2 (next_narrow s narrow)) follows.3
    (λ k d below. scores (suc k) d (omega arith)))

follow_few : (s : List Match) (more : List (List Match)) → length s ≤ 4 → FollowOn (s ∷ more) → length (s ∷ more) ≤ 3
follow_few s [] few follows = omega arith
follow_few s (next ∷ more) few follows = grind (arith, common_steps, length-same, length-next)

all_seats : (n : ℕ) → n ≤ 512 → (ms : List Match) → All (λ no. Contains (range_with_len 1 n) no) (flat_map seats ms) → All IsNarrow ms
all_seats n few ms known k d at =
    let both = seats-All (λ no. Contains (range_with_len 1 n) no) ms known k d at in (below n few _ both.0, below n few _ both.1)

module _ (n cut : ℕ) (few : n ≤ 512) (limit : IsTrue (is_lawful_cut cut)) where
  at_most_8 : cut ≤ 8
  at_most_8 = grind (arith, nat_tests)

  even : 0 < cut → 2 ≤ cut
  even some = grind (arith, nat_tests)

  pub stages_shown : (stages : List (List Match)) → IsBracket (range_with_len 1 n) cut stages
      → All FitStageRows stages × (length stages ≤ 3)
  stages_shown [] h = absurd (none-some h.first h.is_first)
  stages_shown (s ∷ more) h =
      let same : s ≡ h.first = same_Some s h.first h.is_first in
      let count : length s ≡ cut / 2 = ap length same ∙ h.slots in
      let low = even h.cut_is_played in
      let high = at_most_8 in
      let narrow = all_seats n few s (subst (λ (ms : List Match). All (λ no. Contains (range_with_len 1 n) no) (flat_map seats ms))
      (sym same) h.known_players) in
      (follow_shown s more (omega arith) narrow h.follows h.scores, follow_few s more (omega arith) h.follows)
