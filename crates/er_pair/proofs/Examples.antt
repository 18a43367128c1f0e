-- Examples of the definitions, which compute, and the limits as the rules have them.
use Rattle.std.specs.Prelude.{◌≡◌, ℕ, ◌==◌, ◌&&◌, ◌||◌, Bool, false, List, [], ◌∷◌, Some, None, refl}
use Rattle.er_event.specs.{declared.matches.Match.Match, Bracket.open_match}
use Rattle.er_pair.specs.{declared.meetings.TheConstants.NUMBERS, declared.pairings.TheConstants.MAX_STEPS}
use Rattle.er_pair.specs.{Pairing.{all_positions, round_of}, Steps.Needs}
use Rattle.er_pair.specs.inside.Search.{search_of, search_within, tries, after_step}
use Rattle.er_pair.proofs.Entries.{needs_steps}

-- ---- each limit as the rules have it, so that the code's constant can't move from it

pub steps_of_a_search : MAX_STEPS ≡ 1000000
steps_of_a_search = refl

-- of 512 players, and 0 for the bye
pub numbers_that_may_meet : NUMBERS ≡ 513
numbers_that_may_meet = refl

-- ---- searches

-- just these two have met
abbrev met_only : ℕ → ℕ → ℕ → ℕ → Bool
met_only a b p q = (p == a && q == b) || (p == b && q == a)

-- 1 with 2 leaves 3 and 4, who have met; then 1 with 3, and 2 with 4
pub goes_back : search_of (met_only 3 4) (1 ∷ 2 ∷ 3 ∷ 4 ∷ []) ≡ (Some ((1, 3) ∷ (2, 4) ∷ []), 3)
unfolding search_of search_within tries after_step
goes_back = refl

-- one who has had the bye isn't given it again
pub another_bye : search_of (met_only 3 0) (1 ∷ 2 ∷ 3 ∷ 0 ∷ []) ≡ (Some ((1, 3) ∷ (2, 0) ∷ []), 3)
unfolding search_of search_within tries after_step
another_bye = refl

pub nobody_has_met : search_of (λ p q. false) (1 ∷ 2 ∷ 3 ∷ 4 ∷ []) ≡ (Some ((1, 2) ∷ (3, 4) ∷ []), 2)
unfolding search_of search_within tries after_step
nobody_has_met = refl

-- a met pair isn't a candidate, and takes no step
pub no_pairing : search_of (met_only 1 2) (1 ∷ 2 ∷ []) ≡ (None, 0)
unfolding search_of search_within tries after_step
no_pairing = refl

-- ---- the steps that an order needs, by the definition

abbrev NeedsJust : (ℕ → ℕ → Bool) → List ℕ → ℕ → Type 0
NeedsJust met order count = (steps : ℕ) → Needs met order (all_positions order) steps → steps ≡ count

-- 1 with 2 and with 3 is tried, and then each time what is left
pub steps_of_going_back : NeedsJust (met_only 3 4) (1 ∷ 2 ∷ 3 ∷ 4 ∷ []) 3
unfolding search_of search_within tries after_step
steps_of_going_back = needs_steps (met_only 3 4) (1 ∷ 2 ∷ 3 ∷ 4 ∷ [])

pub steps_where_nobody_has_met : NeedsJust (λ p q. false) (1 ∷ 2 ∷ 3 ∷ 4 ∷ []) 2
unfolding search_of search_within tries after_step
steps_where_nobody_has_met = needs_steps (λ p q. false) (1 ∷ 2 ∷ 3 ∷ 4 ∷ [])

pub steps_of_no_pairing : NeedsJust (met_only 1 2) (1 ∷ 2 ∷ []) 0
unfolding search_of search_within tries after_step
steps_of_no_pairing = needs_steps (met_only 1 2) (1 ∷ 2 ∷ [])

-- 4 has met all others: 1 is tried with 2 and with 3, and each time nothing is left to try
pub steps_of_one_who_has_met_all : NeedsJust (λ p q. p == 4 || q == 4) (1 ∷ 2 ∷ 3 ∷ 4 ∷ []) 2
unfolding search_of search_within tries after_step
steps_of_one_who_has_met_all = needs_steps (λ p q. p == 4 || q == 4) (1 ∷ 2 ∷ 3 ∷ 4 ∷ [])

-- ---- the round of a pairing, by positions of the order: tables in turn, and then the bye, which is won 2-0

abbrev bye : ℕ → Match
bye player = record { a = player; b = 0; score = Some (record { x = 2; y = 0; d = 0 }) }

pub round_of_three : round_of (2 ∷ 1 ∷ 3 ∷ 0 ∷ []) ((0, 3) ∷ (1, 2) ∷ []) ≡ open_match 1 3 ∷ bye 2 ∷ []
round_of_three = refl
