-- Examples of the definitions, which compute.
use Rattle.std.proofs.Common.{◌≡◌, ℕ, [], ◌∷◌, Some, None, refl}
use Rattle.er_event.specs.{declared.matches.Match.Match, Bracket.{open_match, next_stage, last_match, winner}}
use Rattle.er_bracket.specs.Seeds.{first_stage}

-- a match by two games to none
won : ℕ → ℕ → Match
won a b = record { a = a; b = b; score = Some (record { x = 2; y = 0; d = 0 }) }

-- a match by no game to two
lost : ℕ → ℕ → Match
lost a b = record { a = a; b = b; score = Some (record { x = 0; y = 2; d = 0 }) }

eight_seeds : first_stage (11 ∷ 12 ∷ 13 ∷ 14 ∷ 15 ∷ 16 ∷ 17 ∷ 18 ∷ []) ≡ open_match 11 18 ∷ open_match 14 15 ∷ open_match 12 17 ∷ open_match
    13 16 ∷ []
eight_seeds = refl

four_seeds : first_stage (5 ∷ 6 ∷ 1 ∷ 3 ∷ []) ≡ open_match 5 3 ∷ open_match 6 1 ∷ []
four_seeds = refl

two_seeds : first_stage (7 ∷ 2 ∷ []) ≡ open_match 7 2 ∷ []
two_seeds = refl

four_winners : next_stage (won 11 18 ∷ won 14 15 ∷ won 12 17 ∷ won 13 16 ∷ []) ≡ open_match 11 14 ∷ open_match 12 13 ∷ []
unfolding won
four_winners = refl

-- the second-named player won the final
last_winner : winner (lost 5 1) ≡ 1
unfolding lost
last_winner = refl

-- the final is the only match of the last stage
the_final : last_match ((won 5 3 ∷ lost 6 1 ∷ []) ∷ (open_match 5 1 ∷ []) ∷ []) ≡ Some (open_match 5 1)
the_final = refl

no_final : last_match ((open_match 5 3 ∷ open_match 6 1 ∷ []) ∷ []) ≡ None
no_final = refl
