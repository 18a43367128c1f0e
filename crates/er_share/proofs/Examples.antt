-- Worked examples 11, 12, 34 and 46, computed from the definitions, and the limits.
use Rattle.std.proofs.Common.{◌≡◌, ℕ, ◌*◌, true, List, [], ◌∷◌, map, replicate, refl}
use Rattle.std.specs.Ordering.{is_gt}
use Rattle.er_share.specs.{declared.TheConstants.{MAX_ROUNDS, MAX_GAMES, BASE, WHOLE}, Fraction.{Fraction, fraction, IsSame, fraction_cmp}}
use Rattle.er_share.specs.Fraction.{minimum_percentage, percentage, average, hundredths}

-- each limit as the rules have it, so that the code's constant can't move from it

pub twelve_rounds : MAX_ROUNDS ≡ 12
twelve_rounds = refl

pub seventy_two_games : MAX_GAMES ≡ 72
seventy_two_games = refl

pub parts_of_rounds : BASE ≡ 27720
parts_of_rounds = refl

pub parts_of_one_whole : WHOLE ≡ 467695463088029758788026659430592000
parts_of_one_whole = refl

-- ---- the examples

abbrev match_win : ℕ → ℕ → Fraction
match_win points rounds = percentage points (3 * rounds)

abbrev game_win : ℕ → ℕ → Fraction
game_win points games = percentage points (3 * games)

pub printed_match_wins : map hundredths (match_win 16 8 ∷ match_win 7 8 ∷ match_win 10 7 ∷ match_win 9 5 ∷ match_win 0 0 ∷ match_win 36 12
    ∷ match_win 31 12 ∷ []) ≡ 6667 ∷ 3300 ∷ 4762 ∷ 6000 ∷ 3300 ∷ 10000 ∷ 8611 ∷ []
unfolding percentage hundredths fraction_cmp
printed_match_wins = refl

pub printed_game_wins : map hundredths (game_win 21 10 ∷ game_win 9 11 ∷ game_win 3 3 ∷ game_win 0 0 ∷ game_win 162 54 ∷ game_win 63 32
    ∷ game_win 143 71 ∷ []) ≡ 7000 ∷ 3300 ∷ 3333 ∷ 3300 ∷ 10000 ∷ 6563 ∷ 6714 ∷ []
unfolding percentage hundredths fraction_cmp
printed_game_wins = refl

-- over the common denominator
pub a_third : IsSame (game_win 3 3) (fraction 155898487696009919596008886476864000 WHOLE)
unfolding percentage fraction_cmp
a_third = refl

pub the_minimum : IsSame minimum_percentage (fraction 154339502819049820400048797612095360 WHOLE)
the_minimum = refl

-- two averages that print alike and differ
abbrev first_average : Fraction
first_average = average (match_win 16 7 ∷ match_win 14 9 ∷ match_win 11 8 ∷ replicate 6 (match_win 3 2))

abbrev second_average : Fraction
second_average = average (match_win 12 7 ∷ match_win 18 9 ∷ match_win 3 2 ∷ replicate 6 (match_win 3 2))

pub the_first : IsSame first_average (fraction 7165 13608)
unfolding percentage average fraction_cmp
the_first = refl

pub the_second : IsSame second_average (fraction 7164 13608)
unfolding percentage average fraction_cmp
the_second = refl

pub print_alike : map hundredths (first_average ∷ second_average ∷ average [] ∷ []) ≡ 5265 ∷ 5265 ∷ 3300 ∷ []
unfolding percentage average hundredths fraction_cmp
print_alike = refl

pub differ : is_gt (fraction_cmp first_average second_average) ≡ true
unfolding percentage average fraction_cmp
differ = refl

-- eleven who won all of twelve rounds, and one who won none
pub printed_average : hundredths (average (match_win 0 12 ∷ replicate 11 (match_win 36 12))) ≡ 9442
unfolding percentage average hundredths fraction_cmp
printed_average = refl

-- eight opponents of a player, some of whom dropped
abbrev eight_opponents : List Fraction
eight_opponents = match_win 12 8 ∷ match_win 21 8 ∷ match_win 4 5 ∷ match_win 10 7 ∷ match_win 18 8 ∷ match_win 16 8 ∷ match_win 13 8
    ∷ match_win 19 8 ∷ []

pub average_of_eight : hundredths (average eight_opponents) ≡ 6164
unfolding percentage average hundredths fraction_cmp
average_of_eight = refl
