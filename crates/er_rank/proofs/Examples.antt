-- Worked examples 5, 9, 10, 15, 17 and 19, computed from the definitions, and the limit of a match's games.
use Rattle.std.specs.Prelude.{◌≡◌, ℕ, ◌+◌, Bool, true, false, List, [], ◌∷◌, ◌++◌, map, replicate, count_by, codes, Some, refl}
use Rattle.er_share.specs.Fraction.{fraction_cmp, percentage, average, hundredths}
use Rattle.er_event.specs.{declared.events.Phase.TheVariants.Swiss, declared.players.Player.Player, declared.matches.Match.Match}
use Rattle.er_event.specs.{declared.rounds.Round.Round, Bracket.open_match, Event.EventValue, Results.results_of, Totals.totals}
use Rattle.er_rank.specs.{declared.lists.TheConstants.MAX_GAMES_OF_MATCH, declared.rows.Row.Row, Standings.{opponents_match_win, game_win}}
use Rattle.er_rank.specs.Standings.{opponents_game_win, is_better, is_listed_before, first_active}

-- three that one of the two wins or loses, and three drawn
pub games_of_a_match : MAX_GAMES_OF_MATCH ≡ 6
games_of_a_match = refl

abbrev played : ℕ → ℕ → ℕ → ℕ → ℕ → Match
played a b x y d = record { a = a; b = b; score = Some (record { x = x; y = y; d = d }) }

abbrev round_of : List Match → Round
round_of matches = record { matches = matches }

abbrev player : ℕ → List ℕ → Player
player number name = record { no = number; name = name; dropped = false; joined = 0 }

abbrev event_of : List Player → List Round → EventValue
event_of players stored = record {
  name = codes "Friday";
  rounds = 3;
  cut = 0;
  phase = Swiss;
  players = players;
  stored = stored;
  bracket = record { stages = [] };
}

-- as a row is printed: rank, number, points, and the three percentages in hundredths
abbrev printed : EventValue → ℕ → List ℕ
printed event p = (1 + count_by (λ q. is_better event q.no p) event.players) ∷ p ∷ (totals event p).points
    ∷ hundredths (opponents_match_win event p) ∷ hundredths (game_win event p) ∷ hundredths (opponents_game_win event p) ∷ []

-- each of the list is listed before the next
abbrev in_order : EventValue → List ℕ → List Bool
in_order event [] = []
in_order event (p ∷ []) = []
in_order event (p ∷ q ∷ more) = is_listed_before event p q ∷ in_order event (q ∷ more)

abbrev two : List Player
two = player 1 (codes "Ana") ∷ player 2 (codes "Bo") ∷ []

abbrev three : List Player
three = two ++ player 3 (codes "Cy") ∷ []

abbrev four : List Player
four = three ++ player 4 (codes "Di") ∷ []

-- a round with an open match doesn't count, its bye included
abbrev bye_paired : EventValue
bye_paired = event_of three (round_of (open_match 2 1 ∷ played 3 0 2 0 0 ∷ []) ∷ [])

pub an_open_round : map (results_of bye_paired) (1 ∷ 2 ∷ 3 ∷ []) ≡ [] ∷ [] ∷ [] ∷ []
an_open_round = refl

pub standings_while_open : map (printed bye_paired) (1 ∷ 2 ∷ 3 ∷ []) ≡
    (1 ∷ 1 ∷ 0 ∷ 3300 ∷ 3300 ∷ 3300 ∷ [])
    ∷ (1 ∷ 2 ∷ 0 ∷ 3300 ∷ 3300 ∷ 3300 ∷ [])
    ∷ (1 ∷ 3 ∷ 0 ∷ 3300 ∷ 3300 ∷ 3300 ∷ []) ∷ []
unfolding percentage average fraction_cmp hundredths
standings_while_open = refl

-- a first round
abbrev one_round : EventValue
one_round = event_of four (round_of (played 4 2 2 0 0 ∷ played 1 3 2 1 0 ∷ []) ∷ [])

pub standings_of_four : map (printed one_round) (4 ∷ 1 ∷ 3 ∷ 2 ∷ []) ≡
    (1 ∷ 4 ∷ 3 ∷ 3300 ∷ 10000 ∷ 3300 ∷ [])
    ∷ (2 ∷ 1 ∷ 3 ∷ 3300 ∷ 6667 ∷ 3333 ∷ [])
    ∷ (3 ∷ 3 ∷ 0 ∷ 10000 ∷ 3333 ∷ 6667 ∷ [])
    ∷ (4 ∷ 2 ∷ 0 ∷ 10000 ∷ 3300 ∷ 10000 ∷ []) ∷ []
unfolding percentage average fraction_cmp hundredths
standings_of_four = refl

pub order_of_four : in_order one_round (4 ∷ 1 ∷ 3 ∷ 2 ∷ []) ≡ replicate 3 true
unfolding percentage average fraction_cmp
order_of_four = refl

-- a bye counts, and isn't an opponent
abbrev with_bye : EventValue
with_bye = event_of three (round_of (played 2 1 2 0 0 ∷ played 3 0 2 0 0 ∷ []) ∷ [])

pub standings_with_bye : map (printed with_bye) (2 ∷ 3 ∷ 1 ∷ []) ≡
    (1 ∷ 2 ∷ 3 ∷ 3300 ∷ 10000 ∷ 3300 ∷ [])
    ∷ (1 ∷ 3 ∷ 3 ∷ 3300 ∷ 10000 ∷ 3300 ∷ [])
    ∷ (3 ∷ 1 ∷ 0 ∷ 10000 ∷ 3300 ∷ 10000 ∷ []) ∷ []
unfolding percentage average fraction_cmp hundredths
standings_with_bye = refl

pub order_with_bye : in_order with_bye (2 ∷ 3 ∷ 1 ∷ []) ≡ replicate 2 true
unfolding percentage average fraction_cmp
order_with_bye = refl

-- a corrected score, and a second round that is open
abbrev corrected : EventValue
corrected = event_of four (round_of (played 4 2 2 0 0 ∷ played 1 3 0 2 0 ∷ []) ∷ round_of (open_match 4 1 ∷ open_match 2 3 ∷ []) ∷ [])

pub standings_corrected : map (printed corrected) (3 ∷ 4 ∷ 1 ∷ 2 ∷ []) ≡
    (1 ∷ 3 ∷ 3 ∷ 3300 ∷ 10000 ∷ 3300 ∷ [])
    ∷ (1 ∷ 4 ∷ 3 ∷ 3300 ∷ 10000 ∷ 3300 ∷ [])
    ∷ (3 ∷ 1 ∷ 0 ∷ 10000 ∷ 3300 ∷ 10000 ∷ [])
    ∷ (3 ∷ 2 ∷ 0 ∷ 10000 ∷ 3300 ∷ 10000 ∷ []) ∷ []
unfolding percentage average fraction_cmp hundredths
standings_corrected = refl

pub order_corrected : in_order corrected (3 ∷ 4 ∷ 1 ∷ 2 ∷ []) ≡ replicate 3 true
unfolding percentage average fraction_cmp
order_corrected = refl

-- six players, of whom player 2 has left: listed, and no seed
abbrev gone : Player → Player
gone p = record p { dropped = true }

abbrev six : List Player
six = player 1 (codes "P1") ∷ gone (player 2 (codes "P2")) ∷ player 3 (codes "P3") ∷ player 4 (codes "P4")
    ∷ player 5 (codes "P5") ∷ player 6 (codes "P6") ∷ []

abbrev six_done : EventValue
six_done = record (event_of six (round_of (played 6 4 2 0 0 ∷ played 2 1 2 0 0 ∷ played 5 3 2 0 0 ∷ []) ∷ [])) { rounds = 1; cut = 4 }

pub standings_of_six : map (printed six_done) (2 ∷ 5 ∷ 6 ∷ 1 ∷ 3 ∷ 4 ∷ []) ≡
    (1 ∷ 2 ∷ 3 ∷ 3300 ∷ 10000 ∷ 3300 ∷ [])
    ∷ (1 ∷ 5 ∷ 3 ∷ 3300 ∷ 10000 ∷ 3300 ∷ [])
    ∷ (1 ∷ 6 ∷ 3 ∷ 3300 ∷ 10000 ∷ 3300 ∷ [])
    ∷ (4 ∷ 1 ∷ 0 ∷ 10000 ∷ 3300 ∷ 10000 ∷ [])
    ∷ (4 ∷ 3 ∷ 0 ∷ 10000 ∷ 3300 ∷ 10000 ∷ [])
    ∷ (4 ∷ 4 ∷ 0 ∷ 10000 ∷ 3300 ∷ 10000 ∷ []) ∷ []
unfolding percentage average fraction_cmp hundredths
standings_of_six = refl

pub order_of_six : in_order six_done (2 ∷ 5 ∷ 6 ∷ 1 ∷ 3 ∷ 4 ∷ []) ≡ replicate 5 true
unfolding percentage average fraction_cmp
order_of_six = refl

abbrev row : ℕ → Bool → Row
row number dropped = record { rank = 1; player = number; points = 0; omw = 0; gwp = 0; ogw = 0; dropped = dropped }

pub seeds_of_six : first_active (row 2 true ∷ map (λ n. row n false) (5 ∷ 6 ∷ 1 ∷ 3 ∷ 4 ∷ [])) 4 ≡ 5 ∷ 6 ∷ 1 ∷ 3 ∷ []
seeds_of_six = refl

-- a drawn match without a game
abbrev drawn : EventValue
drawn = event_of two (round_of (played 2 1 0 0 0 ∷ []) ∷ [])

pub standings_drawn : map (printed drawn) (1 ∷ 2 ∷ []) ≡
    (1 ∷ 1 ∷ 1 ∷ 3333 ∷ 3300 ∷ 3300 ∷ [])
    ∷ (1 ∷ 2 ∷ 1 ∷ 3333 ∷ 3300 ∷ 3300 ∷ []) ∷ []
unfolding percentage average fraction_cmp hundredths
standings_drawn = refl

-- the fifth player enrols once the first round is complete, and loses it
abbrev five : List Player
five = four ++ record { no = 5; name = codes "Ed"; dropped = false; joined = 1 } ∷ []

abbrev came_late : EventValue
came_late = record one_round { players = five }

pub standings_when_one_comes : map (printed came_late) (4 ∷ 1 ∷ 3 ∷ 2 ∷ 5 ∷ []) ≡
    (1 ∷ 4 ∷ 3 ∷ 3300 ∷ 10000 ∷ 3300 ∷ [])
    ∷ (2 ∷ 1 ∷ 3 ∷ 3300 ∷ 6667 ∷ 3333 ∷ [])
    ∷ (3 ∷ 3 ∷ 0 ∷ 10000 ∷ 3333 ∷ 6667 ∷ [])
    ∷ (4 ∷ 2 ∷ 0 ∷ 10000 ∷ 3300 ∷ 10000 ∷ [])
    ∷ (5 ∷ 5 ∷ 0 ∷ 3300 ∷ 3300 ∷ 3300 ∷ []) ∷ []
unfolding percentage average fraction_cmp hundredths
standings_when_one_comes = refl

pub order_when_one_comes : in_order came_late (4 ∷ 1 ∷ 3 ∷ 2 ∷ 5 ∷ []) ≡ replicate 4 true
unfolding percentage average fraction_cmp
order_when_one_comes = refl

-- and wins the second: three points in two rounds, of which one was missed
abbrev after_two : EventValue
after_two = record came_late {
  stored = came_late.stored ++ round_of (played 4 1 2 0 0 ∷ played 2 5 0 2 0 ∷ played 3 0 2 0 0 ∷ []) ∷ [];
}

pub standings_after_two : map (printed after_two) (4 ∷ 1 ∷ 3 ∷ 5 ∷ 2 ∷ []) ≡
    (1 ∷ 4 ∷ 6 ∷ 4150 ∷ 10000 ∷ 3650 ∷ [])
    ∷ (2 ∷ 1 ∷ 3 ∷ 7500 ∷ 4000 ∷ 8000 ∷ [])
    ∷ (3 ∷ 3 ∷ 3 ∷ 5000 ∷ 6000 ∷ 4000 ∷ [])
    ∷ (4 ∷ 5 ∷ 3 ∷ 3300 ∷ 10000 ∷ 3300 ∷ [])
    ∷ (5 ∷ 2 ∷ 0 ∷ 7500 ∷ 3300 ∷ 10000 ∷ []) ∷ []
unfolding percentage average fraction_cmp hundredths
standings_after_two = refl

pub order_after_two : in_order after_two (4 ∷ 1 ∷ 3 ∷ 5 ∷ 2 ∷ []) ≡ replicate 4 true
unfolding percentage average fraction_cmp
order_after_two = refl
