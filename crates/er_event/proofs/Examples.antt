-- Examples of the definitions, which compute, and the limits as the rules have them.
use Rattle.er_event.proofs.Prelude.{MAX_PLAYERS, MAX_SERIAL, Swiss, Player, Match, PairingRow, BracketRow, Games, open_match, with_player}
use Rattle.er_event.proofs.Prelude.{with_dropped, with_score, EventValue, RoundResult, is_lawful_name, is_complete, match_at}
use Rattle.er_event.proofs.Prelude.{is_swiss_score}
use Rattle.er_event.proofs.Prelude.{is_playoff_score, totals, totals_of, with_round, SetScore}
use Rattle.er_event.specs.{declared.changes.Change.Change, declared.totals.Totals.Totals, Results.{missed_rounds, results_of}}
use Rattle.er_event.specs.Altered.{may_alter_totals, is_corrected}
use Rattle.std.specs.{Prelude.{◌≡◌, ℕ, pos, Bool, true, false, List, [], ◌∷◌, ◌++◌, map, replicate, codes, Some, None, refl}, Str.is_utf8}
use Rattle.std.specs.Str.{chars}
use Rattle.er_event.specs.{declared.rows.player.PlayerRow.PlayerRow, inside.Reading.is_absent_from_missed}
use Rattle.er_event.specs.Rows.{player_rows, keyed_pairing_rows, bracket_rows, event_row, pairing_rows}
use Rattle.er_share.specs.declared.TheConstants.{MAX_ROUNDS}
use Rattle.er_event.specs.declared.rows.event.TheConstants.{MOST_OLD_ROUNDS}
use Rattle.er_event.specs.declared.events.fits.TheConstants.{MAX_SLOTS}
use Rattle.er_event.specs.{declared.names.TheConstants.MAX_NAME_BYTES, declared.rows.bracket.TheConstants.MAX_STAGES, Slip.slip_of}

-- ---- each limit as the rules have it, so that the code's constant can't move from it

pub twelve_rounds : MAX_ROUNDS ≡ 12
twelve_rounds = refl

pub nine_rounds_of_version_1 : MOST_OLD_ROUNDS ≡ 9
nine_rounds_of_version_1 = refl

pub players_of_an_event : MAX_PLAYERS ≡ 512
players_of_an_event = refl

pub bytes_of_a_name : MAX_NAME_BYTES ≡ 60
bytes_of_a_name = refl

pub commands_of_an_event : MAX_SERIAL ≡ 999999
commands_of_an_event = refl

-- of at most 8 players: two stages, and the final
pub stages_of_a_playoff : MAX_STAGES ≡ 3
stages_of_a_playoff = refl

pub slots_of_a_stage : MAX_SLOTS ≡ 4
slots_of_a_stage = refl

-- ---- names

-- a name with a letter of two bytes
abbrev zoë : List ℕ
zoë = 90 ∷ 111 ∷ 195 ∷ 171 ∷ []

pub lawful_names : map is_lawful_name (codes "Ana" ∷ codes "A" ∷ codes "Lee, Jo" ∷ zoë ∷ replicate 60 97 ∷ []) ≡ true ∷ true ∷ true ∷ true
    ∷ true ∷ []
unfolding is_utf8 chars lib.Utf8.encode
lawful_names = refl

-- too long, empty, with a space at an end, no UTF-8, with a control character
pub unlawful_names : map is_lawful_name (replicate 61 97 ∷ [] ∷ codes "Ana " ∷ codes " Ana" ∷ (255 ∷ []) ∷ (65 ∷ 9 ∷ 66 ∷ [])
    ∷ (65 ∷ 127 ∷ []) ∷ []) ≡ false ∷ false ∷ false ∷ false ∷ false ∷ false ∷ false ∷ []
unfolding is_utf8 chars lib.Utf8.encode
unlawful_names = refl

-- ---- scores

abbrev games : ℕ → ℕ → ℕ → Games
games x y d = record { x = x; y = y; d = d }

pub lawful_in_a_round : map is_swiss_score (games 0 0 0 ∷ games 0 0 3 ∷ games 2 1 3 ∷ games 1 2 0 ∷ []) ≡ true ∷ true ∷ true ∷ true ∷ []
lawful_in_a_round = refl

pub unlawful_in_a_round : map is_swiss_score (games 2 2 0 ∷ games 3 0 0 ∷ games 0 3 0 ∷ games 0 0 4 ∷ []) ≡ false ∷ false ∷ false
    ∷ false ∷ []
unlawful_in_a_round = refl

pub lawful_in_the_playoff : map is_playoff_score (games 3 2 0 ∷ games 0 1 3 ∷ []) ≡ true ∷ true ∷ []
lawful_in_the_playoff = refl

pub unlawful_in_the_playoff : map is_playoff_score (games 1 1 0 ∷ games 4 0 0 ∷ games 0 4 0 ∷ games 1 0 4 ∷ []) ≡ false ∷ false ∷ false
    ∷ false ∷ []
unlawful_in_the_playoff = refl

-- ---- an event of three players, whose first round is paired

abbrev played : ℕ → ℕ → ℕ → ℕ → ℕ → Match
played a b x y d = record { a = a; b = b; score = Some (games x y d) }

abbrev player : ℕ → List ℕ → Bool → Player
player number name dropped = record { no = number; name = name; dropped = dropped; joined = 0 }

abbrev event_of : List Player → List (List Match) → List (List Match) → EventValue
event_of players rounds stages = record {
  name = codes "Friday";
  rounds = 3;
  cut = 0;
  phase = Swiss;
  players = players;
  stored = map (λ (matches : List Match). record { matches = matches }) rounds;
  bracket = record { stages = stages };
}

abbrev three : List Player
three = player 1 (codes "Ana") false ∷ player 2 (codes "Bo") true ∷ player 3 (codes "Cy") false ∷ []

abbrev first_round : List Match
first_round = open_match 2 1 ∷ played 3 0 2 0 0 ∷ []

abbrev paired : EventValue
paired = event_of three (first_round ∷ []) []

pub row_of_the_event : event_row 1 paired 5 ≡ record {
  id = pos 1;
  version = pos 1;
  serial = pos 5;
  name = codes "Friday";
  rounds = pos 3;
  cut = pos 0;
  phase = pos 1;
}
row_of_the_event = refl

pub rows_of_players : player_rows paired ≡
    record { no = pos 1; name = codes "Ana"; dropped = pos 0; joined = pos 0 }
    ∷ record { no = pos 2; name = codes "Bo"; dropped = pos 1; joined = pos 0 }
    ∷ record { no = pos 3; name = codes "Cy"; dropped = pos 0; joined = pos 0 } ∷ []
rows_of_players = refl

-- the first-named player has the higher number, and the match is open
abbrev row_of_two : PairingRow
row_of_two = record { round = pos 1; tab = pos 1; lo = pos 1; hi = pos 2; swapped = pos 1; done = pos 0; x = pos 0; y = pos 0; d = pos 0 }

abbrev row_of_the_bye : PairingRow
row_of_the_bye = record {
  round = pos 1;
  tab = pos 0;
  lo = pos 0;
  hi = pos 3;
  swapped = pos 1;
  done = pos 1;
  x = pos 2;
  y = pos 0;
  d = pos 0;
}

pub rows_of_a_round : pairing_rows paired ≡ row_of_two ∷ row_of_the_bye ∷ []
rows_of_a_round = refl

pub rows_by_key : keyed_pairing_rows paired ≡ row_of_the_bye ∷ row_of_two ∷ []
rows_by_key = refl

-- the first-named player has the lower number, and won
pub rows_of_a_played_round : pairing_rows (event_of three ([] ∷ (played 1 3 2 1 0 ∷ []) ∷ []) []) ≡ record {
  round = pos 2;
  tab = pos 1;
  lo = pos 1;
  hi = pos 3;
  swapped = pos 0;
  done = pos 1;
  x = pos 2;
  y = pos 1;
  d = pos 0;
} ∷ []
rows_of_a_played_round = refl

abbrev slot : ℕ → ℕ → ℕ → ℕ → ℕ → Games → BracketRow
slot stage number a b done score = record {
  stage = pos stage;
  slot = pos number;
  a = pos a;
  b = pos b;
  done = pos done;
  x = pos score.x;
  y = pos score.y;
  d = pos score.d;
}

pub rows_of_a_playoff : bracket_rows (event_of three [] ((played 5 3 2 0 0 ∷ played 6 1 1 2 0 ∷ []) ∷ (open_match 5 1 ∷ []) ∷ [])) ≡
    slot 1 1 5 3 1 (games 2 0 0)
    ∷ slot 1 2 6 1 1 (games 1 2 0)
    ∷ slot 2 1 5 1 0 (games 0 0 0) ∷ []
rows_of_a_playoff = refl

-- ---- the match of a table

pub match_of_a_table : match_at paired 1 1 ≡ Some (open_match 2 1)
match_of_a_table = refl

-- the bye has table 0, wherever it stands
pub match_of_the_bye : match_at paired 1 0 ≡ Some (played 3 0 2 0 0)
match_of_the_bye = refl

pub no_such_match : match_at paired 1 2 ∷ match_at paired 1 3 ∷ match_at paired 0 1 ∷ match_at paired 2 1 ∷ [] ≡ None ∷ None ∷ None
    ∷ None ∷ []
no_such_match = refl

-- ---- slips

pub slip_of_a_table : slip_of paired 1 1 ≡ Some (record {
  round = 1;
  table = 1;
  first = (2, codes "Bo");
  second = Some (1, codes "Ana");
  score = None;
})
slip_of_a_table = refl

pub slip_of_the_bye : slip_of paired 1 0 ≡ Some (record {
  round = 1;
  table = 0;
  first = (3, codes "Cy");
  second = None;
  score = Some (games 2 0 0);
})
slip_of_the_bye = refl

pub slip_of_nothing : slip_of paired 1 2 ∷ slip_of paired 2 1 ∷ slip_of paired 0 1 ∷ [] ≡ None ∷ None ∷ None ∷ []
slip_of_nothing = refl

-- ---- changes

pub with_the_score : with_score paired 1 1 (games 2 0 0) ≡ event_of three ((played 2 1 2 0 0 ∷ played 3 0 2 0 0 ∷ []) ∷ []) []
with_the_score = refl

-- the score of a round that is over is set anew, and the round after it stays
pub with_another_score : with_score (event_of three
    ((played 2 1 2 0 0 ∷ played 3 0 2 0 0 ∷ []) ∷ (open_match 2 3 ∷ played 1 0 2 0 0 ∷ []) ∷ []) []) 1 1 (games 0 2 1)
    ≡ event_of three ((played 2 1 0 2 1 ∷ played 3 0 2 0 0 ∷ []) ∷ (open_match 2 3 ∷ played 1 0 2 0 0 ∷ []) ∷ []) []
with_another_score = refl

-- a bye that is scored as it is leaves the event as it is
pub the_bye_again : with_score paired 1 0 (games 2 0 0) ≡ paired
the_bye_again = refl

pub complete : is_complete first_round ∷ is_complete (played 2 1 2 0 0 ∷ played 3 0 2 0 0 ∷ []) ∷ [] ≡ false ∷ true ∷ []
complete = refl

-- one who comes after a round was paired has missed it
abbrev late : ℕ → List ℕ → ℕ → Player
late number name joined = record { no = number; name = name; dropped = false; joined = joined }

pub one_more_player : with_player paired (codes "Di") ≡ event_of (three ++ late 4 (codes "Di") 1 ∷ []) (first_round ∷ []) []
one_more_player = refl

pub one_player_before_the_rounds : with_player (event_of three [] []) (codes "Di") ≡ event_of (three ++ late 4 (codes "Di") 0 ∷ []) [] []
one_player_before_the_rounds = refl

-- a dropped player stays listed
pub one_player_dropped : with_dropped paired 3 ≡ event_of
    (player 1 (codes "Ana") false ∷ player 2 (codes "Bo") true ∷ player 3 (codes "Cy") true ∷ []) (first_round ∷ []) []
one_player_dropped = refl

-- ---- totals

abbrev against : ℕ → ℕ → ℕ → ℕ → ℕ → RoundResult
against opponent round won lost drawn = record { round = round; opponent = Some opponent; won = won; lost = lost; drawn = drawn }

abbrev bye_in : ℕ → RoundResult
bye_in round = record { round = round; opponent = None; won = 2; lost = 0; drawn = 0 }

abbrev sum : ℕ → ℕ → ℕ → ℕ → Totals
sum points rounds game_points games = record { points = points; rounds = rounds; game_points = game_points; games = games }

pub two_matches : totals_of (against 2 1 2 1 0 ∷ against 3 1 1 1 1 ∷ []) ≡ sum 4 2 10 6
two_matches = refl

-- no games at all are a draw
pub no_games : totals_of (against 2 1 0 0 0 ∷ []) ≡ sum 1 1 0 0
no_games = refl

-- the first-named player's games come first, and the other's are turned; a round that isn't complete gives no results
abbrev in_third_round : EventValue
in_third_round = event_of three
    ((played 2 1 2 1 0 ∷ played 3 0 2 0 0 ∷ [])
    ∷ (played 1 3 0 1 2 ∷ played 2 0 2 0 0 ∷ [])
    ∷ (open_match 2 3 ∷ played 1 0 2 0 0 ∷ []) ∷ []) []

pub results_of_two_rounds : map (results_of in_third_round) (1 ∷ 2 ∷ 3 ∷ [])
    ≡ (against 2 1 1 2 0 ∷ against 3 2 0 1 2 ∷ [])
    ∷ (against 1 1 2 1 0 ∷ bye_in 2 ∷ [])
    ∷ (bye_in 1 ∷ against 1 2 1 0 2 ∷ []) ∷ []
results_of_two_rounds = refl

-- ---- a late entry

abbrev four : List Player
four = player 1 (codes "Ana") false ∷ player 2 (codes "Bo") false ∷ player 3 (codes "Cy") false ∷ player 4 (codes "Di") false ∷ []

-- enrolled while the first round is open
abbrev five : EventValue
five = with_player (event_of four ((open_match 4 2 ∷ open_match 1 3 ∷ []) ∷ []) []) (codes "Ed")

pub one_more_who_is_late : five.players ≡ four ++ late 5 (codes "Ed") 1 ∷ []
one_more_who_is_late = refl

pub row_of_a_late_player : map (λ (r : PlayerRow). r.joined) (player_rows five) ≡ pos 0 ∷ pos 0 ∷ pos 0 ∷ pos 0 ∷ pos 1 ∷ []
row_of_a_late_player = refl

pub missed_while_open : totals five 5 ≡ sum 0 0 0 0
missed_while_open = refl

abbrev nearly : EventValue
nearly = with_score five 1 1 (games 2 0 0)

abbrev over : EventValue
over = with_score nearly 1 2 (games 2 1 0)

pub missed_once_complete : map (totals over) (1 ∷ 2 ∷ 3 ∷ 4 ∷ 5 ∷ 6 ∷ [])
    ≡ sum 3 1 6 3 ∷ sum 0 1 0 2 ∷ sum 0 1 3 3 ∷ sum 3 1 6 2 ∷ sum 0 1 0 0 ∷ sum 0 0 0 0 ∷ []
missed_once_complete = refl

-- a round that was missed isn't a result: it counts as a round, and earns nothing
pub missed_round : (results_of over 5 ≡ []) × (missed_rounds over 5 ≡ 1) × (totals over 5 ≡ sum 0 1 0 0)
missed_round = (refl, refl, refl)

-- a bye is a result, and no round that was missed
abbrev with_bye : EventValue
with_bye = event_of three ((played 2 1 2 0 0 ∷ played 3 0 2 0 0 ∷ []) ∷ []) []

pub bye : (results_of with_bye 3 ≡ bye_in 1 ∷ []) × (missed_rounds with_bye 3 ≡ 0) × (totals with_bye 3 ≡ sum 3 1 6 2)
bye = (refl, refl, refl)

-- who sat in the first round can't have missed it, and nobody has missed a second one
pub who_missed_a_round : map (is_absent_from_missed over.stored) (late 2 (codes "Bo") 1 ∷ late 5 (codes "Ed") 1 ∷ late 5 (codes "Ed") 2 ∷ [])
    ≡ false ∷ true ∷ false ∷ []
who_missed_a_round = refl

-- a late player has the bye in the next round: it is won, and the missed round stays lost
pub bye_of_a_late_player : totals (with_round over (played 4 1 2 0 0 ∷ played 2 3 2 0 0 ∷ played 5 0 2 0 0 ∷ [])) 5 ≡ sum 3 2 6 2
bye_of_a_late_player = refl

-- who enrols once the round is complete has missed it at once
pub enrolled_after_the_round : totals (with_player over (codes "Flo")) 6 ≡ sum 0 1 0 0
enrolled_after_the_round = refl

-- a late player who drops keeps the missed round, and no other comes to it
pub dropped_late : totals (with_round (with_dropped over 5) (played 4 1 2 0 0 ∷ played 2 3 2 0 0 ∷ [])) 5 ≡ sum 0 1 0 0
dropped_late = refl

abbrev scores_of_five : List (EventValue × Change)
scores_of_five = (five, SetScore 1 1 (games 2 0 0)) ∷ (nearly, SetScore 1 2 (games 2 1 0)) ∷ (over, SetScore 1 1 (games 0 2 0)) ∷ []

-- a score may alter totals once its round is complete
pub which_scores_alter_totals : map (λ (c : EventValue × Change). may_alter_totals c.0 c.1) scores_of_five ≡ false ∷ true ∷ true ∷ []
which_scores_alter_totals = refl

-- a correction is one of two players
pub whom_a_score_corrects : map (λ (c : EventValue × Change). map (λ (p : Player). is_corrected c.0 c.1 p.no) c.0.players) scores_of_five
    ≡ (false ∷ false ∷ false ∷ false ∷ false ∷ [])
    ∷ (false ∷ false ∷ false ∷ false ∷ false ∷ [])
    ∷ (false ∷ true ∷ false ∷ true ∷ false ∷ []) ∷ []
whom_a_score_corrects = refl
