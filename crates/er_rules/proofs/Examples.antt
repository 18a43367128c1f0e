-- Examples of the definitions, which compute: each refusal is that of the first check that fails, in the order of the rules.
use Rattle.std.specs.{Prelude.{◌≡◌, ℕ, true, false, List, [], ◌∷◌, ◌++◌, map, replicate, codes, Option, Some, None, refl}, Str.is_utf8}
use Rattle.std.specs.Str.{chars}
use Rattle.er_event.specs.{declared.events.Phase.Phase, declared.events.Phase.TheVariants.{Enrolling, Swiss, Playoff, Finished}}
use Rattle.er_event.specs.{declared.players.Player.Player, declared.commands.Command.Command, declared.commands.Command.TheVariants.Enrol}
use Rattle.er_event.specs.declared.commands.Command.TheVariants.{Start, Pair, Result, Correct, Drop, Cut}
use Rattle.er_event.specs.{declared.refusals.Refusal.Refusal, declared.refusals.Refusal.TheVariants.{BadName, NameTaken, PlayersFull}}
use Rattle.er_event.specs.declared.refusals.Refusal.TheVariants.{NotEnrolling, TooFewPlayers, NotSwiss, WrongRound, RoundOpen}
use Rattle.er_event.specs.declared.refusals.Refusal.TheVariants.{AllRoundsPaired, NoSuchMatch, BadScore, AlreadyReported, NotReported}
use Rattle.er_event.specs.declared.refusals.Refusal.TheVariants.{IsBye, NoSuchPlayer, AlreadyDropped, RoundsNotDone, NoCut, TooFewForCut}
use Rattle.er_event.specs.{declared.refusals.Refusal.TheVariants.NotPlayoff, declared.matches.Match.Match, declared.scores.Games.Games}
use Rattle.er_event.specs.{Bracket.open_match, Event.EventValue}
use Rattle.er_event.specs.Round.{tables_of}
use Rattle.er_rules.specs.{Commands.first_refusal, Step.{checks, with_stage_score}}
use Rattle.er_event.specs.declared.commands.Command.TheVariants.{Enrol, Start, Pair, Result, Correct, Drop, Cut, Playoff as PlayOff}

abbrev games : ℕ → ℕ → ℕ → Games
games x y d = record { x = x; y = y; d = d }

abbrev played : ℕ → ℕ → ℕ → ℕ → ℕ → Match
played a b x y d = record { a = a; b = b; score = Some (games x y d) }

abbrev player : ℕ → List ℕ → Player
player number name = record { no = number; name = name; dropped = false; joined = 0 }

abbrev gone : ℕ → List ℕ → Player
gone number name = record { no = number; name = name; dropped = true; joined = 0 }

abbrev event_of : ℕ → ℕ → Phase → List Player → List (List Match) → List (List Match) → EventValue
event_of rounds cut phase players stored stages = record {
  name = codes "Friday";
  rounds = rounds;
  cut = cut;
  phase = phase;
  players = players;
  stored = map (λ (matches : List Match). record { matches = matches }) stored;
  bracket = record { stages = stages };
}

-- what each of these commands is refused with by its checks, if it is
abbrev refused : EventValue → List Command → List (Option Refusal)
refused event commands = map (λ c. first_refusal (checks event c)) commands

abbrev pair : ℕ → Command
pair round = Pair round (replicate 32 0)

abbrev two : List Player
two = player 1 (codes "Ana") ∷ player 2 (codes "Bo") ∷ []

abbrev three : List Player
three = two ++ player 3 (codes "Cy") ∷ []

abbrev four : List Player
four = three ++ player 4 (codes "Di") ∷ []

-- ---- while players enrol

abbrev enrolling : List Player → EventValue
enrolling players = event_of 3 0 Enrolling players [] []

pub names_to_enrol : refused (enrolling four) (Enrol (codes "Ed") ∷ Enrol (codes "Ana") ∷ Enrol (codes "Ana ") ∷ Enrol [] ∷ [])
    ≡ None ∷ Some NameTaken ∷ Some BadName ∷ Some BadName ∷ []
unfolding is_utf8 chars lib.Utf8.encode
names_to_enrol = refl

-- a name that is taken is named before the event is called full, and an unlawful one before both
pub names_of_a_full_event : refused (enrolling (replicate 512 (player 1 (codes "Ana"))))
    (Enrol (codes "Ed") ∷ Enrol (codes "Ana") ∷ Enrol [] ∷ []) ≡ Some PlayersFull ∷ Some NameTaken ∷ Some BadName ∷ []
unfolding is_utf8 chars lib.Utf8.encode
names_of_a_full_event = refl

pub starts : refused (enrolling two) (Start ∷ []) ++ refused (enrolling (player 1 (codes "Ana") ∷ [])) (Start ∷ [])
    ≡ None ∷ Some TooFewPlayers ∷ []
starts = refl

pub before_the_start : refused (enrolling four)
    (pair 1 ∷ Result 1 1 (games 2 0 0) ∷ Correct 1 1 (games 2 0 0) ∷ Drop 1 ∷ Cut ∷ PlayOff 1 1 (games 2 0 0) ∷ [])
    ≡ Some NotSwiss ∷ Some NotSwiss ∷ Some NotSwiss ∷ Some NotSwiss ∷ Some NotSwiss ∷ Some NotPlayoff ∷ []
before_the_start = refl

-- ---- four players, whose first round is paired

abbrev paired : EventValue
paired = event_of 3 0 Swiss four ((open_match 4 2 ∷ open_match 1 3 ∷ []) ∷ []) []

pub after_the_start : refused paired (Enrol (codes "Ed") ∷ Enrol (codes "Ana") ∷ Enrol [] ∷ Start ∷ PlayOff 1 1 (games 2 0 0) ∷ [])
    ≡ None ∷ Some NameTaken ∷ Some BadName ∷ Some NotEnrolling ∷ Some NotPlayoff ∷ []
unfolding is_utf8 chars lib.Utf8.encode
after_the_start = refl

pub rounds_while_one_is_open : refused paired (pair 0 ∷ pair 1 ∷ pair 2 ∷ pair 3 ∷ pair 4 ∷ [])
    ≡ Some (WrongRound 2) ∷ Some (WrongRound 2) ∷ Some (RoundOpen 1) ∷ Some (WrongRound 2) ∷ Some (WrongRound 2) ∷ []
rounds_while_one_is_open = refl

pub results : refused paired (
    Result 1 1 (games 2 0 0) ∷ Result 1 2 (games 2 2 0) ∷ Result 1 3 (games 2 2 0)
    ∷ Result 1 0 (games 2 0 0) ∷ Result 2 1 (games 2 0 0) ∷ Result 0 1 (games 2 0 0) ∷ []
    ) ≡ None ∷ Some BadScore ∷ Some NoSuchMatch ∷ Some NoSuchMatch ∷ Some NoSuchMatch ∷ Some NoSuchMatch ∷ []
results = refl

pub nothing_to_correct : refused paired (Correct 1 1 (games 2 0 0) ∷ Correct 1 1 (games 2 2 0) ∷ Correct 1 3 (games 2 0 0) ∷ [])
    ≡ Some NotReported ∷ Some NotReported ∷ Some NoSuchMatch ∷ []
nothing_to_correct = refl

pub drops : refused paired (Drop 0 ∷ Drop 5 ∷ Drop 3 ∷ []) ≡ Some NoSuchPlayer ∷ Some NoSuchPlayer ∷ None ∷ []
drops = refl

pub dropped_again : refused (event_of 3 0 Swiss (two ++ gone 3 (codes "Cy") ∷ []) [] []) (Drop 3 ∷ Drop 2 ∷ [])
    ≡ Some AlreadyDropped ∷ None ∷ []
dropped_again = refl

-- the first two have handed in their score
abbrev reported : EventValue
reported = event_of 3 0 Swiss four ((played 4 2 2 1 0 ∷ open_match 1 3 ∷ []) ∷ []) []

-- the score that stands is named, even if the same or an unlawful one is handed in
pub reported_again : refused reported
    (Result 1 1 (games 2 1 0) ∷ Result 1 1 (games 0 2 0) ∷ Result 1 1 (games 2 2 0) ∷ Result 1 2 (games 2 0 0) ∷ [])
    ≡ Some (AlreadyReported (games 2 1 0)) ∷ Some (AlreadyReported (games 2 1 0)) ∷ Some (AlreadyReported (games 2 1 0)) ∷ None ∷ []
reported_again = refl

pub corrections : refused reported (Correct 1 1 (games 0 2 0) ∷ Correct 1 1 (games 3 0 0) ∷ Correct 1 2 (games 0 2 0) ∷ [])
    ≡ None ∷ Some BadScore ∷ Some NotReported ∷ []
corrections = refl

-- ---- three players: one has the bye

abbrev with_bye : EventValue
with_bye = event_of 3 0 Swiss three ((open_match 2 1 ∷ played 3 0 2 0 0 ∷ []) ∷ []) []

pub scores_of_a_bye : refused with_bye
    (Correct 1 0 (games 2 1 0) ∷ Result 1 0 (games 2 0 0) ∷ Result 1 0 (games 2 2 0) ∷ Result 1 2 (games 2 0 0) ∷ [])
    ≡ Some IsBye ∷ Some IsBye ∷ Some IsBye ∷ Some NoSuchMatch ∷ []
scores_of_a_bye = refl

-- the bye comes after the tables, and is won
pub tables_of_three : tables_of ((3, 0) ∷ (2, 1) ∷ []) ≡ open_match 2 1 ∷ played 3 0 2 0 0 ∷ []
tables_of_three = refl

-- ---- rounds that are over

abbrev over : ℕ → ℕ → List Player → EventValue
over rounds cut players = event_of rounds cut Swiss players ((played 2 1 2 0 0 ∷ []) ∷ []) []

pub rounds_to_pair : refused (over 2 0 two) (pair 1 ∷ pair 2 ∷ pair 3 ∷ []) ≡ Some (WrongRound 2) ∷ None ∷ Some (WrongRound 2) ∷ []
rounds_to_pair = refl

pub no_round_left : refused (over 1 0 two) (pair 1 ∷ pair 2 ∷ []) ≡ Some (WrongRound 2) ∷ Some AllRoundsPaired ∷ []
no_round_left = refl

-- nobody comes once all rounds are paired, and that is said before that the name is there
pub too_late : refused (over 1 0 two) (Enrol (codes "Cy") ∷ Enrol (codes "Ana") ∷ Enrol [] ∷ [])
    ++ refused (event_of 1 2 Swiss two ((open_match 2 1 ∷ []) ∷ []) []) (Enrol (codes "Cy") ∷ [])
    ++ refused (event_of 1 2 Playoff two ((played 2 1 2 0 0 ∷ []) ∷ []) ((open_match 2 1 ∷ []) ∷ [])) (Enrol (codes "Cy") ∷ [])
    ≡ Some AllRoundsPaired ∷ Some AllRoundsPaired ∷ Some AllRoundsPaired ∷ Some AllRoundsPaired ∷ Some NotEnrolling ∷ []
unfolding is_utf8 chars lib.Utf8.encode
too_late = refl

-- one of the two players has dropped
pub nobody_to_meet : refused (over 2 0 (player 1 (codes "Ana") ∷ gone 2 (codes "Bo") ∷ [])) (pair 2 ∷ []) ≡ Some TooFewPlayers ∷ []
nobody_to_meet = refl

pub cuts : refused (over 1 2 two) (Cut ∷ []) ++ refused (over 1 0 two) (Cut ∷ [])
    ++ refused (over 2 2 two) (Cut ∷ []) ++ refused (over 1 4 two) (Cut ∷ [])
    ≡ None ∷ Some NoCut ∷ Some RoundsNotDone ∷ Some TooFewForCut ∷ []
cuts = refl

-- that there is no cut is said before that rounds are not done, and that before too few are active
pub cuts_in_order : refused (over 2 0 two) (Cut ∷ []) ++ refused (over 2 4 two) (Cut ∷ [])
    ++ refused (event_of 1 2 Swiss two ((open_match 2 1 ∷ []) ∷ []) []) (Cut ∷ [])
    ≡ Some NoCut ∷ Some RoundsNotDone ∷ Some RoundsNotDone ∷ []
cuts_in_order = refl

-- ---- the playoff

abbrev playing : List (List Match) → EventValue
playing stages = event_of 1 2 Playoff two ((played 2 1 2 0 0 ∷ []) ∷ []) stages

pub scores_of_the_final : refused (playing ((open_match 2 1 ∷ []) ∷ [])) (
    PlayOff 1 1 (games 2 0 0) ∷ PlayOff 1 1 (games 1 1 0) ∷ PlayOff 1 2 (games 1 1 0) ∷ PlayOff 2 1 (games 2 0 0)
    ∷ PlayOff 0 1 (games 2 0 0) ∷ PlayOff 1 0 (games 2 0 0) ∷ Cut ∷ Result 1 1 (games 2 0 0) ∷ []
    ) ≡ None ∷ Some BadScore ∷ Some NoSuchMatch ∷ Some NoSuchMatch ∷ Some NoSuchMatch ∷ Some NoSuchMatch
    ∷ Some NotSwiss ∷ Some NotSwiss ∷ []
scores_of_the_final = refl

-- of a stage with two slots the first is played
pub slot_reported_again : refused (playing ((played 5 3 2 0 0 ∷ open_match 6 1 ∷ []) ∷ []))
    (PlayOff 1 1 (games 2 0 0) ∷ PlayOff 1 1 (games 1 1 0) ∷ PlayOff 1 2 (games 1 2 0) ∷ [])
    ≡ Some (AlreadyReported (games 2 0 0)) ∷ Some (AlreadyReported (games 2 0 0)) ∷ None ∷ []
slot_reported_again = refl

-- its other score brings the stage of the winners
pub winners_go_on : with_stage_score (playing ((played 5 3 2 0 0 ∷ open_match 6 1 ∷ []) ∷ [])) 1 2 (games 1 2 0)
    ≡ playing ((played 5 3 2 0 0 ∷ played 6 1 1 2 0 ∷ []) ∷ (open_match 5 1 ∷ []) ∷ [])
winners_go_on = refl

abbrev finished : EventValue
finished = event_of 1 2 Finished two ((played 2 1 2 0 0 ∷ []) ∷ []) ((played 2 1 0 2 0 ∷ []) ∷ [])

-- and the score of the final ends it
pub the_final_ends_it : with_stage_score (playing ((open_match 2 1 ∷ []) ∷ [])) 1 1 (games 0 2 0) ≡ finished
the_final_ends_it = refl

pub after_the_end : refused finished (PlayOff 1 1 (games 0 2 0) ∷ Correct 1 1 (games 0 2 0) ∷ Drop 1 ∷ Cut ∷ Start ∷ [])
    ≡ Some NotPlayoff ∷ Some NotSwiss ∷ Some NotSwiss ∷ Some NotSwiss ∷ Some NotEnrolling ∷ []
after_the_end = refl
