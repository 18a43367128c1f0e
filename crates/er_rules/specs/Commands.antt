-- The checks of each command, in order, and what it makes of an event that it is taken on.
use Rattle.std.specs.Prelude.{ℕ, ◌+◌, ◌==◌, nat_le, nat_lt, Bool, true, false, ◌&&◌, ◌||◌, not, List, [], ◌∷◌, ◌++◌, length, filter}
use Rattle.std.specs.Prelude.{find, option_map, Option, Some, None, is_none}
use Rattle.std.specs.List.{list_all, last_or}
use Rattle.er_event.specs.declared.scores.Games.{Games}
use Rattle.er_event.specs.declared.events.Phase.{Phase}
use Rattle.er_event.specs.declared.events.Phase.TheVariants.{Enrolling, Swiss, Playoff}
use Rattle.er_event.specs.declared.refusals.Refusal.{Refusal}
use Rattle.er_event.specs.declared.refusals.Refusal.TheVariants.{BadName, NameTaken, PlayersFull, NotEnrolling, TooFewPlayers, NotSwiss}
use Rattle.er_event.specs.declared.refusals.Refusal.TheVariants.{WrongRound, RoundOpen, AllRoundsPaired, NoSuchMatch, BadScore}
use Rattle.er_event.specs.declared.refusals.Refusal.TheVariants.{AlreadyReported, NotReported, IsBye, NoSuchPlayer, AlreadyDropped}
use Rattle.er_event.specs.declared.refusals.Refusal.TheVariants.{RoundsNotDone, NoCut, TooFewForCut, NotPlayoff}
use Rattle.er_event.specs.declared.matches.Match.{Match}
use Rattle.er_event.specs.declared.players.Player.{Player}
use Rattle.er_event.specs.Event.{EventValue}
use Rattle.er_event.specs.declared.rounds.Round.{Round}
use Rattle.er_event.specs.declared.players.TheConstants.{MAX_PLAYERS}
use Rattle.er_event.specs.Name.{is_lawful_name}
use Rattle.er_event.specs.Score.{is_swiss_score, is_playoff_score}
use Rattle.er_event.specs.Round.{is_bye, is_complete, match_at}
use Rattle.er_event.specs.Bracket.{slot_at}
use Rattle.er_event.specs.Change.{has_name}

abbrev pub is_enrolling : Phase → Bool
is_enrolling Enrolling = true
is_enrolling _ = false

abbrev pub is_swiss : Phase → Bool
is_swiss Swiss = true
is_swiss _ = false

abbrev pub is_playoff : Phase → Bool
is_playoff Playoff = true
is_playoff _ = false

abbrev pub active : EventValue → List Player
active event = filter (λ p. not p.dropped) event.players

-- of the round, if there is one, a match lacks its score
abbrev pub is_round_open : Option Round → Bool
is_round_open None = false
is_round_open (Some round) = not (is_complete round.matches)

abbrev pub newest_is_open : EventValue → Bool
newest_is_open event = is_round_open (last_or None event.stored)

-- all Swiss rounds are paired and complete
abbrev pub all_rounds_done : EventValue → Bool
all_rounds_done event = length event.stored == event.rounds && list_all (λ (r : Round). is_complete r.matches) event.stored

-- a check that fails, with the refusal that it means
abbrev pub Check : Type 0
Check = Bool × Refusal

abbrev pub first_refusal : List Check → Option Refusal
first_refusal checks = option_map (λ (c : Check). c.1) (find (λ (c : Check). c.0) checks)

-- players enrol before the start, and then until the last round is paired
abbrev pub enrol_checks : EventValue → List ℕ → List Check
enrol_checks event name =
    (not (is_enrolling event.phase || is_swiss event.phase), NotEnrolling)
    ∷ (is_swiss event.phase && length event.stored == event.rounds, AllRoundsPaired)
    ∷ (not (is_lawful_name name), BadName)
    ∷ (has_name event.players name, NameTaken)
    ∷ (nat_le MAX_PLAYERS (length event.players), PlayersFull)
    ∷ []

abbrev pub start_checks : EventValue → List Check
start_checks event =
    (not (is_enrolling event.phase), NotEnrolling)
    ∷ (nat_lt (length event.players) 2, TooFewPlayers)
    ∷ []

abbrev pub pair_checks : EventValue → ℕ → List Check
pair_checks event round =
    (not (is_swiss event.phase), NotSwiss)
    ∷ (not (round == length event.stored + 1), WrongRound (length event.stored + 1))
    ∷ (nat_lt event.rounds (length event.stored + 1), AllRoundsPaired)
    ∷ (newest_is_open event, RoundOpen (length event.stored))
    ∷ (nat_lt (length (active event)) 2, TooFewPlayers)
    ∷ []

abbrev pub already_reported : Option Games → List Check
already_reported None = []
already_reported (Some s) = (true, AlreadyReported s) ∷ []

abbrev pub checks_at : Option Match → (Match → List Check) → List Check
checks_at None more = (true, NoSuchMatch) ∷ []
checks_at (Some m) more = more m

-- while the Swiss rounds are played, a match of two players is asked for, and then more of it
abbrev pub score_checks : EventValue → ℕ → ℕ → (Match → List Check) → List Check
score_checks event round table more =
    (not (is_swiss event.phase), NotSwiss) ∷ checks_at (match_at event round table) (λ m. (is_bye m, IsBye) ∷ more m)

abbrev pub result_checks : EventValue → ℕ → ℕ → Games → List Check
result_checks event round table score =
    score_checks event round table (λ m. already_reported m.score ++ (not (is_swiss_score score), BadScore) ∷ [])

abbrev pub correct_checks : EventValue → ℕ → ℕ → Games → List Check
correct_checks event round table score =
    score_checks event round table (λ m. (is_none m.score, NotReported) ∷ (not (is_swiss_score score), BadScore) ∷ [])

abbrev pub of_player : Option Player → List Check
of_player None = (true, NoSuchPlayer) ∷ []
of_player (Some p) = (p.dropped, AlreadyDropped) ∷ []

abbrev pub drop_checks : EventValue → ℕ → List Check
drop_checks event player = (not (is_swiss event.phase), NotSwiss) ∷ of_player (find (λ (p : Player). p.no == player) event.players)

abbrev pub cut_checks : EventValue → List Check
cut_checks event =
    (not (is_swiss event.phase), NotSwiss)
    ∷ (event.cut == 0, NoCut)
    ∷ (not (all_rounds_done event), RoundsNotDone)
    ∷ (nat_lt (length (active event)) event.cut, TooFewForCut)
    ∷ []

abbrev pub playoff_checks : EventValue → ℕ → ℕ → Games → List Check
playoff_checks event stage slot score = (not (is_playoff event.phase), NotPlayoff) ∷ checks_at (slot_at event stage slot) (λ m.
    already_reported m.score ++ (not (is_playoff_score score), BadScore) ∷ [])
