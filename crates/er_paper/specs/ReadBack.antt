-- What an event's exports hold, line by line, and that they read back.
use Rattle.std.specs.Prelude.{◌≡◌, ℕ, List, map, flat_map, Result, Ok}
use Rattle.std.specs.List.{enumerate_from}
use Rattle.er_event.specs.declared.players.Player.{Player}
use Rattle.er_event.specs.declared.matches.Match.{Match}
use Rattle.er_event.specs.declared.rounds.Round.{Round}
use Rattle.er_event.specs.Event.{EventValue}
use Rattle.er_event.specs.Round.{table_of}
use Rattle.er_event.specs.Sound.{IsSoundButForSeeds}
use Rattle.er_paper.specs.declared.imports.CsvFault.{CsvFault}
use Rattle.er_paper.specs.declared.imports.PlayerLine.{PlayerLine}
use Rattle.er_paper.specs.declared.imports.ResultLine.{ResultLine}
use Rattle.er_paper.specs.Tables.{players_csv, results_csv}
use Rattle.er_paper.specs.Reading.{ReadsPlayers, ReadsResults}

abbrev pub line_of_player : Player → PlayerLine
line_of_player p = record { no = p.no; name = p.name; dropped = p.dropped }

-- by number
abbrev pub exported_players : EventValue → List PlayerLine
exported_players event = map line_of_player event.players

abbrev pub line_of_match : ℕ → ℕ × Match → ResultLine
line_of_match round numbered =
    let m = numbered.1 in
    record { round = round; table = table_of numbered; a = m.a; b = m.b; score = m.score }

-- tables 1, 2, .. and then the bye
abbrev pub lines_of_round : ℕ → List Match → List ResultLine
lines_of_round round matches = map (line_of_match round) (enumerate_from 1 matches)

abbrev pub lines_of_rounds : ℕ → List Round → List ResultLine
lines_of_rounds first rounds = flat_map (λ (n : ℕ × Round). lines_of_round n.0 n.1.matches) (enumerate_from first rounds)

-- round by round
abbrev pub exported_results : EventValue → List ResultLine
exported_results event = lines_of_rounds 1 event.stored

-- a sound event's table of players is read as its players, and as nothing else
abbrev pub PlayersReadBack : Type 0
PlayersReadBack = (event : EventValue) → IsSoundButForSeeds event
    → ReadsPlayers (players_csv event) (Ok (exported_players event))
    × ((result : Result (List PlayerLine) CsvFault) → ReadsPlayers (players_csv event) result → result ≡ Ok (exported_players event))

-- the same of its stored Swiss matches
abbrev pub ResultsReadBack : Type 0
ResultsReadBack = (event : EventValue) → IsSoundButForSeeds event
    → ReadsResults (results_csv event) (Ok (exported_results event))
    × ((result : Result (List ResultLine) CsvFault) → ReadsResults (results_csv event) result → result ≡ Ok (exported_results event))
