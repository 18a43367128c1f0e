-- What a line has done, and to which file.
use Rattle.std.specs.Prelude.{ℕ, List, Option, option_map}
use Rattle.er_event.specs.declared.commands.Command.TheVariants as command
use Rattle.er_answers.specs.declared.question.Question.{Question}
use Rattle.er_answers.specs.declared.question.Question.TheVariants as question
use Rattle.er_answers.specs.declared.question.View.{View}
use Rattle.er_answers.specs.declared.question.View.TheVariants as view
use Rattle.er_words.specs.declared.values.ExportKind.{ExportKind}
use Rattle.er_words.specs.declared.values.ExportKind.TheVariants as list
use Rattle.er_words.specs.Fields.{script_line}
use Rattle.er_words.specs.declared.line.Line.{Line}
use Rattle.er_words.specs.declared.line.Line.TheVariants.{Init, Enrol, Import, Start, Pair, Result as ReportResult, Correct, Drop, Cut}
use Rattle.er_words.specs.declared.line.Line.TheVariants.{Playoff}
use Rattle.er_words.specs.declared.line.Line.TheVariants.{Standings, Players, Slips, Bracket, Export, Serve, Migrate}
use Rattle.er_cli.specs.declared.action.Action.{Action}
use Rattle.er_cli.specs.declared.action.Action.TheVariants as action
use Rattle.er_cli.specs.declared.action.Task.TheVariants as task

abbrev pub file_of : Line → List ℕ
file_of (Init file name rounds cut) = file
file_of (Enrol file name) = file
file_of (Import file list) = file
file_of (Start file) = file
file_of (Pair file round seed) = file
file_of (ReportResult file round table score) = file
file_of (Correct file round table score) = file
file_of (Drop file player) = file
file_of (Cut file) = file
file_of (Playoff file stage slot score) = file
file_of (Standings file) = file
file_of (Players file) = file
file_of (Slips file round) = file
file_of (Bracket file) = file
file_of (Export file kind) = file
file_of (Serve file port count) = file
file_of (Migrate file) = file

-- the desk of the event is asked
abbrev pub asks : Question → Action
asks question = action.Open (task.Ask question)

-- the list of an export
abbrev pub view_of : ExportKind → View
view_of list.Players = view.PlayersCsv
view_of list.Results = view.ResultsCsv

-- an event is made, gets a command or a list of names, is shown, served to clients, or has its tables moved
abbrev pub action_of : Line → Action
action_of (Init file name rounds cut) = action.Init name rounds cut
action_of (Enrol file name) = asks (question.Submit (command.Enrol name))
action_of (Import file list) = action.Open (task.Import list)
action_of (Start file) = asks (question.Submit command.Start)
action_of (Pair file round seed) = asks (question.Submit (command.Pair round seed))
action_of (ReportResult file round table score) = asks (question.Submit (command.Result round table score))
action_of (Correct file round table score) = asks (question.Submit (command.Correct round table score))
action_of (Drop file player) = asks (question.Submit (command.Drop player))
action_of (Cut file) = asks (question.Submit command.Cut)
action_of (Playoff file stage slot score) = asks (question.Submit (command.Playoff stage slot score))
action_of (Standings file) = asks question.Standings
action_of (Players file) = asks (question.Show view.Players)
action_of (Slips file round) = asks (question.Show (view.Pairings round))
action_of (Bracket file) = asks (question.Show view.Bracket)
action_of (Export file kind) = asks (question.Show (view_of kind))
action_of (Serve file port count) = action.Open (task.Serve port count)
action_of (Migrate file) = asks question.Migrate

-- what a line of a script has done
abbrev pub script_action : List ℕ → Option Action
script_action line = option_map action_of (script_line line)
