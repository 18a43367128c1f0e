-- What is told of what a desk has done, read or made.
use Rattle.std.specs.Global.{Global}
use Rattle.std.specs.Prelude.{◌≡◌, ◌⊎◌, ℕ, List, Option, Some, None, Result, Ok, Err, Vec}
use Rattle.er_event.specs.declared.refusals.Refusal.{Refusal}
use Rattle.er_event.specs.declared.refusals.Refusal.TheVariants.{Memory, NoSuchMatch}
use Rattle.er_event.specs.declared.slips.SlipRow.{SlipRow}
use Rattle.er_event.specs.Event.{EventValue}
use Rattle.er_paper.specs.Slip.{slip_text}
use Rattle.er_paper.specs.Texts.{bracket_text, pairings_text, players_text, rows_text}
use Rattle.er_paper.specs.Tables.{players_csv, results_csv}
use Rattle.er_rank.specs.declared.rows.Row.{Row}
use Rattle.er_desk.specs.Reply.{Reply, receipt}
use Rattle.er_answers.specs.declared.question.View.{View}
use Rattle.er_answers.specs.declared.question.View.TheVariants.{Players, Pairings, Bracket, PlayersCsv, ResultsCsv}
use Rattle.er_answers.specs.declared.question.Answer.{Answer}
use Rattle.er_answers.specs.declared.question.Answer.TheVariants.{Accepted, Text, Slip, Refused}

-- a text of the event; none for a round that isn't stored
abbrev pub view_text : View → EventValue → Option (List ℕ)
view_text Players event = Some (players_text event)
view_text (Pairings round) event = pairings_text event round
view_text Bracket event = Some (bracket_text event)
view_text PlayersCsv event = Some (players_csv event)
view_text ResultsCsv event = Some (results_csv event)

-- a round that isn't stored has no pairings
abbrev pub text_told : Option (List ℕ) → Answer
text_told None = Refused NoSuchMatch
text_told (Some text) = Text text

abbrev pub ShowsView : View → EventValue → Answer → Type 0
ShowsView view event told = told ≡ text_told (view_text view event)

abbrev pub reply_told : Reply → Answer
reply_told (Ok receipt) = Accepted receipt
reply_told (Err why) = Refused why

-- the serial, which stays, or why the tables were not moved
abbrev pub moved_told : Result ℕ Refusal → Answer
moved_told (Ok serial) = Accepted (receipt serial)
moved_told (Err why) = Refused why

-- a match that isn't stored has no slip
abbrev pub slip_told : Option SlipRow → Answer
slip_told None = Refused NoSuchMatch
slip_told (Some row) = Slip (slip_text row)

-- of a slip that was read, its text, or that there is no memory for it
abbrev pub IsSlipTold : Result SlipRow Refusal → Answer → Type 0
IsSlipTold (Ok row) told = (told ≡ Slip (slip_text row)) ⊎ (told ≡ Refused Memory)
IsSlipTold (Err why) told = told ≡ Refused why

-- of standings that were read, their text, or that there is no memory for it
abbrev pub IsRowsTold : EventValue → Result (Vec Row Global) Refusal → Answer → Type 0
IsRowsTold event (Ok rows) told = (told ≡ Text (rows_text event rows.items)) ⊎ (told ≡ Refused Memory)
IsRowsTold event (Err why) told = told ≡ Refused why
