-- The answer at a point: an event, and how many commands made it.
use Rattle.std.specs.Prelude.{◌≡◌, ◌⊎◌, ℕ, List}
use Rattle.er_event.specs.declared.refusals.Refusal.{Refusal}
use Rattle.er_event.specs.Slip.{slip_of}
use Rattle.er_paper.specs.Texts.{rows_text}
use Rattle.er_rank.specs.declared.rows.Row.{Row}
use Rattle.er_store.specs.Fault.{IsFault}
use Rattle.er_desk.specs.Desk.{Point}
use Rattle.er_desk.specs.Headline.{AreTheStandings}
use Rattle.er_desk.specs.Reply.{Reply, IsDue, IsLawfulReply, receipt}
use Rattle.er_answers.specs.Question.{reply_told, slip_told, text_told, view_text}
use Rattle.er_answers.specs.declared.question.Question.{Question}
use Rattle.er_answers.specs.declared.question.Question.TheVariants.{Submit, Standings, Show, Slip, Migrate}
use Rattle.er_answers.specs.declared.question.Answer.{Answer}
use Rattle.er_answers.specs.declared.question.Answer.TheVariants.{Accepted, Text, Refused}

-- What is due if memory and the device serve, over tables of this version: to a command its reply, to a migration the serial, and
-- else a text of the event.
abbrev pub IsDueAt : ℕ → Point → Question → Answer → Type 0
IsDueAt version point (Submit command) told =
    (reply : Reply) × IsDue version point.event point.serial command reply × (told ≡ reply_told reply)
IsDueAt version point Standings told =
    (rows : List Row) × AreTheStandings point.event rows × (told ≡ Text (rows_text point.event rows))
IsDueAt version point (Show view) told = told ≡ text_told (view_text view point.event)
IsDueAt version point (Slip round table) told = told ≡ slip_told (slip_of point.event round table)
IsDueAt version point Migrate told = told ≡ Accepted (receipt point.serial)

-- this, or a refusal for memory or by the device
abbrev pub OrFault : Type 0 → Answer → Type 0
OrFault Is told = Is ⊎ ((why : Refusal) × IsFault why × (told ≡ Refused why))

-- The answer: what is due, or a fault of memory or of the device. A command gets a fault of the device only in place of a receipt.
abbrev pub IsAnswerAt : ℕ → Point → Question → Answer → Type 0
IsAnswerAt version point (Submit command) told =
    (reply : Reply) × IsLawfulReply version point.event point.serial command reply × (told ≡ reply_told reply)
IsAnswerAt version point question told = OrFault (IsDueAt version point question told) told
