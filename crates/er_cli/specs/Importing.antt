-- What enrolling the names of a list does to the desk, and what is printed of it.
use Rattle.std.specs.Prelude.{◌≡◌, ◌⊎◌, ◌≤◌, ℕ, Bool, true, false, ◌≢◌, IsTrue, IsFalse, List, [], ◌∷◌, ◌++◌, length, map, take, Option}
use Rattle.std.specs.Prelude.{Some, None, IfSome, MatchOption, Ok, Err, is_ok, not, codes}
use Rattle.std.specs.List.{filter, list_any}
use Rattle.std.specs.Fmt.{decimal}
use Rattle.std.specs.Io.KnownBytes.{Appends}
use Rattle.er_event.specs.declared.commands.Command.TheVariants.{Enrol}
use Rattle.er_event.specs.declared.refusals.Refusal.{Refusal}
use Rattle.er_event.specs.declared.refusals.Refusal.TheVariants.{NameTaken, Memory}
use Rattle.er_desk.specs.Desk.{DeskState}
use Rattle.er_desk.specs.Reply.{Reply}
use Rattle.er_desk.specs.Run.{Runs, Session, session_of, no_session}
use Rattle.er_paper.specs.declared.imports.CsvFault.{CsvFault}
use Rattle.er_paper.specs.declared.imports.CsvFault.TheVariants.{BadHeading, BadRow}
use Rattle.er_paper.specs.declared.imports.CsvFault.TheVariants as csv
use Rattle.er_paper.specs.declared.imports.PlayerLine.{PlayerLine}
use Rattle.er_paper.specs.Reading.{ReadsPlayers}
use Rattle.er_cli.specs.declared.TheConstants.{DONE, REFUSED, DEVICE}
use Rattle.er_cli.specs.declared.importing.Additions.{Additions}
use Rattle.er_cli.specs.declared.importing.TheConstants.{MAX_LIST_BYTES}
use Rattle.er_answers.specs.declared.question.Answer.TheVariants.{Refused}
use Rattle.er_cli.specs.Help.{Printed, PutsText, Says, Tells, refusal_status}
use Rattle.er_cli.specs.Texts.{told_text, AppendsPart}

-- the player was there already
abbrev pub is_taken : Refusal → Bool
is_taken NameTaken = true
is_taken why = false

abbrev pub is_already : Reply → Bool
is_already (Ok receipt) = false
is_already (Err why) = is_taken why

-- any other refusal
abbrev pub is_stop : Reply → Bool
is_stop (Ok receipt) = false
is_stop (Err why) = not (is_taken why)

abbrev pub last_reply : Option Refusal → List Reply
last_reply None = []
last_reply (Some why) = Err why ∷ []

-- Each name is one command, in order, until there is none or one is refused otherwise than as taken.
pub record Enrols (names : List (List ℕ)) (old : DeskState) (additions : Additions) (stop : Option Refusal) (session : Session)
    (new : DeskState) : Type 0 where
  pub replies : List Reply
  pub ran : Runs old (map Enrol (take (length (replies ++ last_reply stop)) names)) (replies ++ last_reply stop) new
  -- these commands are the session
  pub asked : session ≡ session_of (map Enrol (take (length (replies ++ last_reply stop)) names))
      (replies ++ last_reply stop) new.needs_reopen
  pub counted : additions ≡ record { added = length (filter is_ok replies); already = length (filter is_already replies) }
  pub goes_on : IsFalse (list_any is_stop replies)
  pub all : stop ≡ None → length replies ≡ length names
  pub ends : IfSome stop (λ why. IsTrue (is_stop (Err why)))

-- ---- what is printed

-- the additions go to the output, and then the refusal that ended the import to the errors
abbrev pub PrintsAdditions : Additions → Option Refusal → Printed → Type 0
PrintsAdditions additions stop p =
    let text = codes "added " ++ (decimal additions.added ++ (codes " already " ++ (decimal additions.already ++ (10 ∷ [])))) in
    (Appends p.out.before p.out.after text
    × MatchOption stop ((p.status ≡ DONE) × (p.err.after ≡ p.err.before))
    (λ why. PutsText (told_text (Refused why)) (refusal_status why) p.err p.status))
    ⊎ ((p.status ≡ DEVICE) × AppendsPart p.out.before p.out.after text × (p.err.after ≡ p.err.before))

-- what is said of a list that has a fault
abbrev pub fault_text : CsvFault → List ℕ
fault_text BadHeading = codes "bad csv heading\n"
fault_text (BadRow row) = codes "bad csv row " ++ (decimal row ++ (10 ∷ []))
fault_text csv.Memory = []

-- nobody is enrolled
abbrev pub EnrolsNobody : DeskState → Session → DeskState → Type 0
EnrolsNobody old session new = (new ≡ old) × (session ≡ no_session)

module _ (p : Printed) where
  -- the fault of a list is named; of a list without one the names are handed to the desk, and the additions are printed
  abbrev pub TakesList : List ℕ → DeskState → Session → DeskState → Type 0
  TakesList list old session new =
      ((fault : CsvFault) × (fault ≢ csv.Memory) × ReadsPlayers list (Err fault) × EnrolsNobody old session new
      × Says (fault_text fault) REFUSED p.err p.out p.status)
      ⊎ ((lines : List PlayerLine) × ReadsPlayers list (Ok lines)
      × ((additions : Additions) × (stop : Option Refusal) × Enrols (map (λ line. line.name) lines) old additions stop session new
      × PrintsAdditions additions stop p))

  -- The list can't be read, or memory runs out for it, or it is taken. Nobody is enrolled but by the last. If it is known what the list
  -- holds, that is taken.
  abbrev pub Imports : Option (List ℕ) → DeskState → Session → DeskState → Type 0
  Imports known old session new =
      (EnrolsNobody old session new × Says (codes "cannot read\n") DEVICE p.err p.out p.status)
      ⊎ (EnrolsNobody old session new × Tells (Refused Memory) p)
      ⊎ ((list : List ℕ) × (length list ≤ MAX_LIST_BYTES) × IfSome known (λ all. list ≡ all) × TakesList list old session new)
