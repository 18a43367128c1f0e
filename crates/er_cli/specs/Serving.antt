-- What serving clients does: to the desk, and to what is printed.
use Rattle.std.specs.Global.{Global}
use Rattle.std.specs.Prelude.{◌≡◌, ◌⊎◌, ◌≤◌, ℕ, zero, suc, List, [], ◌∷◌, ◌++◌, length, Option, Some, None, IfSome, Result, Ok, Vec, codes}
use Rattle.std.specs.Fmt.{decimal}
use Rattle.er_event.specs.declared.commands.Command.TheVariants.{Result as ReportResult}
use Rattle.er_event.specs.declared.refusals.Refusal.{Refusal}
use Rattle.er_event.specs.declared.refusals.Refusal.TheVariants.{Memory}
use Rattle.er_answers.specs.declared.question.Answer.TheVariants.{Refused}
use Rattle.er_event.specs.declared.scores.Games.{Games}
use Rattle.er_event.specs.declared.slips.SlipRow.{SlipRow}
use Rattle.er_rank.specs.declared.rows.Row.{Row}
use Rattle.er_desk.specs.Asking.{join_sessions}
use Rattle.er_desk.specs.Desk.{DeskState, Outcome, ReadsRows, ReadsSlip}
use Rattle.er_desk.specs.Reply.{Reply}
use Rattle.er_desk.specs.Run.{Session, session_of, no_session}
use Rattle.er_slips.specs.declared.request.wanted.Request.TheVariants.{Report}
use Rattle.er_slips.specs.Request.{IsRequest}
use Rattle.er_cli.specs.declared.TheConstants.{DONE, DEVICE}
use Rattle.er_cli.specs.declared.help.TheConstants.{CANNOT_LISTEN}
use Rattle.er_cli.specs.Clients.{GetEach, Got}
use Rattle.er_cli.specs.Help.{Printed, PutsText, Says, Stream, Tells}

-- One connection: the desk stays as it is, reads its standings or a slip, or is handed one score. Only the score is
-- a command. Of a client of whom it is known what it sends, just that asks for the score.
abbrev pub Connects : (sent : Option (List ℕ)) → DeskState → Session → DeskState → Type 0
Connects sent old session new =
    ((new ≡ old) × (session ≡ no_session))
    ⊎ ((read : Result (Vec Row Global) Refusal) × ReadsRows old read new × (session ≡ no_session))
    ⊎ ((read : Result SlipRow Refusal) × ReadsSlip old read new × (session ≡ no_session))
    ⊎ ((round table : ℕ) × (score : Games) × (reply : Reply) × IfSome sent (λ input. IsRequest input (Ok (Report round table score)))
    × Outcome old (ReportResult round table score) reply new
    × (session ≡ session_of (ReportResult round table score ∷ []) (reply ∷ []) new.needs_reopen))

-- The next of those who were to come sent this, and the others are still to come. Or nobody came.
abbrev pub SendsNext : (coming : Option (List (List ℕ))) → (sent : Option (List ℕ)) → (then : Option (List (List ℕ))) → Type 0
SendsNext None sent then = Unit {0}
SendsNext (Some inputs) sent then =
    ((input : List ℕ) × (rest : List (List ℕ)) × (inputs ≡ input ∷ rest) × (sent ≡ Some input) × (then ≡ Some rest))
    ⊎ ((sent ≡ Some []) × (then ≡ Some inputs))

-- the next connection
abbrev pub ConnectsNext : (coming then : Option (List (List ℕ))) → DeskState → Session → DeskState → Type 0
ConnectsNext coming then old session new = (sent : Option (List ℕ)) × SendsNext coming sent then × Connects sent old session new

-- `count` connections, one after the other
abbrev pub ConnectsAll : ℕ → (coming then : Option (List (List ℕ))) → DeskState → Session → DeskState → Type 0
ConnectsAll zero coming then old session new = (then ≡ coming) × (new ≡ old) × (session ≡ no_session)
ConnectsAll (suc count) coming then old session new =
    (mid : Option (List (List ℕ))) × (last : DeskState) × (before one : Session) × ConnectsAll count coming mid old before last
    × ConnectsNext mid then last one new × (session ≡ join_sessions before one)

-- of those who were to come
abbrev pub ConnectsMany : ℕ → (coming : Option (List (List ℕ))) → DeskState → Session → DeskState → Type 0
ConnectsMany count coming old session new = (then : Option (List (List ℕ))) × ConnectsAll count coming then old session new

abbrev pub ConnectsUpTo : ℕ → (coming : Option (List (List ℕ))) → DeskState → Session → DeskState → Type 0
ConnectsUpTo most coming old session new = (count : ℕ) × (count ≤ most) × ConnectsMany count coming old session new

-- all of them, or with status 3 some
abbrev pub ServesAll : (count status : ℕ) → (coming : Option (List (List ℕ))) → DeskState → Session → DeskState → Type 0
ServesAll count status coming old session new =
    ((status ≡ DONE) × ConnectsMany count coming old session new) ⊎ ((status ≡ DEVICE) × ConnectsUpTo count coming old session new)

-- the port that is listened at, and at the end how many clients were served, or a beginning of this
abbrev pub PrintsServed : (port count : ℕ) → Stream → ℕ → Type 0
PrintsServed port count stream status =
    PutsText ((codes "listening " ++ (decimal port ++ (10 ∷ []))) ++ (codes "served " ++ (decimal count ++ (10 ∷ [])))) DONE stream status

-- at the port that was asked for; 0 asks for one that is free
abbrev pub PrintsSome : (asked count : ℕ) → Stream → ℕ → Type 0
PrintsSome asked count stream status =
    (port : ℕ) × (port ≤ 65535) × ((asked ≡ 0) ⊎ (port ≡ asked)) × PrintsServed port count stream status

-- Of clients of whom it is known what they send, and what they got then: each got what it was due, on the event that those before it left.
abbrev pub GetDue : (Represented : Type 0) → ℕ → (coming : Option (List (List ℕ))) → (got : Option (List Got)) → DeskState → Session
    → DeskState → Type 0
GetDue Represented count None got old session new = Unit {0}
GetDue Represented count (Some inputs) None old session new = Unit {0}
GetDue Represented count (Some inputs) (Some gots) old session new =
    (came rest : List (List ℕ)) × (inputs ≡ came ++ rest) × (length came ≡ count) × GetEach Represented old came gots session new

-- Clients were served. Or nobody was listened to: the port can't be had, or memory ran out.
abbrev pub ServesClients : (Represented : Type 0) → Printed → (port count : ℕ) → (coming : Option (List (List ℕ))) → (got : Option (List Got)) → DeskState
    → Session → DeskState → Type 0
ServesClients Represented p port count coming got old session new =
    (PrintsSome port count p.out p.status × (p.err.after ≡ p.err.before) × ServesAll count p.status coming old session new
    × (p.status ≡ DONE → GetDue Represented count coming got old session new))
    ⊎ ((new ≡ old) × (session ≡ no_session) × (Says CANNOT_LISTEN.now DEVICE p.err p.out p.status ⊎ Tells (Refused Memory) p))
