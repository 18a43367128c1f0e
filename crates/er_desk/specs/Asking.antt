-- What a call does to the file, if it asks a session of the desk: commands, or nothing.
use Rattle.std.specs.Prelude.{◌≡◌, ◌⊎◌, ◌↔◌, ◌++◌, ℕ, List, [], ◌∷◌, IsTrue, IsFalse, Option, Some, None, Err, IfErr, OnOk, OnErr}
use Rattle.sqlite_trees.specs.declared.store.Store.{Ghosts}
use Rattle.sqlite.specs.State.{HasCleanDisk}
use Rattle.er_event.specs.declared.commands.Command.{Command}
use Rattle.er_event.specs.declared.refusals.Cause.{Cause}
use Rattle.er_event.specs.declared.refusals.Refusal.TheVariants.{Store as StoreFault, NeedsReopen}
use Rattle.er_rules.specs.Sound.{IsSound}
use Rattle.er_store.specs.Reading.{KeepsTables}
use Rattle.er_store.specs.Representing.{KeepsOthers}
use Rattle.sqlite.specs.Tree.{Trees}
use Rattle.sqlite_wal.specs.Recovery.{Image}
use Rattle.er_desk.specs.declared.desk.Desk.{Desk}
use Rattle.er_desk.specs.Desk.{Point, Placed, HoldsOwnEvent, DeskState, Stops, Outcome, point_of, placed_at, placed_of, state, desk_state}
use Rattle.er_desk.specs.Desk.{version_in}
use Rattle.er_desk.specs.Reply.{Reply}
use Rattle.er_desk.specs.Run.{Runs, Session, IsStoredEnd, session_of, no_session}
use Rattle.er_desk.specs.History.{Ended, IsHistory, LeadsTo}
use Rattle.er_desk.specs.Headline.{RecoversJust, RecoversEither, RecoversEnd, NextBegins, IsBeginning, Recovers, RecoversHistory, and_then}

-- the later doubt, if there is one
abbrev pub later_in_doubt : Option Command → Option Command → Option Command
later_in_doubt doubt None = doubt
later_in_doubt doubt (Some later) = Some later

-- one session after the other, of one desk
abbrev pub join_sessions : Session → Session → Session
join_sessions one two = record { acknowledged = one.acknowledged ++ two.acknowledged; in_doubt = later_in_doubt one.in_doubt two.in_doubt }

-- What a call says of the desk and its file, whatever it asks.
pub record DeskCall {S : Type 0} (g : Ghosts S) (old new : Desk S g) : Type 0 where
  -- a desk that was stopped stays as it is
  pub waits : IsTrue (desk_state old).needs_reopen → new ≡ old
  -- the disk was clean if it is, the tables represent the event, and those of others stay, in the version that they were in
  pub clean : HasCleanDisk (state g new) → HasCleanDisk (state g old)
  pub represents : HasCleanDisk (state g new) → HoldsOwnEvent g old → IsFalse (desk_state new).needs_reopen → HoldsOwnEvent g new
  pub others : HasCleanDisk (state g new) → HoldsOwnEvent g old → IsTrue (state g new).is_open
      → KeepsOthers (version_in old) (state g old).now (state g new).now
  pub version : version_in new ≡ version_in old

-- Of a call that only reads, the session is `no_session`.
pub record Asks {S : Type 0} (g : Ghosts S) (old : Desk S g) (session : Session) (new : Desk S g) : Type 0 where
  pub as_call : DeskCall g old new
  -- of a desk that was stopped nothing is tried
  pub idle : IsTrue (desk_state old).needs_reopen → session ≡ no_session
  -- the event is the fold of the acknowledged commands, and nothing is in doubt while the desk runs
  pub leads : LeadsTo (point_of (desk_state old)) session.acknowledged (point_of (desk_state new))
  pub sure : IsFalse (desk_state new).needs_reopen → session.in_doubt ≡ None
  -- no table changes, if no command was kept
  pub kept : session.acknowledged ≡ [] → HasCleanDisk (state g new) → HoldsOwnEvent g old → KeepsTables (state g old) (state g new)
  -- a crash leaves an end of the session
  pub crash : HoldsOwnEvent g old → RecoversEnd (state g new) (placed_of (desk_state old)) session

-- Some session is asked, which does this to the desk.
abbrev pub AsksSome : {S : Type 0} (g : Ghosts S) → Desk S g → (DeskState → Session → DeskState → Type 0) → Desk S g → Type 0
AsksSome g old Does new = (session : Session) × Does (desk_state old) session (desk_state new) × Asks g old session new

-- What handing one command to a desk does.
pub record Submits {S : Type 0} (g : Ghosts S) (old : Desk S g) (command : Command) (reply : Reply) (new : Desk S g) : Type 0 where
  pub as_call : DeskCall g old new
  pub turn : Outcome (desk_state old) command reply (desk_state new)
  -- A fault of the store stops the desk, and nothing else does. `NeedsReopen` comes exactly if it was stopped.
  pub stops : IsTrue (desk_state new).needs_reopen ↔ (IsTrue (desk_state old).needs_reopen ⊎ Stops (desk_state old) command reply
      (desk_state new))
  pub fault : (cause : Cause) → reply ≡ Err (StoreFault cause) → IsTrue (desk_state new).needs_reopen
  pub asks : (reply ≡ Err NeedsReopen) ↔ IsTrue (desk_state old).needs_reopen
  -- A refusal that isn't a fault of the store leaves all as it was, and none changes a table.
  pub same : IfErr reply (λ _. IsFalse (desk_state new).needs_reopen → new ≡ old)
  pub kept : HasCleanDisk (state g new) → OnErr reply (KeepsTables (state g old) (state g new))
  -- With a receipt a crash leaves the event after the command, after a fault of the store the event before or after it,
  -- and the event before it if the desk stays as it was.
  pub acknowledged : HoldsOwnEvent g old → OnOk reply (RecoversJust (state g new) (placed_of (desk_state new)))
  pub in_doubt : IsFalse (desk_state old).needs_reopen → HoldsOwnEvent g old
      → RecoversEither (state g new) (placed_of (desk_state old)) command
  pub refused : HoldsOwnEvent g old → new ≡ old → RecoversJust (state g new) (placed_of (desk_state old))

-- to hand one command to a desk asks a session of this one command
abbrev pub SubmitsAsk : {S : Type 0} → Ghosts S → Type 0
SubmitsAsk {S} g = (old new : Desk S g) (command : Command) (reply : Reply) → Submits g old command reply new
    → Asks g old (session_of (command ∷ []) (reply ∷ []) (desk_state new).needs_reopen) new

-- two calls of a desk, one after the other, ask the two sessions in that order
abbrev pub AsksThen : {S : Type 0} → Ghosts S → Type 0
AsksThen {S} g = (old mid new : Desk S g) (one two : Session) → Asks g old one mid → Asks g mid two new
    → Asks g old (join_sessions one two) new

-- A first session has led to this point. The two joined lead from where the first began to where the second leads from there; and if
-- the first left nothing in doubt, they end where the second does.
pub record JoinsOn (first mid : Point) (one two : Session) : Type 0 where
  pub leads : (last : Point) → LeadsTo mid two.acknowledged last → LeadsTo first (join_sessions one two).acknowledged last
  pub ends : one.in_doubt ≡ None → (version : ℕ) (trees : Trees) → IsStoredEnd (placed_at mid version) two trees
      → IsStoredEnd (placed_at first version) (join_sessions one two) trees

abbrev pub SessionsJoin : Type 0
SessionsJoin = (first mid : Point) (one two : Session) → LeadsTo first one.acknowledged mid → JoinsOn first mid one two

-- the session of a list, and one more command after it, are the session of the longer list
abbrev pub ListsGrow : Type 0
ListsGrow = (old mid new : DeskState) (commands : List Command) (replies : List Reply) (command : Command) (reply : Reply)
    → Runs old commands replies mid → Outcome mid command reply new
    → join_sessions (session_of commands replies mid.needs_reopen) (session_of (command ∷ []) (reply ∷ []) new.needs_reopen)
    ≡ session_of (commands ++ command ∷ []) (replies ++ reply ∷ []) new.needs_reopen

-- Of a history of a new event. It ended at a sound event. If what is left then is an end of a session that began
-- there, the next session begins at it. Files that represent what the session surely led to were left by the history with this session
-- after it.
pub record GoesOnFrom (new first : Point) (ends : List Ended) : Type 0 where
  pub sound : IsSound first.event
  pub begins : (version : ℕ) (session : Session) (trees : Trees) → IsStoredEnd (placed_at first version) session trees
      → NextBegins new ends session version trees
  pub leaves : (session : Session) (last : Placed) (left : Image) → LeadsTo first session.acknowledged last.point → session.in_doubt ≡ None
      → Recovers left last → RecoversHistory left new (and_then ends session last.point) last

abbrev pub NextSessions : Type 0
NextSessions = (new first : Point) (ends : List Ended) → IsBeginning new → IsHistory new ends first → GoesOnFrom new first ends
