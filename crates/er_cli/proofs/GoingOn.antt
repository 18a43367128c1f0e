-- A history goes on with what a command line asks.
use Rattle.std.proofs.Common.{◌≡◌, ◌≢◌, ◌⊎◌, inl, inr, ℕ, Bool, true, false, IsTrue, IsFalse, List, [], ◌∷◌, Option, Some, None}
use Rattle.std.proofs.Common.{Vec, Global, Result, Ok, Err, is_ok, refl, sym, ap, subst, ◌∙◌, arith, true≢false}
use Rattle.sqlite.specs.{Tree.Trees, State.HasCleanDisk}
use Rattle.sqlite.specs.Files.{HoldsDatabase, IsCleanLeft, file_state, over_files}
use Rattle.sqlite_disk.specs.declared.Disk as disk
use Rattle.sqlite_wal.specs.Recovery.{Image}
use Rattle.sqlite_store.specs.declared.store.FileStore.{FileStore}
use Rattle.er_event.specs.{declared.commands.Command.Command, declared.commands.Receipt.Receipt, declared.refusals.Refusal.Refusal}
use Rattle.er_event.specs.{declared.refusals.Refusal.TheVariants.{BadSetup, Memory, NoEvent}, Event.EventValue}
use Rattle.er_rank.specs.declared.rows.Row.{Row}
use Rattle.er_store.specs.{Fault.{IsFault}, Representing.{AfterCrash, RepresentsIn}}
use Rattle.er_desk.specs.{declared.desk.Desk.Desk, Desk.{Point, Placed, DeskState, Outcome, Reads, HoldsOwnEvent, point_of}}
use Rattle.er_desk.specs.Desk.{IsStoredAt, placed_at, placed_of, running_at, desk_state, state, version_in}
use Rattle.er_desk.specs.{Reply.{Reply, receipt}, Run.{Session, IsStoredEnd, no_session}, History.{Ended}}
use Rattle.er_desk.specs.{Files.HasMade, Headline.{FindsAgain, IsBeginning, RecoversHistory, RecoversWhole}}
use Rattle.er_desk.specs.Migrating.{MayMigrate, Migrates, MovesDesk}
use Rattle.sqlite_trees.specs.declared.store.Store.{Ghosts}
use Rattle.er_desk.specs.{Asking.{Asks, GoesOnFrom, NextSessions}}
use Rattle.er_desk.specs.{History.new_point, Opening.NoneAwaitsIn}
use Rattle.er_event.specs.{Sound.{IsSetUp}, Version.{IsVersion}}
use Rattle.er_cli.specs.Clients.{Got}
use Rattle.er_cli.specs.{Files.{MakesEvent, WorksOn}, Next.{GoesTo, LeavesAgain, LeavesUnopened, RecoversSession}}
use Rattle.er_cli.specs.Remains.{IsClearedOf, PutsAway, WasOpenedClean}
use Rattle.er_cli.specs.World.{World}
use Rattle.er_cli.specs.declared.remains.{Remains.Remains, Remains.TheVariants.Nothing}
use Rattle.er_cli.proofs.Leaving.{put_such, put_clean, was_put, cleared_such, cleared_clean, cleared_unopened, cleared_sound, put_sound}
use Rattle.er_cli.proofs.Leaving.{BeginsIn, cleared_again, left_by, put_unopened}
use Rattle.std.proofs.Math.Logic.{∥∥₁_elim}
use Rattle.sqlite_trees.specs.Props.{Trees-set}
use Rattle.sqlite.specs.Effect.{Database}
use Rattle.sqlite_catalog.specs.Listing.{IsSound}
use Rattle.er_desk.specs.{declared.opening.OpenFault.OpenFault, declared.opening.OpenFault.TheVariants.Unopened as NotOpened}
use Rattle.er_desk.specs.{declared.opening.OpenFault.TheVariants.Refused as OpenedInVain}
use Rattle.er_desk.specs.{Opening.{OnRefused, OnUnopened, SparesAt, StaysThere, WhereUnopened, IsCleanFault, HoldsStill, why_of}}
use Rattle.er_event.specs.{declared.slips.SlipRow.SlipRow, Slip.slip_of, declared.refusals.Refusal.TheVariants.NoSuchMatch}
use Rattle.er_store.specs.Fault.{IsReadFault}
use Rattle.er_answers.specs.Answers.{AnswersDesk, AsksFor, DoesAsked, MovesFile, session_at}
use Rattle.er_answers.specs.{Due.{IsAnswerAt, IsDueAt, OrFault}, Question.{IsRowsTold, IsSlipTold, moved_told, reply_told, slip_told}}
use Rattle.er_answers.specs.declared.question.{Question.Question, Answer.Answer, Answer.TheVariants.{Accepted, Refused}}
use Rattle.er_answers.specs.declared.question.Question.TheVariants.{Submit, Standings, Show, Slip as SlipOf, Migrate}
use Rattle.er_cli.specs.declared.action.{Task.Task, Task.TheVariants.{Ask, Import, Serve}}
use Rattle.er_cli.specs.GoingOn.{GoesOnBy, LeadsToVersion, MakesNoOther, MayMoveTables, MigrationsLead, StaysUnopened}
use Rattle.er_cli.specs.Tasks.{AnswersQuestion, AnswersTask, DoesTask, Work, work_of}
use Rattle.er_cli.specs.Tasks.Work.{Commands, Migration}
use Rattle.er_cli.proofs.OnlySuch.{imports_only, serves_only}
use Rattle.er_cli.specs.{Words.{Does, EndsLine, GoesOnAction, GoesOnWith, TellsAndLeaves}, Help.{Printed, Tells}}
use Rattle.er_cli.specs.declared.action.{Action.Action, Action.TheVariants.{Init, Open}}

-- ---- a receipt

abbrev command_or : Command → Question → Command
command_or other (Submit command) = command
command_or other question = other

abbrev is_submitted : Question → Bool
is_submitted (Submit command) = true
is_submitted question = false

abbrev is_accepted : Answer → Bool
is_accepted (Accepted receipt) = true
is_accepted told = false

turn_runs : (old new : DeskState) (c : Command) (receipt : Receipt) → Outcome old c (Ok receipt) new → IsFalse new.needs_reopen
turn_runs old new c receipt (inl it) = it.runs
turn_runs old new c receipt (inr (inl it)) = absurd (true≢false (ap is_ok it.answered))
turn_runs old new c receipt (inr (inr (inl it))) = absurd (true≢false (ap is_ok it.answered))
turn_runs old new c receipt (inr (inr (inr it))) = absurd (true≢false (ap is_ok it.answered))

abbrev pub one_kept : Command → Session
one_kept command = record { acknowledged = command ∷ []; in_doubt = None }

other_kept : {P : Type 0} (question : Question) (command : Command) → question ≡ Submit command → is_submitted question ≡ false → P
other_kept question command asked other = absurd (true≢false (sym (ap is_submitted asked) ∙ other))

pub kept_alone : (old new : DeskState) (question : Question) (told : Answer) → DoesAsked old question told new
    → (command : Command) (receipt : Receipt) → question ≡ Submit command → told ≡ Accepted receipt
    → session_at question told new.needs_reopen ≡ one_kept command
kept_alone old new (Submit c) told (Ok given, turn, is) command receipt asked tells =
    subst (λ (a : Answer). session_at (Submit c) a new.needs_reopen ≡ one_kept command) (sym is)
    (subst (λ (b : Bool). session_at (Submit c) (Accepted given) b ≡ one_kept command) (sym (turn_runs old new c given turn))
    (ap one_kept (ap (command_or c) asked)))
kept_alone old new (Submit c) told (Err why, turn, is) command receipt asked tells =
    absurd (true≢false (sym (ap is_accepted tells) ∙ ap is_accepted is))
kept_alone old new Standings told it command receipt asked tells = other_kept Standings command asked refl
kept_alone old new (Show view) told it command receipt asked tells = other_kept (Show view) command asked refl
kept_alone old new (SlipOf round table) told it command receipt asked tells = other_kept (SlipOf round table) command asked refl
kept_alone old new Migrate told it command receipt asked tells = other_kept Migrate command asked refl

-- ---- a fault of the store

turn_fault : (old new : DeskState) (c : Command) (r : Reply) → Outcome old c r new → IsFalse old.needs_reopen → IsTrue new.needs_reopen
    → (why : Refusal) × IsFault why × (r ≡ Err why)
turn_fault old new c r (inl it) runs stopped = absurd (true≢false (sym stopped ∙ it.runs))
turn_fault old new c r (inr (inl it)) runs stopped =
    absurd (true≢false (sym stopped ∙ (ap (λ (s : DeskState). s.needs_reopen) it.same ∙ runs)))
turn_fault old new c r (inr (inr (inl it))) runs stopped = (it.why, it.fault, it.answered)
turn_fault old new c r (inr (inr (inr it))) runs stopped = absurd (true≢false (sym it.needed_reopen ∙ runs))

still : {P : Type 0} (old new : DeskState) → new ≡ old → IsFalse old.needs_reopen → IsTrue new.needs_reopen → P
still old new same runs stopped = absurd (true≢false (sym stopped ∙ (ap (λ (s : DeskState). s.needs_reopen) same ∙ runs)))

-- a reading that stopped the desk was refused by a fault
stopped_by : {A : Type 0} (passing : Refusal) (old new : DeskState) (read : Result A Refusal) → Reads passing old read new
    → IsFalse old.needs_reopen → IsTrue new.needs_reopen → (why : Refusal) × IsReadFault why × (read ≡ Err why)
stopped_by passing old new read (inl (going, same, was)) runs stopped = still old new same runs stopped
stopped_by passing old new read (inr (inl (going, same, why, fault, is))) runs stopped = (why, fault, is)
stopped_by passing old new read (inr (inr (was, same, is))) runs stopped = absurd (true≢false (sym was ∙ runs))

rows_refused : (event : EventValue) (read : Result (Vec Row Global) Refusal) (why : Refusal) (told : Answer) → read ≡ Err why
    → IsRowsTold event read told → told ≡ Refused why
rows_refused event read why told is tells = subst (λ (r : Result (Vec Row Global) Refusal). IsRowsTold event r told) is tells

slip_refused : (read : Result SlipRow Refusal) (why : Refusal) (told : Answer) → read ≡ Err why → IsSlipTold read told → told ≡ Refused why
slip_refused read why told is tells = subst (λ (r : Result SlipRow Refusal). IsSlipTold r told) is tells

no_rows : (point : Point) (version : ℕ) (why : Refusal) (told : Answer) → told ≡ Refused why
    → OrFault (IsDueAt version point Standings told) told → OrFault ⊥ told
no_rows point version why told is (inl (rows, are, shows)) = absurd (let both = sym is ∙ shows in cc)
no_rows point version why told is (inr fault) = inr fault

read_fault_is_none : (why : Refusal) → IsReadFault why → why ≡ NoSuchMatch → ⊥
read_fault_is_none why (inl (inl memory)) is = cc
read_fault_is_none why (inl (inr refused)) is = cc
read_fault_is_none why (inr row) is = cc

no_slip : (slip : Option SlipRow) (why : Refusal) (told : Answer) → IsReadFault why → told ≡ Refused why → told ≡ slip_told slip → ⊥
no_slip None why told fault is shows = read_fault_is_none why fault (let both : Refused why ≡ Refused NoSuchMatch = sym is ∙ shows in cc)
no_slip (Some row) why told fault is shows = let both : Refused why ≡ slip_told (Some row) = sym is ∙ shows in cc

slip_fault : (version : ℕ) (point : Point) (round table : ℕ) (why : Refusal) (told : Answer) → IsReadFault why → told ≡ Refused why
    → OrFault (IsDueAt version point (SlipOf round table) told) told → OrFault ⊥ told
slip_fault version point round table why told fault is (inl shows) =
    absurd (no_slip (slip_of point.event round table) why told fault is shows)
slip_fault version point round table why told fault is (inr due) = inr due

moved_fault : (old new : DeskState) (moved : Result ℕ Refusal) (told : Answer) → IsFalse old.needs_reopen
    → Migrates old moved new → told ≡ moved_told moved → IsTrue new.needs_reopen → OrFault ⊥ told
moved_fault old new (Ok serial) told runs it is stopped =
    absurd (true≢false (sym stopped ∙ (ap (λ (s : DeskState). s.needs_reopen) it.2 ∙ runs)))
moved_fault old new (Err why) told runs (inl it) is stopped = still old new it.2 runs stopped
moved_fault old new (Err why) told runs (inr it) is stopped = inr (why, it.2, is)

-- what stopped a desk over its own tables was told
pub doubt_fault : (Represented : Type 0) (old new : DeskState) (question : Question) (told : Answer) → Represented
    → IsFalse old.needs_reopen
    → AnswersDesk Represented old question told new → IsTrue new.needs_reopen → OrFault ⊥ told
doubt_fault Represented old new question told represented runs answers stopped = by question answers.does (answers.due represented runs)
  where
    by : (q : Question) → DoesAsked old q told new → IsAnswerAt old.version (point_of old) q told → OrFault ⊥ told
    by (Submit command) (reply, turn, is) due =
        let it = turn_fault old new command reply turn runs stopped in
        inr (it.0, it.1, is ∙ ap reply_told it.2)
    by Standings (read, reads, is) due =
        let it = stopped_by Memory old new read reads runs stopped in
        no_rows (point_of old) old.version it.0 told (rows_refused old.event read it.0 told it.2 is) due
    by (Show view) it due = still old new it.1 runs stopped
    by (SlipOf round table) (read, reads, is) due =
        let it = stopped_by NoSuchMatch old new read reads runs stopped in
        slip_fault old.version (point_of old) round table it.0 told it.1 (slip_refused read it.0 told it.2 is) due
    by Migrate (moved, it, is) due = moved_fault old new moved told runs it is stopped

-- ---- the file

-- what a history needs to know of a request that asks this session, and may leave the tables in such a version
pub record Goes {S : Type 0} (g : Ghosts S) (In : (was now : ℕ) → Type 0) (old : Desk S g) (session : Session) (new : Desk S g) : Type
    0 where
  pub clean : HasCleanDisk (state g new) → HasCleanDisk (state g old)
  pub crash : HoldsOwnEvent g old → AfterCrash (state g new)
      (λ trees. (v : ℕ) × In (version_in old) v × IsStoredEnd (placed_at (point_of (desk_state old)) v) session trees)

abbrev Stays : (was now : ℕ) → Type 0
Stays was now = now ≡ was

goes_asking : {S : Type 0} (g : Ghosts S) (old : Desk S g) (session : Session) (new : Desk S g) → Asks g old session new
    → Goes g Stays old session new
goes_asking g old session new it = record {
  clean = it.as_call.clean;
  crash = λ shows clean trees may. (version_in old, refl, it.crash shows clean trees may);
}

-- tables of version 2 stay so
still_second : (old new : DeskState) (moved : Result ℕ Refusal) → Migrates old moved new → old.version ≡ 2 → new.version ≡ 2
still_second old new (Ok serial) it second = ap (λ (s : DeskState). s.version) it.2
still_second old new (Err why) (inl it) second = ap (λ (s : DeskState). s.version) it.2 ∙ second
still_second old new (Err why) (inr it) second = ap (λ (s : DeskState). s.version) it.3 ∙ second

-- the history stays where it is
pub ends_nowhere : (first : Placed) (trees : Trees) → IsStoredAt first trees → IsStoredEnd first no_session trees
ends_nowhere first trees stored = (first.point, inl (record { event = refl; serial = omega arith; taken = tt }), stored)

-- what a migration may leave
pub migration_leads : {S : Type 0} (g : Ghosts S) → MigrationsLead g
migration_leads g old new told it may shows clean trees left =
    subst (λ (a : Answer). (v : ℕ) × LeadsToVersion Migrate a (version_in old) v
    × IsStoredAt (placed_at (point_of (desk_state old)) v) trees) (sym it.tells) (by it.moved it.does)
  where
    by : (moved : Result ℕ Refusal) → MovesDesk g old moved new
        → (v : ℕ) × LeadsToVersion Migrate (moved_told moved) (version_in old) v
        × IsStoredAt (placed_at (point_of (desk_state old)) v) trees
    by (Ok serial) does = (2, refl, does.acknowledged (may (does.clean clean)) shows clean trees left)
    by (Err why) does = elim (does.crash (may (does.clean clean)) shows clean trees left) [
      | inl before ↦ (version_in old, inl refl, before)
      | inr moved ↦ (2, inr refl, moved)
    ]

-- what is moved may be moved, as the file shows that was opened
goes_moving : {S : Type 0} (g : Ghosts S) (old : Desk S g) (told : Answer) (new : Desk S g) → MovesFile g old told new
    → (HasCleanDisk (state g old) → MayMigrate g old)
    → Goes g (LeadsToVersion Migrate told) old no_session new
goes_moving g old told new it may = record {
  clean = it.does.clean;
  crash = λ shows clean trees left.
      let (version, within, stays) = migration_leads g old new told it may shows clean trees left in
      (version, within, ends_nowhere (placed_at (point_of (desk_state old)) version) trees stays);
}

-- over tables of version 2 they represent the event while the desk runs
pub represents_second : {S : Type 0} (g : Ghosts S) (old new : Desk S g) (question : Question) (told : Answer)
    → AsksFor g old question told new → version_in old ≡ 2 → HasCleanDisk (state g new) → HoldsOwnEvent g old
    → IsFalse (desk_state new).needs_reopen
    → HoldsOwnEvent g new
represents_second g old new (Submit command) told it second = it.as_call.represents
represents_second g old new Standings told it second = it.as_call.represents
represents_second g old new (Show view) told it second = it.as_call.represents
represents_second g old new (SlipOf round table) told it second = it.as_call.represents
represents_second g old new Migrate told it second = it.does.represents (inl second)

pub stays_second : {S : Type 0} (g : Ghosts S) (old new : Desk S g) (question : Question) (told : Answer)
    → AsksFor g old question told new → version_in old ≡ 2 → version_in new ≡ 2
stays_second g old new (Submit command) told it second = it.as_call.version ∙ second
stays_second g old new Standings told it second = it.as_call.version ∙ second
stays_second g old new (Show view) told it second = it.as_call.version ∙ second
stays_second g old new (SlipOf round table) told it second = it.as_call.version ∙ second
stays_second g old new Migrate told it second =
    still_second (desk_state old) (desk_state new) it.moved it.does.turn second

-- This desk opened the file: it found the point at which the history ends, and sees what the file holds.
pub record IsFound {D : Type 0} (d : disk.Ghosts D) (image : Image) (first : Placed) (desk : Desk (FileStore D d) over_files) : Type 0 where
  pub finds : HasCleanDisk (state over_files desk) → FindsAgain over_files desk first
  pub sees : (db : Trees) → HoldsDatabase image db → HoldsStill (state over_files desk) db

module _ {D : Type 0} (d : disk.Ghosts D) (image : Image) (first : Placed) (desk : Desk (FileStore D d) over_files)
    (found : IsFound d image first desk) (clean : HasCleanDisk (state over_files desk)) where
  -- its tables may be migrated if those of the file may
  pub may_migrate : MayMoveTables image first.point → MayMigrate over_files desk
  may_migrate may = by shows.represents.represents.has.tables.known
    where
      again : FindsAgain over_files desk first
      again = found.finds clean

      shows : HoldsOwnEvent over_files desk
      shows = again.shows

      now : Database
      now = (state over_files desk).now

      same : now.trees ≡ may.db
      same = (found.sees may.db may.holds clean shows.is_open).0

      first_in : RepresentsIn (version_in desk) now first.point.event first.point.serial
      first_in = subst (λ (p : Placed). RepresentsIn (version_in desk) now p.point.event p.point.serial) again.found shows.represents

      by : IsVersion shows.represents.layout.version → MayMigrate over_files desk
      by (inr two) = inl (sym shows.represents.is ∙ two)
      by (inl one) = inr (may.unawaited now.schema (subst (IsSound now.schema) same shows.sound)
          (subst (λ (t : Trees). RepresentsIn 1 (record { schema = now.schema; trees = t }) first.point.event first.point.serial) same
          (subst (λ (v : ℕ). RepresentsIn v now first.point.event first.point.serial) (sym shows.represents.is ∙ one) first_in)))

-- a session goes on from where the history has ended
module _ (new : Point) (first : Placed) (ends : List Ended) (begins : IsBeginning new) (from : GoesOnFrom new first.point ends) where
  module _ {D : Type 0} (d : disk.Ghosts D) (In : (was now : ℕ) → Type 0) (desk last : Desk (FileStore D d) over_files) (session : Session)
      (found : HasCleanDisk (state over_files desk) → FindsAgain over_files desk first)
      (asked : Goes over_files In desk session last) where
    leaves_next : AfterCrash (state over_files last) (BeginsIn (In first.version) new ends session)
    leaves_next clean trees may =
        let again = found (asked.clean clean) in
        let (version, within, ended) = asked.crash again.shows clean trees may in (
          version,
          subst (λ (p : Placed). In p.version version) again.found within,
          from.begins version session trees
              (subst (λ (p : Placed). IsStoredEnd (placed_at p.point version) session trees) again.found ended),
        )

    pub goes_to : (what : Remains D d) → PutsAway last what → GoesTo d (In first.version) new ends session what
    goes_to what put = record {
      put_away = was_put (state over_files last) what put.closes;
      leaves = left_by (In first.version) new ends session begins what (put_sound (state over_files last) what put.closes)
          (put_such (BeginsIn (In first.version) new ends session) (state over_files last) what put.closes leaves_next);
    }

-- ---- a new event

first_placed : (new : Point) (old : DeskState) → old ≡ running_at new 2 → placed_of old ≡ placed_at new 2
first_placed new old is = ap placed_of is

-- if an event was made in a file in which no foreign key waited for its tables, its empty history begins
pub made_begins : NextSessions → {D : Type 0} (d : disk.Ghosts D) (image : Image) (name : List ℕ) (rounds cut : ℕ)
    (desk : Desk (FileStore D d) over_files)
    → IsSetUp name rounds cut → HasMade image name rounds cut desk → Asks over_files desk no_session desk
    → (what : Remains D d) → PutsAway desk what → NoneAwaitsIn image
    → GoesTo d (λ version. version ≡ 2) (new_point name rounds cut) [] no_session what
made_begins law d image name rounds cut desk set_up made asks what put awaits =
    let new = new_point name rounds cut in
    let begins : IsBeginning new = record { name = name; limits = (rounds, cut); is_new = refl; set_up = set_up } in
    goes_to new (placed_at new 2) [] begins (law new new [] begins refl) d Stays desk desk no_session
    (λ clean. record {
      found = first_placed new (desk_state desk) made.made;
      shows = made.created awaits clean;
      leaves = made.acknowledged awaits;
    })
    (goes_asking _ _ _ _ asks) what put

-- ---- what was done

one_work : (question : Question) (command : Command) (told : Answer) (needs_reopen : Bool) → question ≡ Submit command
    → work_of question told needs_reopen ≡ Commands (session_at question told needs_reopen)
one_work question command told needs_reopen is =
    subst (λ (q : Question). work_of q told needs_reopen ≡ Commands (session_at q told needs_reopen)) (sym is) refl

-- a question does this to the file of a desk
pub works_for : {S : Type 0} (g : Ghosts S) (old new : Desk S g) (question : Question) (told : Answer) → AsksFor g old question told new
    → WorksOn g old (work_of question told (desk_state new).needs_reopen) new
works_for g old new (Submit command) told it = it
works_for g old new Standings told it = it
works_for g old new (Show view) told it = it
works_for g old new (SlipOf round table) told it = it
works_for g old new Migrate told it = it

work_clean : {S : Type 0} (g : Ghosts S) (old : Desk S g) (work : Work) (new : Desk S g) → WorksOn g old work new
    → HasCleanDisk (state g new) → HasCleanDisk (state g old)
work_clean g old (Commands session) new it = it.as_call.clean
work_clean g old (Migration told) new it = it.does.clean

-- ---- a history that left the file

-- what a line that opens an event goes on with
abbrev pub GoesOn : {D : Type 0} (d : disk.Ghosts D) → World → Image → Point → List Ended
    → Placed → Remains D d → Printed → Task → Type 0
GoesOn d world image new ends first what p task =
    TellsAndLeaves (λ (work : Work). AnswersTask (WasOpenedClean what) first task work p)
    (λ (work : Work). GoesOnBy d image new ends first work what)
    ⊎ TellsAndLeaves (λ (why : Refusal). Tells (Refused why) p)
    (λ (why : Refusal). StaysUnopened d image new ends first why what)

module _ (law : NextSessions) (image : Image) (new : Point) (first : Placed) (ends : List Ended)
    (was : RecoversHistory image new ends first) where
  from : GoesOnFrom new first.point ends
  from = law new first.point ends was.begins was.history

  module _ {D : Type 0} (d : disk.Ghosts D) (what : Remains D d) where
    answers_question : (desk last : Desk (FileStore D d) over_files) (question : Question) (told : Answer)
        → IsFound d image first desk → (HasCleanDisk (state over_files last) → HasCleanDisk (state over_files desk))
        → IsFalse (desk_state desk).needs_reopen
        → AnswersDesk (HasCleanDisk (state over_files last) × HoldsOwnEvent over_files desk) (desk_state desk) question told
        (desk_state last)
        → PutsAway last what
        → AnswersQuestion (WasOpenedClean what) first question told (work_of question told (desk_state last).needs_reopen)
    answers_question desk last question told found cleans runs answers put = record {
      needs_reopen = (desk_state last).needs_reopen;
      asked = refl;
      lawful = put_clean _ (state over_files last) what put.closes (λ clean.
          let again = found.finds (cleans clean) in
          subst (λ (p : Placed). IsAnswerAt p.version p.point question told) again.found
          (answers.due (clean, again.shows) runs));
      acknowledged = λ command receipt is tells.
          one_work question command told (desk_state last).needs_reopen is
          ∙ ap Commands (kept_alone (desk_state desk) (desk_state last) question told answers.does command receipt is tells);
      doubt = put_clean _ (state over_files last) what put.closes (λ clean stopped.
          doubt_fault _ (desk_state desk) (desk_state last) question told (clean, (found.finds (cleans clean)).shows) runs answers
          stopped);
    }

    -- the half of the file
    goes_on_by : (desk last : Desk (FileStore D d) over_files) → IsFound d image first desk → (work : Work)
        → WorksOn over_files desk work last → PutsAway last what → GoesOnBy d image new ends first work what
    goes_on_by desk last found (Commands session) asked put =
        goes_to new first ends was.begins from d Stays desk last session found.finds (goes_asking _ _ _ _ asked) what put
    goes_on_by desk last found (Migration told) moved put = λ may.
        goes_to new first ends was.begins from d (LeadsToVersion Migrate told) desk last no_session found.finds
        (goes_moving _ _ _ _ moved (λ clean. may_migrate d image first desk found clean may)) what put

    refused_next : (why : OpenFault D d)
        → ((db : Trees) → HoldsDatabase image db → OnRefused why (λ conn. AfterCrash (file_state conn) (λ trees. trees ≡ db)))
        → OnRefused why (λ conn. AfterCrash (file_state conn) (BeginsIn (Stays first.version) new ends no_session))
    refused_next (NotOpened refusal left) kept = tt
    refused_next (OpenedInVain conn refusal) kept = λ clean trees may.
        let same : trees ≡ was.left.0 = ∥∥₁_elim was.left.1 (Trees-set _ _) (λ holds. kept was.left.0 holds clean trees may) in (
          first.version,
          refl,
          from.begins first.version no_session trees
              (ends_nowhere first trees (subst (IsStoredAt first) (sym same) was.left.2)),
        )

    -- if the event is not served, memory ran out or the device failed
    refused_fault : (fault : OpenFault D d) (why : Refusal) → why ≡ why_of fault → (IsCleanFault fault → IsFault (why_of fault))
        → OnRefused fault (λ conn. HasCleanDisk (file_state conn) → IsFault why)
    refused_fault (NotOpened refusal left) why is failed = tt
    refused_fault (OpenedInVain conn refusal) why is failed = λ clean. subst IsFault (sym is) (failed clean)

    module _ (world : World) (got : Option (List Got)) (p : Printed) where
      -- the half of what is told
      answers_task : (task : Task) (desk last : Desk (FileStore D d) over_files) → IsFalse (desk_state desk).needs_reopen
          → IsFound d image first desk → (HasCleanDisk (state over_files last) → HasCleanDisk (state over_files desk))
          → PutsAway last what → (work : Work)
          → DoesTask world got (HasCleanDisk (state over_files last) × HoldsOwnEvent over_files desk) (desk_state desk) task work (desk_state last) p
          → AnswersTask (WasOpenedClean what) first task work p
      answers_task (Ask question) desk last runs found cleans put work (told, answers, is, tells) = (
        told,
        subst (λ (w : Work). AnswersQuestion (WasOpenedClean what) first question told w) (sym is)
            (answers_question desk last question told found cleans runs answers put),
        tells,
      )
      answers_task (Import list) desk last runs found cleans put work (session, is, did) =
          (session, is, imports_only p (world.list list) (desk_state desk) session (desk_state last) did)
      answers_task (Serve port count) desk last runs found cleans put work (session, is, did) =
          (session, is, serves_only _ p port count (world.coming port) got (desk_state desk) session (desk_state last) did)

      pub goes_on_with : (task : Task) (desk last : Desk (FileStore D d) over_files) → IsFalse (desk_state desk).needs_reopen
          → IsFound d image first desk → (it : Does over_files world got desk task last p) → PutsAway last what
          → GoesOnWith d image task it.done what p new first ends
      goes_on_with task desk last runs found it put = record {
        told = answers_task task desk last runs found (work_clean over_files desk it.done last it.file) put it.done it.told;
        file = goes_on_by desk last found it.done it.file put;
      }

      pub task_goes_on : (task : Task) (desk last : Desk (FileStore D d) over_files) → IsFalse (desk_state desk).needs_reopen
          → IsFound d image first desk → Does over_files world got desk task last p → PutsAway last what
          → GoesOn d world image new ends first what p task
      task_goes_on task desk last runs found it put =
          let goes = goes_on_with task desk last runs found it put in inl (record { done = it.done; told = goes.told; file = goes.file })

      pub unopened_goes_on : (task : Task) (fault : OpenFault D d) (why : Refusal) → why ≡ why_of fault → IsClearedOf fault what
          → (IsCleanFault fault → IsFault (why_of fault))
          → ((db : Trees) → HoldsDatabase image db → OnRefused fault (λ conn. AfterCrash (file_state conn) (λ trees. trees ≡ db)))
          → WhereUnopened fault (IsFault (why_of fault)) → OnUnopened fault (SparesAt image)
          → (RecoversWhole image first → OnUnopened fault (StaysThere first)) → Tells (Refused why) p
          → GoesOn d world image new ends first what p task
      unopened_goes_on task fault why is cleared cause kept failed spared again tells =
          let stays : StaysUnopened d image new ends first why what = record {
            fault = cleared_clean (IsFault why) fault what cleared (refused_fault fault why is cause);
            leaves = left_by (Stays first.version) new ends no_session was.begins what (cleared_sound fault what cleared)
                (cleared_such (BeginsIn (Stays first.version) new ends no_session) fault what cleared (refused_next fault kept));
            unopened = cleared_unopened image fault why what is cleared failed spared;
            again = λ whole. cleared_again image new ends first was fault what cleared (again whole);
          } in
          inr (record { done = why; told = tells; file = stays })

module _ {D : Type 0} (d : disk.Ghosts D) (world : World) (file : List ℕ) (what : Remains D d) (p : Printed) where
  -- the file is not there
  pub absent_goes_on : (why : Refusal) → ((why ≡ NoEvent) × (world.is_there file ≢ Some true)) ⊎ IsFault why → what ≡ Nothing
      → Tells (Refused why) p → (task : Task) → GoesOnAction d world file (Open task) what p
  absent_goes_on why cause none tells task = inl (record { done = why; told = tells; file = (none, cause) })

  -- memory may run out for any words
  pub unread_goes_on : what ≡ Nothing → Tells (Refused Memory) p → (action : Action) → GoesOnAction d world file action what p
  unread_goes_on none tells (Init name rounds cut) = λ new first ends was. record {
    done = Refused Memory;
    told = tells;
    file = record {
      refused = λ opened. (Memory, refl, inr (inr (inl refl)));
      leaves = subst (λ (left : Remains D d). RecoversSession d (Stays first.version) new ends no_session left) (sym none) tt;
      again = λ whole. subst (λ (left : Remains D d). LeavesUnopened d new ends first left) (sym none) tt;
    };
  }
  unread_goes_on none tells (Open task) = absent_goes_on Memory (inr (inl refl)) none tells task

  module _ (new : Point) (first : Placed) (ends : List Ended) (was : RecoversHistory (world.image file) new ends first) where
    -- If there is a history, no other event is made on a clean disk.
    no_other : (name : List ℕ) (rounds cut : ℕ) (told : Answer) → MakesEvent d (world.image file) name rounds cut told what
        → MakesNoOther d (world.image file) new ends first told what
    no_other name rounds cut told (inl (set_up, is, (desk, made, put, begins))) = record {
      refused = λ opened. absurd (put_clean ⊥ (state over_files desk) what put.closes (made.absent first was.left)
          (opened (was_put (state over_files desk) what put.closes)));
      leaves = left_by (Stays first.version) new ends no_session was.begins what (put_sound (state over_files desk) what put.closes)
          (put_such (BeginsIn (Stays first.version) new ends no_session) (state over_files desk) what put.closes
          (λ clean trees may. absurd (made.absent first was.left clean)));
      again = λ whole. put_unopened (λ rest. IsCleanLeft rest → LeavesAgain d new ends first rest) (state over_files desk) what put.closes;
    }
    no_other name rounds cut told (inr (inl (set_up, (why, is, none)))) =
        record {
          refused = λ opened. (why, is, inr none.cause);
          leaves = none.stays new ends first was;
          again = none.again new ends first was;
        }
    no_other name rounds cut told (inr (inr (unlawful, is, nothing))) = record {
      refused = λ opened. (BadSetup, is, inl refl);
      leaves = subst (λ (left : Remains D d). RecoversSession d (Stays first.version) new ends no_session left) (sym nothing) tt;
      again = λ whole. subst (λ (left : Remains D d). LeavesUnopened d new ends first left) (sym nothing) tt;
    }

  pub init_goes_on : (got : Option (List Got)) (name : List ℕ) (rounds cut : ℕ) → EndsLine d world got file what p (Init name rounds cut)
      → GoesOnAction d world file (Init name rounds cut) what p
  init_goes_on got name rounds cut it new first ends was =
      record { done = it.done; told = it.told; file = no_other new first ends was name rounds cut it.done it.file }
