-- Sessions over the files of an event, one after the other, after a history of others.
use Rattle.std.specs.Global.{Global}
use Rattle.std.specs.Prelude.{◌≡◌, ◌⊎◌, ◌++◌, ℕ, List, [], ◌∷◌, Option, Some, None, Result, Ok, Err, MatchResult, Vec}
use Rattle.sqlite_trees.specs.declared.store.Store.{Ghosts}
use Rattle.sqlite_disk.specs.declared.Disk as disk
use Rattle.sqlite_disk.specs.declared.Files.{Files}
use Rattle.sqlite_store.specs.declared.store.FileStore.{FileStore}
use Rattle.sqlite.specs.declared.error.Error.{Error}
use Rattle.sqlite.specs.declared.file.Leftover.{Leftover}
use Rattle.sqlite_wal.specs.Recovery.{Image}
use Rattle.sqlite_wal.specs.Files.{outcomes}
use Rattle.sqlite.specs.Tree.{Trees}
use Rattle.sqlite.specs.State.{State, HasCleanDisk}
use Rattle.sqlite.specs.Files.{FailsToOpenFiles, HoldsDatabase, IsCleanLeft, LeavesFiles, image_of, over_files}
use Rattle.sqlite_wal.specs.Reads.{AreClean}
use Rattle.er_desk.specs.Headline.{RecoversHistory, and_then}
use Rattle.er_event.specs.declared.refusals.Refusal.{Refusal}
use Rattle.er_event.specs.declared.refusals.Refusal.TheVariants.{Memory}
use Rattle.er_store.specs.Fault.{IsFault}
use Rattle.er_desk.specs.declared.desk.Desk.{Desk}
use Rattle.er_desk.specs.Asking.{Asks, join_sessions}
use Rattle.er_desk.specs.Desk.{Point, Placed, DeskState, HoldsOwnEvent, running_at, desk_state, state}
use Rattle.er_desk.specs.Run.{Session, no_session}
use Rattle.er_desk.specs.History.{Ended}
use Rattle.er_answers.specs.Answers.{AnswersDesk, AsksFor, session_at}
use Rattle.er_answers.specs.declared.question.Question.{Question}
use Rattle.er_answers.specs.declared.question.Question.TheVariants.{Migrate}
use Rattle.er_answers.specs.declared.question.Answer.{Answer}
use Rattle.er_cli.specs.GoingOn.{LeadsToVersion, MayMoveTables}
use Rattle.er_cli.specs.Remains.{IfUnopened, RemainsOf, WasOpenedClean}
use Rattle.er_cli.specs.Next.{RecoversSession, RecoversIn, WasOpened}
use Rattle.er_cli.specs.declared.remains.Remains.{Remains}

-- Files that were closed, or cut off. Each pair of bytes that a crash may leave holds a database that it could leave before.
pub record AreCut {D : Type 0} (d : disk.Ghosts D) (s : State) (files : Files D) : Type 0 where
  pub was_clean : HasCleanDisk s
  pub left : (image : Image) → outcomes d files.log files.db image → ∥ ((db : Trees) × s.may_leave db × HoldsDatabase image db) ∥₁

module _ {D : Type 0} {d : disk.Ghosts D} where
  -- the next session may open them, or they could not be closed
  abbrev pub IsClosedOrKept : State → Result (Files D) (Remains D d) → Type 0
  IsClosedOrKept s (Ok files) = AreClean d files.log files.db → AreCut d s files
  IsClosedOrKept s (Err what) = RemainsOf s what

  -- if a file was opened, and its disk is clean
  abbrev pub IfCleanFiles : Type 0 → Result (Files D) (Remains D d) → Type 0
  IfCleanFiles Is (Ok files) = AreClean d files.log files.db → Is
  IfCleanFiles Is (Err what) = WasOpenedClean what → Is

-- On a clean disk each pair of bytes that a crash may leave was left by the history with this session after it, in one of these versions.
abbrev pub RecoversAfterSession : {D : Type 0} (d : disk.Ghosts D) → (ℕ → Type 0) → Point → List Ended → Session
    → Result (Files D) (Remains D d)
    → Type 0
RecoversAfterSession d In new ends session (Ok files) =
    AreClean d files.log files.db → (image : Image) → outcomes d files.log files.db image → ∥ RecoversIn In new ends session image ∥₁
RecoversAfterSession d In new ends session (Err what) = RecoversSession d In new ends session what

-- of files that were not opened: why, and what is left of them, as the storage crate has it
abbrev pub SparesFiles : {D : Type 0} {d : disk.Ghosts D} → Files D → Error → Option (Leftover D d) → Type 0
SparesFiles files error None = ⊥
SparesFiles files error (Some rest) = IsCleanLeft rest → FailsToOpenFiles files rest error × LeavesFiles files rest

-- ---- what a session asks

-- a migration is among these
abbrev pub AsksMigration : List Question → Type 0
AsksMigration [] = ⊥
AsksMigration (question ∷ questions) = (question ≡ Migrate) ⊎ AsksMigration questions

-- A desk was asked one thing after the other, over its file: these were its answers.
abbrev pub AsksAll : {S : Type 0} (g : Ghosts S) → Desk S g → List Question → List Answer → Desk S g → Type 0
AsksAll g old [] [] new = new ≡ old
AsksAll {S} g old (question ∷ questions) (told ∷ answers) new =
    (mid : Desk S g) × AsksFor g old question told mid
    × AnswersDesk (HasCleanDisk (state g mid) × HoldsOwnEvent g old) (desk_state old) question told (desk_state mid)
    × AsksAll g mid questions answers new
AsksAll g old [] (told ∷ answers) new = ⊥
AsksAll g old (question ∷ questions) [] new = ⊥

-- What a desk whose tables represent its event answers, and the session that the requests are together: each is answered on the event
-- that those before it left.
abbrev pub AnswersAll : DeskState → List Question → List Answer → Session → DeskState → Type 0
AnswersAll old [] [] session new = (session ≡ no_session) × (new ≡ old)
AnswersAll old (question ∷ questions) (told ∷ answers) session new =
    (mid : DeskState) × (later : Session) × AnswersDesk (Unit {0}) old question told mid × AnswersAll mid questions answers later new
    × (session ≡ join_sessions (session_at question told mid.needs_reopen) later)
AnswersAll old [] (told ∷ answers) session new = ⊥
AnswersAll old (question ∷ questions) [] session new = ⊥

-- the version of the tables that are left: each request leads from the one before it
abbrev pub LeadToVersion : List Question → List Answer → (was now : ℕ) → Type 0
LeadToVersion [] [] was now = now ≡ was
LeadToVersion (question ∷ questions) (told ∷ answers) was now =
    (mid : ℕ) × LeadsToVersion question told was mid × LeadToVersion questions answers mid now
LeadToVersion [] (told ∷ answers) was now = ⊥
LeadToVersion (question ∷ questions) [] was now = ⊥

-- if nothing was asked, the version stays
abbrev pub VersionAfter : List Question → Result (Vec Answer Global) Refusal → (was now : ℕ) → Type 0
VersionAfter questions (Ok answers) was now = LeadToVersion questions answers.items was now
VersionAfter questions (Err why) was now = now ≡ was

-- ---- one session

-- This desk was asked all of it, or there was no memory for the answers, and its files were let go.
pub record AsksOver {D : Type 0} {d : disk.Ghosts D} (desk : Desk (FileStore D d) over_files) (questions : List Question)
    (answers : Result (Vec Answer Global) Refusal) (files : Result (Files D) (Remains D d)) : Type 0 where
  pub last : Desk (FileStore D d) over_files
  pub let_go : IsClosedOrKept (state over_files last) files
  pub rests : Asks over_files last no_session last
  pub asked : MatchResult answers (λ them. AsksAll over_files desk questions them.items last) (λ why. (why ≡ Memory) × (last ≡ desk))

-- What one session was that began here: its requests were answered so. Or nothing was asked, and memory or the device failed.
abbrev pub IsHeld : Placed → List Question → Result (Vec Answer Global) Refusal → Session → Type 0
IsHeld first questions (Ok answers) session =
    (last : DeskState) × AnswersAll (running_at first.point first.version) questions answers.items session last
IsHeld first questions (Err why) session = (session ≡ no_session) × IsFault why

-- The history goes on with this session, which began where it ended.
pub record HoldsNext {D : Type 0} (d : disk.Ghosts D) (new : Point) (ends : List Ended) (first : Placed) (files : Files D)
    (questions : List Question) (answers : Result (Vec Answer Global) Refusal) (now : Result (Files D) (Remains D d)) : Type 0 where
  pub session : Session
  pub held : IfCleanFiles (IsHeld first questions answers session) now
  pub leaves : RecoversAfterSession d (VersionAfter questions answers first.version) new ends session now
  -- of files that can't be opened nothing was asked
  pub unopened : MatchResult now (λ _. Unit {0})
      (λ what. MatchResult answers (λ _. WasOpened what) (λ why. IfUnopened (SparesFiles files) why what))

-- if a migration is among the requests, the file's tables may be migrated
abbrev pub MayMoveFor : Image → Placed → List Question → Type 0
MayMoveFor image first questions = AsksMigration questions → MayMoveTables image first.point

-- ---- many

-- Sessions were held, each over the bytes that a crash left of the one before it: each goes on with the history. At their end this holds
-- of the history, of the point where it ended, and of the bytes.
abbrev pub HoldsThen : Point → (List Ended → Placed → Image → Type 0) → List Ended → Placed → Image → List (Vec Question Global)
    → List (Result (Vec Answer Global) Refusal) → Type 0
HoldsThen new Then ends first image [] [] = Then ends first image
HoldsThen new Then ends first image (questions ∷ later) (answers ∷ more) =
    MayMoveFor image first questions.items
    → ∥ ((session : Session) × (last : Placed) × (left : Image) × IsHeld first questions.items answers session
    × VersionAfter questions.items answers first.version last.version × RecoversHistory left new (and_then ends session last.point) last
    × HoldsThen new Then (and_then ends session last.point) last left later more) ∥₁
HoldsThen new Then ends first image [] (answers ∷ more) = ⊥
HoldsThen new Then ends first image (questions ∷ later) [] = ⊥

-- on a clean disk these files are what the last crash left
abbrev pub HoldsEach : {D : Type 0} (d : disk.Ghosts D) → Point → List Ended → (first : Placed) → Image → List (Vec Question Global)
    → List (Result (Vec Answer Global) Refusal) → Files D → Type 0
HoldsEach d new ends first image sessions answers now =
    AreClean d now.log now.db → HoldsThen new (λ _ _ left. left ≡ image_of d now) ends first image sessions answers

-- The last of those that were begun could not open its files, or not close them. Those before it were held, and this is left of it.
pub record HoldsSome {D : Type 0} (d : disk.Ghosts D) (new : Point) (ends : List Ended) (first : Placed) (image : Image)
    (sessions : List (Vec Question Global)) (answers : List (Result (Vec Answer Global) Refusal)) (what : Remains D d) : Type 0 where
  pub done : List (Vec Question Global)
  pub questions : Vec Question Global
  pub later : List (Vec Question Global)
  pub are : sessions ≡ done ++ questions ∷ later
  pub before : List (Result (Vec Answer Global) Refusal)
  pub answered : Result (Vec Answer Global) Refusal
  pub were : answers ≡ before ++ answered ∷ []
  pub files : Files D
  pub held : HoldsEach d new ends first image done before files
  pub clean : WasOpenedClean what → AreClean d files.log files.db
  pub goes_on : (so_far : List Ended) (mid : Placed) → RecoversHistory (image_of d files) new so_far mid
      → MayMoveFor (image_of d files) mid questions.items → HoldsNext d new so_far mid files questions.items answered (Err what)

-- all of them were held, or some
abbrev pub HoldsAll : {D : Type 0} (d : disk.Ghosts D) → Point → List Ended → (first : Placed) → Image → List (Vec Question Global)
    → List (Result (Vec Answer Global) Refusal) → Result (Files D) (Remains D d) → Type 0
HoldsAll d new ends first image sessions answers (Ok now) = HoldsEach d new ends first image sessions answers now
HoldsAll d new ends first image sessions answers (Err what) = HoldsSome d new ends first image sessions answers what
