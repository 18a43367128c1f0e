-- What a command line leaves of the file that a history of a new event left. The history goes on with what was asked of its event,
-- whenever the program is stopped, and the next command line finds the longer one. What is told is the other half, which is in Tasks.
use Rattle.std.specs.Prelude.{◌≡◌, ◌⊎◌, ℕ, List}
use Rattle.sqlite_disk.specs.declared.Disk as disk
use Rattle.sqlite_trees.specs.declared.store.Store.{Ghosts}
use Rattle.sqlite_store.specs.declared.store.FileStore.{FileStore}
use Rattle.sqlite_wal.specs.Recovery.{Image}
use Rattle.sqlite.specs.Schema.{Schema}
use Rattle.sqlite_catalog.specs.Listing.{IsSound}
use Rattle.sqlite.specs.Tree.{Trees}
use Rattle.sqlite.specs.State.{HasCleanDisk}
use Rattle.sqlite.specs.Files.{HoldsDatabase, over_files}
use Rattle.er_event.specs.declared.refusals.Refusal.{Refusal}
use Rattle.er_event.specs.declared.refusals.Refusal.TheVariants.{BadSetup, EventExists}
use Rattle.er_store.specs.Fault.{IsFault}
use Rattle.er_store.specs.Migrated.{NoneAwaitsPlayer2}
use Rattle.er_store.specs.Representing.{AfterCrash, RepresentsIn}
use Rattle.er_desk.specs.declared.desk.Desk.{Desk}
use Rattle.er_desk.specs.Desk.{Point, Placed, HoldsOwnEvent, IsStoredAt, desk_state, placed_at, point_of, state, version_in}
use Rattle.er_desk.specs.Headline.{FindsAgain, RecoversWhole}
use Rattle.er_desk.specs.Migrating.{MayMigrate}
use Rattle.er_desk.specs.Opening.{HoldsStill, SparesAt}
use Rattle.er_desk.specs.Run.{no_session}
use Rattle.er_desk.specs.History.{Ended}
use Rattle.er_answers.specs.Answers.{MovesFile}
use Rattle.er_answers.specs.declared.question.Question.{Question}
use Rattle.er_answers.specs.declared.question.Question.TheVariants.{Migrate}
use Rattle.er_answers.specs.declared.question.Answer.{Answer}
use Rattle.er_answers.specs.declared.question.Answer.TheVariants.{Accepted, Refused}
use Rattle.er_cli.specs.Remains.{IfUnopened, WasOpenedClean}
use Rattle.er_cli.specs.Next.{GoesTo, LeavesUnopened, RecoversSession, WasOpened}
use Rattle.er_cli.specs.Tasks.{Work}
use Rattle.er_cli.specs.Tasks.Work.{Commands, Migration}
use Rattle.er_cli.specs.declared.remains.Remains.{Remains}

-- The version of the tables that are left. A migration leads to version 2, and if it was cut off it may have done so or not. Nothing
-- else changes it, and nothing leads back.
abbrev pub LeadsToVersion : Question → Answer → (was now : ℕ) → Type 0
LeadsToVersion Migrate (Accepted receipt) was now = now ≡ 2
LeadsToVersion Migrate (Refused why) was now = (now ≡ was) ⊎ (now ≡ 2)
LeadsToVersion question told was now = now ≡ was

-- the tables that the file held are of version 2, or no foreign key in it waits for a table `player2`
pub record MayMoveTables (image : Image) (point : Point) : Type 0 where
  pub db : Trees
  pub holds : HoldsDatabase image db
  pub unawaited : (schema : Schema) → IsSound schema db → RepresentsIn 1 (record { schema = schema; trees = db }) point.event point.serial
      → NoneAwaitsPlayer2 schema

-- a desk that found an event in a file, and sees what the file holds, may move its tables if those of the file may be moved
abbrev pub MigratesAsFound : {D : Type 0} → disk.Ghosts D → Type 0
MigratesAsFound {D} d =
    (image : Image) (first : Placed) (desk : Desk (FileStore D d) over_files) → HasCleanDisk (state over_files desk)
    → FindsAgain over_files desk first → ((db : Trees) → HoldsDatabase image db → HoldsStill (state over_files desk) db)
    → MayMoveTables image first.point → MayMigrate over_files desk

-- a migration leaves the event at its point, in the version to which it leads
abbrev pub MigrationsLead : {S : Type 0} → Ghosts S → Type 0
MigrationsLead {S} g =
    (old new : Desk S g) (told : Answer) → MovesFile g old told new → (HasCleanDisk (state g old) → MayMigrate g old)
    → HoldsOwnEvent g old → AfterCrash (state g new)
    (λ trees. (v : ℕ) × LeadsToVersion Migrate told (version_in old) v × IsStoredAt (placed_at (point_of (desk_state old)) v) trees)

-- The file was opened, this was asked of its event, and it was closed, or could not be. A migration asks no command of it; of one this is
-- said if the tables may be moved.
abbrev pub GoesOnBy : {D : Type 0} (d : disk.Ghosts D) → Image → Point → List Ended → Placed → Work → Remains D d → Type 0
GoesOnBy d image new ends first (Commands session) what = GoesTo d (λ version. version ≡ first.version) new ends session what
GoesOnBy d image new ends first (Migration told) what =
    MayMoveTables image first.point → GoesTo d (LeadsToVersion Migrate told first.version) new ends no_session what

-- An event was to be made where there is a history. None was: it is refused since there is one, or for what was asked, or memory or the
-- device fails. Nothing was asked, and what is left is what the history left.
pub record MakesNoOther {D : Type 0} (d : disk.Ghosts D) (image : Image) (new : Point) (ends : List Ended) (first : Placed) (told : Answer)
    (what : Remains D d) : Type 0 where
  -- if it was opened, then on a clean disk
  pub refused : (WasOpened what → WasOpenedClean what)
      → (why : Refusal) × (told ≡ Refused why) × ((why ≡ BadSetup) ⊎ (why ≡ EventExists) ⊎ IsFault why)
  pub leaves : RecoversSession d (λ version. version ≡ first.version) new ends no_session what
  -- files that were not opened too, if each page of the file had its sum
  pub again : RecoversWhole image first → LeavesUnopened d new ends first what

-- The event was not opened, for memory or by the device. Nothing was asked, and what is left is what the history left.
pub record StaysUnopened {D : Type 0} (d : disk.Ghosts D) (image : Image) (new : Point) (ends : List Ended) (first : Placed)
    (why : Refusal) (what : Remains D d) : Type 0 where
  pub fault : WasOpenedClean what → IsFault why
  pub leaves : RecoversSession d (λ version. version ≡ first.version) new ends no_session what
  -- what is left of files that were not opened, as the storage crate has it
  pub unopened : IfUnopened (SparesAt image) why what
  -- the next command line finds the history in it, if each page of the file had its sum
  pub again : RecoversWhole image first → LeavesUnopened d new ends first what
