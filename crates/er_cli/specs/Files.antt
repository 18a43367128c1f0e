-- What a command line does to the file of an event, whatever that held. How that is printed is the other half, which is not here.
use Rattle.std.specs.Prelude.{◌≡◌, ◌≢◌, ◌⊎◌, ℕ, Bool, true, List, [], Option, Some}
use Rattle.sqlite_disk.specs.declared.Disk as disk
use Rattle.sqlite_trees.specs.declared.store.Store.{Ghosts}
use Rattle.sqlite_store.specs.declared.store.FileStore.{FileStore}
use Rattle.sqlite.specs.Tree.{Trees}
use Rattle.sqlite.specs.Effect.{Database, IsDatabase}
use Rattle.sqlite.specs.Files.{AreFoundIn, HoldsDatabase, over_files}
use Rattle.sqlite_wal.specs.Recovery.{Image}
use Rattle.er_event.specs.declared.refusals.Refusal.{Refusal}
use Rattle.er_event.specs.declared.refusals.Refusal.TheVariants.{NoEvent, EventExists, BadSetup}
use Rattle.er_event.specs.Sound.{IsSetUp}
use Rattle.er_store.specs.Fault.{IsFault, IsLoadFault}
use Rattle.er_store.specs.Representing.{Either, IsStoredIn}
use Rattle.er_store.specs.Beside.{IsStoredBeside}
use Rattle.er_desk.specs.declared.desk.Desk.{Desk}
use Rattle.er_desk.specs.Asking.{Asks}
use Rattle.er_desk.specs.Desk.{Point, Placed}
use Rattle.er_desk.specs.Files.{HasMade}
use Rattle.er_desk.specs.Headline.{RecoversHistory, RecoversWhole}
use Rattle.er_desk.specs.Opening.{HasAnEvent, NoneAwaitsIn, NamesFirstFault, SparesAt}
use Rattle.er_desk.specs.History.{Ended, new_point}
use Rattle.er_desk.specs.Reply.{receipt}
use Rattle.er_desk.specs.Run.{no_session}
use Rattle.er_answers.specs.Answers.{MovesFile}
use Rattle.er_answers.specs.declared.question.Answer.{Answer}
use Rattle.er_answers.specs.declared.question.Answer.TheVariants.{Accepted, Refused}
use Rattle.er_cli.specs.Remains.{IfUnopened, PutsAway, RecoversSuch, WasOpenedClean}
use Rattle.er_cli.specs.Next.{GoesTo, LeavesUnopened, RecoversSession}
use Rattle.er_cli.specs.Tasks.{Work}
use Rattle.er_cli.specs.Tasks.Work.{Commands, Migration}
use Rattle.er_cli.specs.declared.remains.Remains.{Remains}
use Rattle.er_cli.specs.declared.remains.Remains.TheVariants.{Nothing}

-- No file is given back. It is refused since there is no event, which comes only if it isn't known that the file is there, or for memory or
-- by the device.
abbrev pub IsNotThere : {D : Type 0} {g : disk.Ghosts D} → (is_there : Option Bool) → Refusal → Remains D g → Type 0
IsNotThere is_there why what = (what ≡ Nothing) × (((why ≡ NoEvent) × (is_there ≢ Some true)) ⊎ IsFault why)

-- The event was not opened. Of a file that was opened, on a clean disk, no event and a damaged table are the first fault of what it held,
-- and what is left holds just that, after a crash too. Of files that were not opened, what the storage crate says of them.
pub record IsNotOpened {D : Type 0} {g : disk.Ghosts D} (image : Image) (why : Refusal) (what : Remains D g) : Type 0 where
  pub cause : (why ≡ NoEvent) ⊎ IsLoadFault why
  pub unopened : IfUnopened (SparesAt image) why what
  pub first : WasOpenedClean what → (db : Database) × IsDatabase db × AreFoundIn image db.trees × NamesFirstFault db why
  pub kept : (db : Trees) → HoldsDatabase image db → RecoversSuch (λ trees. trees ≡ db) what

-- what this did to the file of a desk: a session was asked of it, or its tables were moved
abbrev pub WorksOn : {S : Type 0} (g : Ghosts S) → Desk S g → Work → Desk S g → Type 0
WorksOn g old (Commands session) new = Asks g old session new
WorksOn g old (Migration told) new = MovesFile g old told new

-- No event was made: the file has one, or memory or the store fails. What the file held is left then, by itself or with the event's tables
-- beside it, or, if no foreign key waited for one of them, that event whole; and of a file that a history left just that.
pub record HasMadeNone {D : Type 0} {g : disk.Ghosts D} (image : Image) (new : Point) (why : Refusal) (what : Remains D g)
    : Type 0 where
  pub cause : (why ≡ EventExists) ⊎ IsFault why
  pub unopened : IfUnopened (SparesAt image) why what
  -- `EventExists` comes only if something called `event` can be read, and just that is left
  pub exists : why ≡ EventExists → WasOpenedClean what
      → (db : Database) × HasAnEvent image db × RecoversSuch (λ trees. trees ≡ db.trees) what
  pub stays : (first : Point) (ends : List Ended) (last : Placed) → RecoversHistory image first ends last
      → RecoversSession g (λ version. version ≡ last.version) first ends no_session what
  pub again : (first : Point) (ends : List Ended) (last : Placed) → RecoversHistory image first ends last → RecoversWhole image last
      → LeavesUnopened g first ends last what
  pub leaves : NoneAwaitsIn image → RecoversSuch (Either (AreFoundIn image) (IsStoredIn 2 new.event new.serial)) what
  pub beside : (db : Trees) → HoldsDatabase image db → WasOpenedClean what
      → (old : Database) × (old.trees ≡ db) × IsDatabase old
      × RecoversSuch (Either (λ trees. trees ≡ db) (IsStoredBeside 2 new.event old)) what

-- An event was made, and its file put away: if no foreign key waited for its tables this begins the empty history, with which the next
-- command line goes on. Or it was not. What may not be set up so is refused, and no file is given back.
abbrev pub MakesEvent : {D : Type 0} (g : disk.Ghosts D) → Image → List ℕ → ℕ → ℕ → Answer → Remains D g → Type 0
MakesEvent {D} g image name rounds cut told what =
    (IsSetUp name rounds cut × (told ≡ Accepted (receipt 0))
    × ((desk : Desk (FileStore D g) over_files) × HasMade image name rounds cut desk × PutsAway desk what
    × (NoneAwaitsIn image → GoesTo g (λ version. version ≡ 2) (new_point name rounds cut) [] no_session what)))
    ⊎ (IsSetUp name rounds cut
    × ((why : Refusal) × (told ≡ Refused why) × HasMadeNone image (new_point name rounds cut) why what))
    ⊎ ((IsSetUp name rounds cut → ⊥) × (told ≡ Refused BadSetup) × (what ≡ Nothing))
