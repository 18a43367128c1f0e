-- Why a file was not opened.
use Rattle.std.specs.Prelude.{◌≡◌, ◌⊎◌, ◌≤◌, ℕ, [], IsTrue, IfOk, IfErr, IfSome, MatchResult, Option, Some, None, Result, Ok, Err}
use Rattle.sqlite_disk.specs.declared.Disk.{Ghosts}
use Rattle.sqlite_disk.specs.declared.Files.{Files}
use Rattle.sqlite_store.specs.declared.store.FileStore.{FileStore}
use Rattle.sqlite_trees.specs.Objects.{catalog_tree}
use Rattle.sqlite_trees.specs.declared.store.Store as store
use Rattle.sqlite_store.specs.FileStore.{recovers, view}
use Rattle.sqlite_wal.specs.Files.{outcomes}
use Rattle.sqlite_wal.specs.Recovery.{Image}
use Rattle.sqlite.specs.Tree.{Trees}
use Rattle.sqlite.specs.Effect.{Database, IsDatabase}
use Rattle.sqlite.specs.State.{State, HasCleanDisk}
use Rattle.sqlite.specs.Held.{Held, IsNew}
use Rattle.sqlite.specs.Held as sqlite
use Rattle.sqlite.specs.declared.error.Error.{Error}
use Rattle.sqlite.specs.declared.error.Error.TheVariants.{SqliteFailure}
use Rattle.sqlite.specs.declared.error.ErrorCode.TheVariants.{CannotOpen, DatabaseBusy, OutOfMemory}
use Rattle.sqlite.specs.declared.file.Leftover.{Leftover}
use Rattle.sqlite.specs.declared.file.Leftover.TheVariants as left
use Rattle.sqlite.specs.Closing.{files_left}
use Rattle.sqlite.specs.Files.{AreFoundIn, FailsToOpenFiles, IsCleanLeft, IsOpened, LeavesFiles, file_state, image_of, over_files}
use Rattle.sqlite.specs.Start.{FindsIn}
use Rattle.er_event.specs.declared.refusals.Refusal.{Refusal}
use Rattle.er_event.specs.declared.refusals.Refusal.TheVariants.{NoEvent}
use Rattle.er_event.specs.declared.refusals.Place.{Place}
use Rattle.er_event.specs.declared.refusals.Place.TheVariants.{BracketTable}
use Rattle.er_event.specs.declared.commands.TheConstants.{MAX_SERIAL}
use Rattle.er_event.specs.Event.{EventValue}
use Rattle.er_event.specs.Parts.{parts_of}
use Rattle.er_event.specs.Rows.{tally_rows}
use Rattle.er_event.specs.Sound.{IsSoundButForSeeds}
use Rattle.er_rules.specs.Sound.{HasSeeds}
use Rattle.er_store.specs.Fault.{store_refusal}
use Rattle.er_store.specs.Damage.{ReadsParts, ReadsTallies, IsAtFault, IfDamaged}
use Rattle.er_store.specs.Beside.{IsStoredBeside, HoldsBeside, NoneAwaitsFive}
use Rattle.er_store.specs.Reading.{KeepsTables}
use Rattle.er_store.specs.Representing.{CanRead, Either, IsStoredIn, AfterCrash, ReadsEvent}
use Rattle.er_desk.specs.declared.desk.Desk.{Desk}
use Rattle.er_desk.specs.Desk.{Point, Placed, IsStoredAt, state}
use Rattle.er_desk.specs.Headline.{Recovers, RecoversWhole}
use Rattle.er_desk.specs.declared.opening.OpenFault.{OpenFault}
use Rattle.er_desk.specs.declared.opening.OpenFault.TheVariants.{Unopened, Refused}

-- the tables are read as those of an event whose playoff has other seeds than its standings
abbrev pub HasOtherSeeds : Database → Type 0
HasOtherSeeds db =
    (event : EventValue) × (serial : ℕ) × (version : ℕ) × ReadsParts db (parts_of version event serial) × ReadsTallies db (tally_rows event)
    × IsSoundButForSeeds event × (serial ≤ MAX_SERIAL) × (HasSeeds event → ⊥)

-- this table is the first at fault; seeds are looked at last
abbrev pub IsFirstAtFault : Database → Place → Type 0
IsFirstAtFault db place = IsAtFault db place ⊎ ((place ≡ BracketTable) × HasOtherSeeds db)

-- The refusal of an opening names the first fault: no event only if the event's rows cannot be read, and a table only if they can.
pub record NamesFirstFault (db : Database) (why : Refusal) : Type 0 where
  pub no_event : why ≡ NoEvent → ReadsEvent db.schema → ⊥
  pub readable : IfDamaged (λ _. ReadsEvent db.schema) why
  pub first : IfDamaged (IsFirstAtFault db) why

-- what is seen of the file then: by the desk, or by the connection that comes back
abbrev pub connection_state : {S : Type 0} (g : store.Ghosts S) → Result (Desk S g) (Held S × Refusal) → State
connection_state g (Ok desk) = state g desk
connection_state g (Err back) = sqlite.state g back.0

-- The tables were read, and nothing else. None changes, and a crash leaves what it could before: the last commit, while the file
-- was open.
pub record ChangesNothing (old new : State) : Type 0 where
  pub clean : HasCleanDisk new → HasCleanDisk old
  pub kept : HasCleanDisk new → KeepsTables old new
  pub crash : AfterCrash new old.may_leave
  pub left : IsTrue old.is_open → AfterCrash new (λ db. db ≡ old.committed.trees)

-- An event was not made. No table changes. If an event can be read, a crash leaves what it could before; if no foreign key waited for
-- one of its tables that, or the new event whole; in any file what was there, or that with the event's tables beside it.
pub record MakesNothing (new_event : Point) (old new : State) : Type 0 where
  pub kept : HasCleanDisk new → KeepsTables old new
  pub spares : CanRead old.now.schema → AfterCrash new old.may_leave
  pub still : CanRead old.now.schema → IsTrue old.is_open → AfterCrash new (λ db. db ≡ old.committed.trees)
  pub crash : NoneAwaitsFive 2 old.now.schema → AfterCrash new (Either old.may_leave (IsStoredIn 2 new_event.event new_event.serial))
  pub left : NoneAwaitsFive 2 old.now.schema → IsTrue old.is_open
      → AfterCrash new (Either (λ db. db ≡ old.committed.trees) (IsStoredIn 2 new_event.event new_event.serial))
  pub beside : IsTrue old.is_open → AfterCrash new (Either (λ db. db ≡ old.committed.trees) (IsStoredBeside 2 new_event.event old.now))

-- An event was made beside what the file held, whatever that was.
pub record MakesOver (new_event : Point) (held : Trees) (s : State) : Type 0 where
  pub old : Database
  pub is : old.trees ≡ held
  pub sound : IsDatabase old
  pub shows : HoldsBeside 2 new_event.event old s

-- and what a crash leaves then: what it held, or that with the event's tables beside it
pub record RecoversBeside (new_event : Point) (held : Trees) (s : State) : Type 0 where
  pub old : Database
  pub is : old.trees ≡ held
  pub sound : IsDatabase old
  pub leaves : AfterCrash s (Either (λ db. db ≡ held) (IsStoredBeside 2 new_event.event old))

-- The first fault of what an opening finds in the file. A connection that comes back open shows just that.
abbrev pub NamesFirstFaultIn : Image → State → Refusal → Type 0
NamesFirstFaultIn image back why =
    (db : Database) × IsDatabase db × AreFoundIn image db.trees × NamesFirstFault db why × (IsTrue back.is_open → back.now ≡ db)

-- An opening finds this in the file, and something called `event` can be read of it.
pub record HasAnEvent (image : Image) (db : Database) : Type 0 where
  pub sound : IsDatabase db
  pub found : AreFoundIn image db.trees
  pub readable : CanRead db.schema

-- whatever an opening finds in the file, it lists no table
abbrev pub HoldsNothing : Image → Type 0
HoldsNothing image = (db : Trees) → AreFoundIn image db → db catalog_tree ≡ []

-- whatever an opening finds in the file, no foreign key in it names a table of the event
abbrev pub NoneAwaitsIn : Image → Type 0
NoneAwaitsIn image = (db : Database) → IsDatabase db → AreFoundIn image db.trees → NoneAwaitsFive 2 db.schema

-- so it is of a file that holds nothing
abbrev pub NewFilesAwaitNone : Type 0
NewFilesAwaitNone = (image : Image) → HoldsNothing image → NoneAwaitsIn image

-- while the connection stays open, it sees these trees, and nothing is pending
abbrev pub HoldsStill : State → Trees → Type 0
HoldsStill s db = HasCleanDisk s → IsTrue s.is_open → (s.now.trees ≡ db) × (s.now ≡ s.committed)

-- the files hold this, and nothing is pending in them: a crash leaves just this
abbrev pub HoldJust : {D : Type 0} → Ghosts D → Image → Files D → Type 0
HoldJust g image files = (image_of g files ≡ image) × ((left : Image) → outcomes g files.log files.db left → left ≡ image)

module _ {D : Type 0} {g : Ghosts D} where
  -- What the storage crate says of files that it did not open. Nothing is left of them only if they can't be had: by the system, because
  -- memory ran out, or since another program holds them. What is left represents what the files held, and they are why.
  abbrev pub SparesAt : Image → Error → Option (Leftover D g) → Type 0
  SparesAt image error None =
      (error ≡ SqliteFailure CannotOpen) ⊎ (error ≡ SqliteFailure OutOfMemory) ⊎ (error ≡ SqliteFailure DatabaseBusy)
  SparesAt image error (Some left) =
      (files : Files D) × HoldJust g image files × (IsCleanLeft left → FailsToOpenFiles files left error × LeavesFiles files left)

  -- of a store, if the opening had come so far
  abbrev pub OfStore : Leftover D g → (FileStore D g → Type 0) → Type 0
  OfStore (left.Files files) Is = Unit {0}
  OfStore (left.Unopened files) Is = Unit {0}
  OfStore (left.Store store) Is = Is store

  -- What is left of files that were not opened. What a store would find after a crash, by its own list of tables, represents the event. So do
  -- the bytes that a crash may leave: of a store, if it lists its tables by number.
  pub record StaysLeft (placed : Placed) (left : Leftover D g) : Type 0 where
    pub finds : OfStore left (λ store. (trees : Trees) → recovers store trees → IsStoredAt placed trees)
    pub bytes : OfStore left (λ store. IsTrue (view store).is_numbered)
        → (image : Image) → outcomes g (files_left left).0 (files_left left).1 image → Recovers image placed × RecoversWhole image placed

  -- Files that were not opened held what a crash left of this event: it is still there, on a clean disk.
  abbrev pub StaysThere : Placed → Error → Option (Leftover D g) → Type 0
  StaysThere placed error rest = IfSome rest (λ left. IsCleanLeft left → StaysLeft placed left)

  -- What an opening gives of files that hold this: a new connection, which finds it; or why there is none, and what is left.
  pub record OpensImage (image : Image) (opened : Result (Held (FileStore D g)) (Error × Option (Leftover D g))) : Type 0 where
    pub new : IfOk opened IsNew
    pub live : IfOk opened (λ conn. HasCleanDisk (file_state conn) → IsOpened conn)
    pub found : IfOk opened (λ conn. HasCleanDisk (file_state conn) → FindsIn image (file_state conn))
    pub spared : IfErr opened (λ why. SparesAt image why.0 why.1)

  abbrev pub why_of : OpenFault D g → Refusal
  why_of (Unopened error left) = store_refusal error
  why_of (Refused conn refusal) = refusal

  -- of the connection, if one comes back
  abbrev pub OnRefused : OpenFault D g → (Held (FileStore D g) → Type 0) → Type 0
  OnRefused (Unopened error left) P = Unit {0}
  OnRefused (Refused conn refusal) P = P conn

  abbrev pub IsCleanFault : OpenFault D g → Type 0
  IsCleanFault fault = OnRefused fault (λ conn. HasCleanDisk (file_state conn))

  -- if the files were not opened
  abbrev pub WhereUnopened : OpenFault D g → Type 0 → Type 0
  WhereUnopened (Unopened error left) P = P
  WhereUnopened (Refused conn refusal) P = Unit {0}

  -- of files that were not opened: why, and what is left of them
  abbrev pub OnUnopened : OpenFault D g → (Error → Option (Leftover D g) → Type 0) → Type 0
  OnUnopened (Unopened error left) P = P error left
  OnUnopened (Refused conn refusal) P = Unit {0}

  -- the connection came back with this refusal, since its files were opened
  abbrev pub ComesBack : OpenFault D g → (Held (FileStore D g) × Refusal → Type 0) → Type 0
  ComesBack (Unopened error left) P = ⊥
  ComesBack (Refused conn refusal) P = P (conn, refusal)

  -- Files that were not opened are called so, with that error and with what is left of them; and no others are.
  abbrev pub FromOpened : (Held (FileStore D g) → Desk (FileStore D g) over_files → Type 0)
      → (Held (FileStore D g) → Held (FileStore D g) × Refusal → Type 0)
      → Result (Held (FileStore D g)) (Error × Option (Leftover D g))
      → Result (Desk (FileStore D g) over_files) (OpenFault D g) → Type 0
  FromOpened Has HasNot (Err (error, left)) result = result ≡ Err (Unopened error left)
  FromOpened Has HasNot (Ok conn) result = MatchResult result (Has conn) (λ fault. ComesBack fault (HasNot conn))
