-- What is left of the file of an event.
--
-- A disk is clean while no wrong answer of it was taken as true. The storage crate has three words for it: `HasCleanDisk` of a desk's connection,
-- `IsClean` of the view of a store, and `AreClean` of two files. Each leads from the later of them back to the earlier: from the files that are
-- left, or the store, to the desk that was asked (`RemainsOf`).
use Rattle.std.specs.Prelude.{◌≡◌, Option, Some, None, IsTrue, Bool}
use Rattle.sqlite_disk.specs.declared.Disk as disk
use Rattle.sqlite_disk.specs.declared.Files.{Files}
use Rattle.sqlite_wal.specs.Recovery.{Image}
use Rattle.sqlite_wal.specs.Files.{outcomes}
use Rattle.sqlite_wal.specs.Reads.{AreClean}
use Rattle.sqlite_trees.specs.View.{IsClean}
use Rattle.sqlite_store.specs.declared.store.FileStore.{FileStore}
use Rattle.sqlite_store.specs.FileStore.{view, recovers}
use Rattle.sqlite.specs.Tree.{Trees}
use Rattle.sqlite.specs.State.{State, HasCleanDisk}
use Rattle.sqlite.specs.Held.{AreDatabases}
use Rattle.sqlite.specs.Closing.{HoldsAlone}
use Rattle.sqlite.specs.Files.{HoldsDatabase, image_of, file_state, over_files}
use Rattle.sqlite.specs.declared.error.Error.{Error}
use Rattle.sqlite.specs.declared.file.Leftover.{Leftover}
use Rattle.er_event.specs.declared.refusals.Refusal.{Refusal}
use Rattle.er_store.specs.Fault.{IsFault, store_refusal}
use Rattle.er_desk.specs.declared.desk.Desk.{Desk}
use Rattle.er_desk.specs.declared.opening.OpenFault.{OpenFault}
use Rattle.er_desk.specs.declared.opening.OpenFault.TheVariants as fault
use Rattle.er_desk.specs.Desk.{desk_state, state}
use Rattle.er_cli.specs.declared.remains.Remains.{Remains}
use Rattle.er_cli.specs.declared.remains.Remains.TheVariants as left

-- The two files hold such a database: as they read now, and as a crash may leave them.
pub record HoldBoth {D : Type 0} (d : disk.Ghosts D) (Such : Trees → Type 0) (files : Files D) : Type 0 where
  pub db : Trees
  pub is : Such db
  pub seen : ∥ HoldsDatabase (image_of d files) db ∥₁
  pub later : (image : Image) → outcomes d files.log files.db image → ∥ HoldsDatabase image db ∥₁

-- The two files hold such a database, and so does the database file with no log: as they read now, and as a crash may leave them.
pub record HoldSuch {D : Type 0} (d : disk.Ghosts D) (Such : Trees → Type 0) (files : Files D) : Type 0 where
  pub db : Trees
  pub is : Such db
  pub seen : HoldsAlone (image_of d files) db
  pub later : (image : Image) → outcomes d files.log files.db image → HoldsAlone image db

module _ {D : Type 0} {d : disk.Ghosts D} where
  -- On a clean disk the next opening of what is left finds such a database. Of files that were not opened nothing is said.
  abbrev pub RecoversSuch : (Trees → Type 0) → Remains D d → Type 0
  RecoversSuch Such left.Nothing = Unit {0}
  RecoversSuch Such (left.Closed files) = AreClean d files.log files.db → HoldSuch d Such files
  RecoversSuch Such (left.Uncopied files) = AreClean d files.log files.db → HoldBoth d Such files
  RecoversSuch Such (left.Unclosed store) = IsClean (view store) → (trees : Trees) → recovers store trees → Such trees
  RecoversSuch Such (left.Unopened rest) = Unit {0}

  -- Its log can go. It was closed, and then the database file holds all that a crash may leave of the two. Or it could not be opened, and what
  -- may be in the log is of that opening.
  abbrev pub NeedsNoLog : Remains D d → Type 0
  NeedsNoLog left.Nothing = ⊥
  NeedsNoLog (left.Closed files) = AreClean d files.log files.db → HoldSuch d (λ trees. Unit {0}) files
  NeedsNoLog (left.Uncopied files) = ⊥
  NeedsNoLog (left.Unclosed store) = ⊥
  NeedsNoLog (left.Unopened rest) = Unit {0}

  -- a file was opened, and its disk is clean
  abbrev pub WasOpenedClean : Remains D d → Type 0
  WasOpenedClean left.Nothing = ⊥
  WasOpenedClean (left.Closed files) = AreClean d files.log files.db
  WasOpenedClean (left.Uncopied files) = AreClean d files.log files.db
  WasOpenedClean (left.Unclosed store) = IsClean (view store)
  WasOpenedClean (left.Unopened rest) = ⊥

  -- If no file was opened, why. `Spares` is what the storage crate says of what is left then.
  abbrev pub IfUnopened : (Error → Option (Leftover D d) → Type 0) → Refusal → Remains D d → Type 0
  IfUnopened Spares why left.Nothing = (error : Error) × (why ≡ store_refusal error) × IsFault why × Spares error None
  IfUnopened Spares why (left.Closed files) = Unit {0}
  IfUnopened Spares why (left.Uncopied files) = Unit {0}
  IfUnopened Spares why (left.Unclosed store) = Unit {0}
  IfUnopened Spares why (left.Unopened rest) = (error : Error) × (why ≡ store_refusal error) × IsFault why × Spares error (Some rest)

  -- of what is left of files that could not be opened
  abbrev pub OfUnopened : Remains D d → (Leftover D d → Type 0) → Type 0
  OfUnopened left.Nothing Is = Unit {0}
  OfUnopened (left.Closed files) Is = Unit {0}
  OfUnopened (left.Uncopied files) Is = Unit {0}
  OfUnopened (left.Unclosed store) Is = Unit {0}
  OfUnopened (left.Unopened rest) Is = Is rest

  -- If they were not closed, a crash leaves nothing that it could not leave before, and the store lists its tables by number.
  pub record KeepsAll (s : State) (store : FileStore D d) : Type 0 where
    pub was_clean : IsClean (view store) → HasCleanDisk s
    pub as_before : (trees : Trees) → recovers store trees → s.may_leave trees
    pub sound : IsClean (view store) → AreDatabases (recovers store)
    pub numbered : IsClean (view store) → IsTrue (view store).is_numbered

  -- The file of this state was closed, and holds one of the things that a crash could leave before: with no log too, if that was copied. Or
  -- it was not closed, and a crash leaves nothing new.
  abbrev pub RemainsOf : State → Remains D d → Type 0
  RemainsOf s left.Nothing = ⊥
  RemainsOf s (left.Closed files) = AreClean d files.log files.db → HasCleanDisk s × HoldSuch d s.may_leave files
  RemainsOf s (left.Uncopied files) = AreClean d files.log files.db → HasCleanDisk s × HoldBoth d s.may_leave files
  RemainsOf s (left.Unclosed store) = KeepsAll s store
  RemainsOf s (left.Unopened rest) = ⊥

  -- A file that was opened is not let go: if nothing is given back, the host holds none that it didn't hold before.
  abbrev pub LetsNoneGo : Remains D d → (was_held is_held : Bool) → Type 0
  LetsNoneGo what was_held is_held = what ≡ left.Nothing → is_held ≡ was_held

  -- its store comes back, open or broken
  abbrev pub IsUnclosed : Remains D d → Type 0
  IsUnclosed (left.Unclosed store) = Unit {0}
  IsUnclosed what = ⊥

  -- The desk's file was closed, or could not be. After a fault of the store it was not closed.
  pub record PutsAway (desk : Desk (FileStore D d) over_files) (what : Remains D d) : Type 0 where
    pub closes : RemainsOf (state over_files desk) what
    pub spared : IsTrue (desk_state desk).needs_reopen → IsUnclosed what

  -- What is left of an opening that was refused: its file, put away. Of files that were not opened, what is left comes back as it is.
  abbrev pub IsClearedOf : OpenFault D d → Remains D d → Type 0
  IsClearedOf (fault.Unopened error None) what = what ≡ left.Nothing
  IsClearedOf (fault.Unopened error (Some rest)) what = what ≡ left.Unopened rest
  IsClearedOf (fault.Refused conn refusal) what = RemainsOf (file_state conn) what
