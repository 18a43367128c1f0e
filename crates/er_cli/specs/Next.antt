-- What a command line leaves of a history in the file that it gives back: the next command line finds it.
use Rattle.std.specs.Prelude.{ℕ, IsTrue, List, []}
use Rattle.sqlite_disk.specs.declared.Disk as disk
use Rattle.sqlite_disk.specs.declared.Files.{Files}
use Rattle.sqlite_wal.specs.Recovery.{Image}
use Rattle.sqlite_wal.specs.Files.{outcomes}
use Rattle.sqlite_wal.specs.Reads.{AreClean}
use Rattle.sqlite_trees.specs.View.{IsClean}
use Rattle.sqlite_store.specs.declared.store.FileStore.{FileStore}
use Rattle.sqlite_store.specs.FileStore.{files as store_files, view, recovers}
use Rattle.sqlite.specs.Tree.{Trees}
use Rattle.sqlite.specs.Closing.{files_left}
use Rattle.sqlite.specs.Files.{IsCleanLeft, image_of}
use Rattle.sqlite.specs.declared.file.Leftover.{Leftover}
use Rattle.er_desk.specs.Desk.{Point, Placed, IsStoredAt}
use Rattle.er_desk.specs.Run.{Session}
use Rattle.er_desk.specs.History.{Ended}
use Rattle.er_desk.specs.Headline.{NextBegins, RecoversHistory, RecoversWhole, and_then}
use Rattle.er_desk.specs.Opening.{OfStore}
use Rattle.er_cli.specs.Remains.{OfUnopened}
use Rattle.er_cli.specs.declared.remains.Remains.{Remains}
use Rattle.er_cli.specs.declared.remains.Remains.TheVariants as left

-- in these two files, with the log and without it, the next command line finds the history with this session after it
pub record FindsNext (new : Point) (ends : List Ended) (session : Session) (last : Placed) (image : Image) : Type 0 where
  pub both : RecoversHistory image new (and_then ends session last.point) last
  pub alone : RecoversHistory (record image { log = [] }) new (and_then ends session last.point) last

-- as the two read now, and as a crash may leave them
pub record RecoversNext {D : Type 0} (d : disk.Ghosts D) (new : Point) (ends : List Ended) (session : Session) (last : Placed)
    (files : Files D) : Type 0 where
  pub seen : FindsNext new ends session last (image_of d files)
  pub left : (image : Image) → outcomes d files.log files.db image → FindsNext new ends session last image

-- The same of files whose log could not be copied: the next command line finds the history in the two.
pub record RecoversBoth {D : Type 0} (d : disk.Ghosts D) (new : Point) (ends : List Ended) (session : Session) (last : Placed)
    (files : Files D) : Type 0 where
  pub seen : RecoversHistory (image_of d files) new (and_then ends session last.point) last
  pub left : (image : Image) → outcomes d files.log files.db image → RecoversHistory image new (and_then ends session last.point) last

-- the files were left so, in tables of one of these versions
abbrev pub RecoversIn : (ℕ → Type 0) → Point → List Ended → Session → Image → Type 0
RecoversIn In new ends session image =
    (last : Placed) × In last.version × RecoversHistory image new (and_then ends session last.point) last

-- The files of a store that was not closed. Each thing that the store would find after a crash, by its own list of tables, is an end of the
-- history with this session, and the next one begins there. The bytes that a crash may leave were left by that history.
pub record KeepsNext {D : Type 0} (d : disk.Ghosts D) (In : ℕ → Type 0) (new : Point) (ends : List Ended) (session : Session)
    (store : FileStore D d) : Type 0 where
  pub begins : (trees : Trees) → recovers store trees → (version : ℕ) × In version × NextBegins new ends session version trees
  pub left : (image : Image) → outcomes d (store_files store).0 (store_files store).1 image
      → ∥ RecoversIn In new ends session image ∥₁

-- What is left of a file in which a session was asked: on a clean disk the next command line finds the history with the session after it,
-- in tables of one of these versions.
abbrev pub RecoversSession : {D : Type 0} (d : disk.Ghosts D) → (ℕ → Type 0) → Point → List Ended → Session → Remains D d → Type 0
RecoversSession d In new ends session left.Nothing = Unit {0}
RecoversSession d In new ends session (left.Closed files) =
    AreClean d files.log files.db → (last : Placed) × In last.version × RecoversNext d new ends session last files
RecoversSession d In new ends session (left.Uncopied files) =
    AreClean d files.log files.db → (last : Placed) × In last.version × RecoversBoth d new ends session last files
RecoversSession d In new ends session (left.Unclosed store) = IsClean (view store) → KeepsNext d In new ends session store
RecoversSession d In new ends session (left.Unopened rest) = Unit {0}

-- What is left of files that could not be opened. What a store would find after a crash, by its own list of tables, is the end of the
-- history. The bytes that a crash may leave were left by that history, each page with its sum: of a store, if it lists its tables by
-- number.
pub record LeavesAgain {D : Type 0} (d : disk.Ghosts D) (new : Point) (ends : List Ended) (first : Placed) (rest : Leftover D d)
    : Type 0 where
  pub finds : OfStore rest (λ store. (trees : Trees) → recovers store trees → IsStoredAt first trees)
  pub bytes : OfStore rest (λ store. IsTrue (view store).is_numbered)
      → (image : Image) → outcomes d (files_left rest).0 (files_left rest).1 image
      → RecoversHistory image new ends first × RecoversWhole image first

-- If no file was opened: what is left of files was left by the history, on a clean disk.
abbrev pub LeavesUnopened : {D : Type 0} (d : disk.Ghosts D) → Point → List Ended → Placed → Remains D d → Type 0
LeavesUnopened d new ends first what = OfUnopened what (λ rest. IsCleanLeft rest → LeavesAgain d new ends first rest)

-- what is given back are closed files, copied or not, or a store that was not closed
abbrev pub WasOpened : {D : Type 0} {d : disk.Ghosts D} → Remains D d → Type 0
WasOpened left.Nothing = ⊥
WasOpened (left.Closed files) = Unit {0}
WasOpened (left.Uncopied files) = Unit {0}
WasOpened (left.Unclosed store) = Unit {0}
WasOpened (left.Unopened rest) = ⊥

-- A file was opened and put away. On a clean disk the next command line finds the history with this session after it.
pub record GoesTo {D : Type 0} (d : disk.Ghosts D) (In : ℕ → Type 0) (new : Point) (ends : List Ended) (session : Session)
    (what : Remains D d) : Type 0 where
  pub put_away : WasOpened what
  pub leaves : RecoversSession d In new ends session what
