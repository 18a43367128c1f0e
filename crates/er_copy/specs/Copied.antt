-- What a crash may leave of two files, while the log is copied.
use Rattle.std.specs.Prelude.{◌≡◌, ℕ, [], IsTrue, IfSome, Option}
use Rattle.sqlite_disk.specs.declared.Disk.{Ghosts}
use Rattle.sqlite_disk.specs.declared.Files.{Files}
use Rattle.sqlite_trees.specs.Tree.{Trees}
use Rattle.sqlite_pool.specs.Stored.{stored_size}
use Rattle.sqlite_wal.specs.Log.{frames, files, state}
use Rattle.sqlite_wal.specs.declared.log.Log.{Log}
use Rattle.sqlite_wal.specs.declared.page_size.PageSize.{PageSize}
use Rattle.sqlite_wal.specs.PageSize.{IsPageSize, Names, size_in_file}
use Rattle.sqlite_wal.specs.Files.{outcomes}
use Rattle.sqlite_wal.specs.Format.{be32}
use Rattle.sqlite_wal.specs.Reads.{AreClean, OnlyReads}
use Rattle.sqlite_wal.specs.Recovery.{Image, IsIgnored, RecoversAs}
use Rattle.sqlite.specs.Opening.{HoldsAt}

-- a database of this page size with these trees, in each thing that a crash may leave
pub record HoldAll {D : Type 0} (g : Ghosts D) (files : Files D) (size : ℕ) (db : Trees) : Type 0 where
  pub allowed : IsPageSize (stored_size size)
  pub each : (left : Image) → outcomes g files.log files.db left → ∥ HoldsAt size left db ∥₁

-- and in the database file alone
pub record HoldAllAlone {D : Type 0} (g : Ghosts D) (files : Files D) (size : ℕ) (db : Trees) : Type 0 where
  pub each : (left : Image) → outcomes g files.log files.db left → ∥ HoldsAt size (record left { log = [] }) db ∥₁

-- the size is the one that the files name, and nothing is written
pub record Probes {D : Type 0} (g : Ghosts D) (old new : Files D) (found : Option PageSize) : Type 0 where
  pub by_log : IfSome found (λ _. AreClean g new.log new.db → (IsIgnored (g.seen old.log) → ⊥) → Names found (be32 (g.seen old.log) 8))
  pub by_file : IfSome found (λ _. AreClean g new.log new.db → IsIgnored (g.seen old.log) → Names found (size_in_file (g.seen old.db)))
  pub log : OnlyReads g old.log new.log
  pub db : OnlyReads g old.db new.db

module _ {D : Type 0} {g : Ghosts D} where
  -- each new outcome stands for what an old one stands for
  pub record KeepsLog (old new : Log D g) : Type 0 where
    pub size : (state new).page_size ≡ (state old).page_size
    pub clean : AreClean g (files new).0 (files new).1 → AreClean g (files old).0 (files old).1
    pub crash : (left : Image) → (state new).may_leave left
        → (before : Image) × (state old).may_leave before × RecoversAs (state old).page_size before left

  -- it is open, with no frame
  pub record HasNoFrames (it : Log D g) : Type 0 where
    pub is_ready : IsTrue (state it).is_ready
    pub none : frames it ≡ 0
