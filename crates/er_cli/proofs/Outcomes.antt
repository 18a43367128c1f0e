-- What a crash may leave of the files of a store opens again, as one of the databases that the store allows.
use Rattle.std.proofs.Common.{IsTrue, subst}
use Rattle.sqlite_disk.specs.declared.Disk.{Ghosts}
use Rattle.sqlite_wal.specs.{Recovery.Image, Files.outcomes}
use Rattle.sqlite_trees.proofs.Doubt.{clean_of as sure}
use Rattle.sqlite_trees.specs.View.{IsClean}
use Rattle.sqlite_pool.proofs.StateLemmas.{clean_is, may_leave_is}
use Rattle.sqlite_store.specs.declared.store.FileStore.{FileStore}
use Rattle.sqlite_store.specs.FileStore.{files as store_files, recovers, view}
use Rattle.sqlite.specs.{Tree.Trees, Held.AreDatabases, Files.HoldsDatabase}
use Rattle.sqlite.proofs.Theorems.{opens_again}

pub left_again : {D : Type 0} {g : Ghosts D} (it : FileStore D g) → IsClean (view it) → IsTrue (view it).is_numbered
    → AreDatabases (recovers it)
    → (image : Image) → outcomes g (store_files it).0 (store_files it).1 image
    → ∥ ((db : Trees) × recovers it db × HoldsDatabase image db) ∥₁
left_again it clean numbered sound image may =
    opens_again it numbered sound image (may_leave_is it.pool image (subst IsTrue (clean_is it.pool) (sure _ clean)) may)
