-- A store that was closed, and whose log is copied by the log's own crate.
use Rattle.std.proofs.Common.{◌≡◌, ◌∙◌, ℕ, [], Bool, false, IsTrue, inl, inr, sym, subst, arith, true≢false}
use Rattle.std.proofs.lemmas.Bool.{cases_Bool}
use Rattle.std.proofs.Math.Logic.{∥∥₁_elim, ∥∥₁_map}
use Rattle.sqlite_disk.specs.{declared.Disk.Ghosts, declared.Files.Files}
use Rattle.sqlite_wal.specs.{Files.outcomes, Reads.AreClean, Recovery.Image}
use Rattle.sqlite_wal.proofs.LogLemmas.{SeenMayStay}
use Rattle.sqlite_wal.proofs.StateLemmas.{clean_of}
use Rattle.sqlite_pool.specs.Stored.{stored_size}
use Rattle.sqlite_wal.specs.PageSize.{IsPageSize}
use Rattle.sqlite_pool.proofs.{ResealLemmas.adopts_of, StateLemmas.{clean_is, may_leave_is, settled, size_is_allowed}}
use Rattle.sqlite_trees.{specs.View.{IsClean, IsQuiet, IsRolledBack}, proofs.Doubt.no_doubt}
use Rattle.sqlite_store.specs.FileStore.{faults, files as store_files, is_shielded, recovers, state, view}
use Rattle.sqlite_store.specs.{declared.store.FileStore.FileStore, Laws.{shut_is_broken, stays_at}, Listing.IsOurs, Saved.kept_schema}
use Rattle.sqlite.specs.{Files.{HoldsDatabase, file_state}, Held.{AreDatabases, Held}, Opening.HoldsAt, State.HasCleanDisk}
use Rattle.sqlite.specs.Tree.{Trees}
use Rattle.er_copy.specs.Copied.{HoldAll, HoldAllAlone}
use Rattle.er_cli.specs.Remains.{HoldBoth, HoldSuch}

database_of : (size : ℕ) (image : Image) (db : Trees) → IsPageSize (stored_size size) → HoldsAt size image db → HoldsDatabase image db
database_of size image db allowed held = (
  size,
  allowed,
  record {
    pages = held.pages;
    wanted = held.wanted;
    schema = held.schema;
    found = adopts_of size image held.pages held.found;
    ours = held.ours;
    reads = held.reads;
    sound = held.sound;
  },
)

module _ {D : Type 0} {g : Ghosts D} (stays : SeenMayStay g) where
  -- each thing that a crash may leave of an open store holds its last commit
  holds_at : (store : FileStore D g) → IsTrue (view store).is_open → IsTrue (view store).is_numbered → AreDatabases (recovers store)
      → (left : Image) → (state store).may_leave left → ∥ HoldsAt (state store).page_size left (view store).committed ∥₁
  holds_at store is_open numbered sound left may =
      let schema = sound _ (stays_at store stays is_open) in
      ∥∥₁_map (store.stored is_open) (λ stored.
      let held : HoldsAt (state store).page_size left (view store).committed = record {
        pages = (state store).committed;
        wanted = kept_schema store.saved store.schema.items;
        schema = schema.0;
        found = (settled store.pool stays is_open).durable left may;
        reads = rw (clean_of (state store) is_open);
        sound = schema.1;
        ours = subst (λ b. IsOurs (state store).page_size b (kept_schema store.saved store.schema.items) (state store).committed)
            numbered stored.ours;
      } in held)

  module _ (conn : Held (FileStore D g)) (store : FileStore D g) (broken : Bool)
      (quiet : IsQuiet view faults recovers is_shielded conn.store store) (undone : IsRolledBack (view conn.store) (view store))
      (numbered : IsClean (view store) → IsTrue (view store).is_numbered) (sound : IsClean (view store) → AreDatabases (recovers store))
      (shown : IsClean (view store) → broken ≡ (view store).is_broken) (fine : broken ≡ false)
      (files now : Files D) (are : (files.log, files.db) ≡ store_files store)
      (clean : AreClean g now.log now.db → AreClean g files.log files.db)
      (keeps : AreClean g now.log now.db → (size : ℕ) (db : Trees) → HoldAll g files size db → HoldAll g now size db)
      (honest : AreClean g now.log now.db) where
    early : AreClean g (store_files store).0 (store_files store).1
    early = subst (λ (p : D × D). AreClean g p.0 p.1) are (clean honest)

    certain : IsClean (view store)
    certain = no_doubt _ (clean_is store.pool ∙ early)

    is_open : IsTrue (view store).is_open
    is_open = elim (cases_Bool (view store).is_open) [
      | inl on ↦ on
      | inr off ↦ absurd (true≢false (sym (shut_is_broken store off) ∙ (sym (shown certain) ∙ fine)))
    ]

    was_open : IsTrue (view conn.store).is_open
    was_open = (undone.kept certain).was_open is_open

    committed : (view store).committed ≡ (view conn.store).committed
    committed = (undone.kept certain).committed is_open

    was_clean : HasCleanDisk (file_state conn)
    was_clean = let rises = quiet.clean in let none = certain in omega arith

    holds_all : IsPageSize (stored_size (state store).page_size) → HoldAll g files (state store).page_size (view store).committed
    holds_all allowed = record {
      allowed = allowed;
      each = λ left may. holds_at store is_open (numbered certain) (sound certain) left
          (may_leave_is store.pool left early (subst (λ (p : D × D). outcomes g p.0 p.1 left) are may));
    }

    holds_both : (image : Image) → outcomes g now.log now.db image → ∥ HoldsDatabase image (view conn.store).committed ∥₁
    holds_both image may = ∥∥₁_elim (size_is_allowed store.pool) squash₁ (λ allowed.
        ∥∥₁_map ((keeps honest (state store).page_size (view store).committed (holds_all allowed)).each image may)
        (λ held. subst (HoldsDatabase image) committed (database_of (state store).page_size image (view store).committed allowed held)))

    -- whatever failed
    pub are_kept : HasCleanDisk (file_state conn) × HoldBoth g (file_state conn).may_leave now
    are_kept = (
      was_clean,
      record {
        db = (view conn.store).committed;
        is = stays_at conn.store stays was_open;
        seen = holds_both _ (stays _, stays _);
        later = holds_both;
      },
    )

    -- and once it is copied
    pub are_closed : ((size : ℕ) (db : Trees) → HoldAll g files size db → HoldAllAlone g now size db)
        → HasCleanDisk (file_state conn) × HoldSuch g (file_state conn).may_leave now
    are_closed copied =
        let alone = λ (image : Image) (may : outcomes g now.log now.db image).
        ∥∥₁_elim (size_is_allowed store.pool) squash₁ (λ allowed.
        ∥∥₁_map ((copied (state store).page_size (view store).committed (holds_all allowed)).each image may)
        (λ held. subst (HoldsDatabase (record image { log = [] })) committed
        (database_of (state store).page_size (record image { log = [] }) (view store).committed allowed held))) in (
          was_clean,
          record {
            db = (view conn.store).committed;
            is = stays_at conn.store stays was_open;
            seen = record { both = holds_both _ (stays _, stays _); alone = alone _ (stays _, stays _) };
            later = λ image may. record { both = holds_both image may; alone = alone image may };
          },
        )
