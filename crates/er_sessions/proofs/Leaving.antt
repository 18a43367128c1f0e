-- What is left of files that were let go.
use Rattle.std.proofs.Common.{ℕ, IsTrue, List, [], MatchResult, Result, Ok, Err, subst}
use Rattle.std.proofs.Math.Logic.{∥∥₁_map}
use Rattle.sqlite_disk.specs.declared.Disk as disk
use Rattle.sqlite_disk.specs.declared.Files.{Files}
use Rattle.sqlite_wal.specs.Recovery.{Image}
use Rattle.sqlite_trees.proofs.Doubt.{clean_of as sure}
use Rattle.sqlite_pool.proofs.StateLemmas.{clean_is, may_leave_is}
use Rattle.sqlite_store.specs.FileStore.{recovers}
use Rattle.sqlite.proofs.Theorems.{opens_again}
use Rattle.sqlite.specs.{Tree.Trees, State.{State, HasCleanDisk}, Files.{HoldsDatabase, image_of}}
use Rattle.er_event.specs.declared.refusals.Refusal.{Refusal}
use Rattle.er_store.specs.Representing.{AfterCrash}
use Rattle.er_desk.specs.{Desk.{Point, placed_at}, Run.Session, History.Ended}
use Rattle.er_desk.specs.Headline.{IsBeginning, NextBegins, RecoversHistory, and_then}
use Rattle.er_cli.specs.declared.remains.Remains.{Remains}
use Rattle.er_cli.specs.declared.remains.Remains.TheVariants as left
use Rattle.er_cli.specs.{Remains.IfUnopened, Next.{RecoversIn, WasOpened}}
use Rattle.er_sessions.specs.Sessions.{IfCleanFiles, IsClosedOrKept, RecoversAfterSession, SparesFiles}

-- one of these versions, in which the next session begins
abbrev pub BeginsIn : (ℕ → Type 0) → Point → List Ended → Session → Trees → Type 0
BeginsIn In new ends session trees = (version : ℕ) × In version × NextBegins new ends session version trees

module _ (In : ℕ → Type 0) (new : Point) (ends : List Ended) (session : Session) (begins : IsBeginning new) where
  -- what holds an end of the history is found by the next session
  finds : (image : Image) (db : Trees) (version : ℕ) (next : NextBegins new ends session version db) → ∥ HoldsDatabase image db ∥₁
      → RecoversHistory image new (and_then ends session next.last) (placed_at next.last version)
  finds image db version next holds = record { begins = begins; history = next.history; left = (db, holds, next.stored) }

  finds_in : (image : Image) (db : Trees) → BeginsIn In new ends session db → HoldsDatabase image db → RecoversIn In new ends session image
  finds_in image db (version, within, next) holds = (placed_at next.last version, within, finds image db version next ∣ holds ∣₁)

module _ {D : Type 0} {d : disk.Ghosts D} where
  pub over_clean : (Is : Type 0) (s : State) (now : Result (Files D) (Remains D d)) → IsClosedOrKept s now → (HasCleanDisk s → Is)
      → IfCleanFiles Is now
  over_clean Is s (Ok files) over is = λ clean. is (over clean).was_clean
  over_clean Is s (Err left.Nothing) none is = absurd none
  over_clean Is s (Err (left.Closed files)) closed is = λ clean. is (closed clean).0
  over_clean Is s (Err (left.Uncopied files)) closed is = λ clean. is (closed clean).0
  over_clean Is s (Err (left.Unclosed store)) keeps is = λ clean. is (keeps.was_clean clean)
  over_clean Is s (Err (left.Unopened rest)) none is = absurd none

  pub over_opened : (files : Files D) (why : Refusal) (s : State) (now : Result (Files D) (Remains D d)) → IsClosedOrKept s now
      → MatchResult now (λ _. Unit {0}) (IfUnopened (SparesFiles files) why)
  over_opened files why s (Ok now) over = tt
  over_opened files why s (Err left.Nothing) none = absurd none
  over_opened files why s (Err (left.Closed now)) closed = tt
  over_opened files why s (Err (left.Uncopied now)) closed = tt
  over_opened files why s (Err (left.Unclosed store)) keeps = tt
  over_opened files why s (Err (left.Unopened rest)) none = absurd none

  pub over_put : (s : State) (now : Result (Files D) (Remains D d)) → IsClosedOrKept s now
      → MatchResult now (λ _. Unit {0}) (λ what. WasOpened what)
  over_put s (Ok files) over = tt
  over_put s (Err left.Nothing) none = absurd none
  over_put s (Err (left.Closed files)) closed = tt
  over_put s (Err (left.Uncopied files)) closed = tt
  over_put s (Err (left.Unclosed store)) keeps = tt
  over_put s (Err (left.Unopened rest)) none = absurd none

  module _ (In : ℕ → Type 0) (new : Point) (ends : List Ended) (session : Session) (begins : IsBeginning new) where
    pub over_next : (s : State) (now : Result (Files D) (Remains D d)) → IsClosedOrKept s now → AfterCrash s (BeginsIn In new ends session)
        → RecoversAfterSession d In new ends session now
    over_next s (Ok files) over leaves = λ clean image may.
        let it = over clean in
        ∥∥₁_map (it.left image may) (λ found.
        finds_in In new ends session begins image found.0 (leaves it.was_clean found.0 found.1) found.2)
    over_next s (Err left.Nothing) none leaves = absurd none
    over_next s (Err (left.Closed files)) closed leaves = λ clean.
        let (was_clean, it) = closed clean in
        let (version, within, next) = leaves was_clean it.db it.is in
        let now = image_of d files in (
          placed_at next.last version,
          within,
          record {
            seen = record {
              both = finds In new ends session begins now it.db version next it.seen.both;
              alone = finds In new ends session begins (record now { log = [] }) it.db version next it.seen.alone;
            };
            left = λ image may. record {
              both = finds In new ends session begins image it.db version next (it.later image may).both;
              alone = finds In new ends session begins (record image { log = [] }) it.db version next (it.later image may).alone;
            };
          },
        )
    over_next s (Err (left.Uncopied files)) closed leaves = λ clean.
        let (was_clean, it) = closed clean in
        let (version, within, next) = leaves was_clean it.db it.is in (
          placed_at next.last version,
          within,
          record {
            seen = finds In new ends session begins (image_of d files) it.db version next it.seen;
            left = λ image may. finds In new ends session begins image it.db version next (it.later image may);
          },
        )
    over_next s (Err (left.Unclosed store)) keeps leaves = λ clean.
        let ends_in : (trees : Trees) → recovers store trees → BeginsIn In new ends session trees =
        λ trees may. leaves (keeps.was_clean clean) trees (keeps.as_before trees may) in
        record {
          begins = ends_in;
          left = λ image may. ∥∥₁_map
              (opens_again store (keeps.numbered clean) (keeps.sound clean) image
              (may_leave_is store.pool image (subst IsTrue (clean_is store.pool) (sure _ clean)) may))
              (λ found. finds_in In new ends session begins image found.0 (ends_in found.0 found.1) found.2);
        }
    over_next s (Err (left.Unopened rest)) none leaves = absurd none
