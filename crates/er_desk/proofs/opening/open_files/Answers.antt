use Rattle.std.proofs.Common.{◌≡◌, inl, inr, ℕ, Bool, List, [], ◌∷◌, refl, subst, ap₂, true, false, cond}
use Rattle.sqlite_disk.specs.{Events.{Event, replay, settled}, History.MayLeave}
use Rattle.sqlite_wal.specs.{Files.image_at, Recovery.Image}
use Rattle.sqlite_std_file.specs.File.{IsFresh}
use Rattle.er_desk.proofs.Opened.{spares_at}
use Rattle.er_desk.proofs.opening.open_files.Goals as goal

abbrev LeavesAfter : Bool → List ℕ → List Event → List ℕ → Type 0
LeavesAfter mixes start events left = let it = replay start events in MayLeave mixes it.seen it.synced it.steps left

-- of a file that had no call since it was settled a crash leaves what it held
leaves_start : (mixes : Bool) (key : ℕ) (start left : List ℕ) → LeavesAfter mixes start (settled key ∷ []) left → left ≡ start
leaves_start mixes key start left (inl seen) = seen
leaves_start mixes key start left (inr synced) = synced

-- the log or the database file, as it was opened
leaves_fresh : (mixes : Bool) (log db : List ℕ) (is_log which : Bool) (key : ℕ) (events : List Event) → is_log ≡ which
    → events ≡ settled key ∷ [] → (left : List ℕ) → LeavesAfter mixes (cond is_log log db) events left → left ≡ cond which log db
leaves_fresh mixes log db is_log which key events same settles left may =
    subst (λ (b : Bool). left ≡ cond b log db) same
    (leaves_start mixes key (cond is_log log db) left (subst (λ (e : List Event). LeavesAfter mixes (cond is_log log db) e left) settles may))

abbrev both : List ℕ → List ℕ → Image
both log db = record { log = log; db = db }

pub returns : goal.returns
returns g c = record {
  new = c.open_from.ensures.fresh;
  live = c.open_from.ensures.opened;
  found = c.open_from.ensures.found;
  spared = spares_at (image_at g.S.Start) (IsFresh true) (IsFresh false)
      (λ files log db. (
        rw (log.0, log.1, db.0, db.1) refl,
        λ left may. ap₂ both
            (leaves_fresh g.S.Start.is_mixing g.S.Start.log g.S.Start.db _ true _ _ log.0 log.1 left.log may.0)
            (leaves_fresh g.S.Start.is_mixing g.S.Start.log g.S.Start.db _ false _ _ db.0 db.1 left.db may.1),
      ))
      c.open_from.result c.open_from.ensures.unopened c.open_from.ensures.cause;
}
