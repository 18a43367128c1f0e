-- A log that is copied by its own crate.
use Rattle.std.proofs.Common.{◌≡◌, ◌∙◌, ◌+◌, ◌<◌, ℕ, List, [], Option, Some, IfSome, length, refl, inl, sym, ap, subst, arith}
use Rattle.std.proofs.Math.Logic.{∥∥₁_elim, ∥∥₁_map}
use Rattle.sqlite_disk.specs.{declared.Disk.Ghosts, declared.Files.Files, Disk.{Cut, Follows}}
use Rattle.sqlite_trees.specs.Tree.{Trees}
use Rattle.sqlite_wal.specs.Recovery as raw
use Rattle.sqlite_wal.specs.{Files.{outcomes, seen_image}, Format.be32, Reads.{AreClean}, Recovery.{Image, IsIgnored, RecoversAs, frame_at}}
use Rattle.sqlite_wal.specs.Index.{Index, StopsAt, gate_of}
use Rattle.sqlite_wal.proofs.{PartLemmas.{frames_len-zero, same_parts}, SoundLemmas.recovers_stopped}
use Rattle.sqlite_wal.specs.Log as log
use Rattle.sqlite_wal.specs.declared.{log.Log.Log, page_size.PageSize.PageSize}
use Rattle.sqlite_wal.specs.PageSize.{IsPageSize, Names, bytes_of, size_in_file}
use Rattle.sqlite_wal.proofs.FileLemmas.{pages_without_frames}
use Rattle.sqlite_wal.proofs.LogLemmas.{SeenMayStay, durable_frames, settled, sound_of}
use Rattle.sqlite_wal.proofs.{RecoveryLemmas.recovers_once, StateLemmas.open_from}
use Rattle.sqlite_pool.specs.{Stored.stored_size, StoredLaws.carried}
use Rattle.sqlite_pool.proofs.ResealLemmas.{adopts_of}
use Rattle.sqlite.specs.{Files.HoldsDatabase, Opening.HoldsAt}
use Rattle.sqlite.proofs.FileLemmas.{probe_size}
use Rattle.er_copy.specs.Copied.{HasNoFrames, HoldAll, KeepsLog, Probes}

holds_of : (size : ℕ) (image : Image) (db : Trees) → IsPageSize (stored_size size) → HoldsAt size image db → HoldsDatabase image db
holds_of size image db allowed held = (
  size,
  allowed,
  record {
    pages = held.pages;
    wanted = held.wanted;
    schema = held.schema;
    found = adopts_of size image held.pages held.found;
    ours = held.ours;
    reads = held.reads;
    sound = held.sound;
  },
)

-- what stands for the files holds the same
stands : (size : ℕ) (old new : Image) (db : Trees) → RecoversAs (stored_size size) old new → HoldsAt size old db → HoldsAt size new db
stands size old new db same held = record {
  pages = held.pages;
  wanted = held.wanted;
  schema = held.schema;
  found = carried size old new same held.pages held.found;
  ours = held.ours;
  reads = held.reads;
  sound = held.sound;
}

module _ {D : Type 0} {g : Ghosts D} where
  pub keeps_then : (a b c : Log D g) → (log.state b).page_size ≡ (log.state a).page_size
      → (AreClean g (log.files b).0 (log.files b).1 → AreClean g (log.files a).0 (log.files a).1)
      → ((left : Image) → (log.state b).may_leave left
      → (before : Image) × (log.state a).may_leave before × RecoversAs (log.state a).page_size before left)
      → (AreClean g (log.files c).0 (log.files c).1 → AreClean g (log.files b).0 (log.files b).1)
      → ((left : Image) → (log.state c).may_leave left
      → (before : Image) × (log.state b).may_leave before × RecoversAs (log.state b).page_size before left)
      → (log.state c).page_size ≡ (log.state b).page_size → KeepsLog a c
  keeps_then a b c size clean one later two sized = record {
    size = sized ∙ size;
    clean = λ now. clean (later now);
    crash = λ left may.
        let (mid, in_b, second) = two left may in
        let (before, in_a, first) = one mid in_b in (
          before,
          in_a,
          λ pages was. subst (λ (n : ℕ). raw.Recovers n left pages) size
              (second pages (subst (λ (n : ℕ). raw.Recovers n mid pages) (sym size) (first pages was))),
        );
  }

-- the header stays, and the gate after it
stops_longer : (it : Index) (log kept longer : List ℕ) → length it.numbers ≡ 0 → StopsAt it log kept → Cut 56 kept longer
    → StopsAt it log longer
stops_longer it log kept longer none stops cut =
    let gate : gate_of it ≡ 40 = ap (λ (k : ℕ). frame_at it.page_size k + 8) none ∙ omega (arith, frames_len-zero it.page_size) in
    let starts : frame_at it.page_size (length it.numbers) ≡ 32 = omega (arith, gate) in
    let whole : 40 < length kept = omega (arith, gate, stops.shut.within) in
    let long : 40 < length longer = omega (arith, whole, cut.no_shorter) in
    record {
      shares = record {
        long = omega (arith, long);
        within = omega (arith, long, starts);
        head = same_parts longer kept 0 0 32 (omega (arith, long)) (omega (arith, whole))
            (λ i low. cut.below (0 + i) (omega (arith, whole, low)) (omega (arith, low))) ∙ stops.shares.head;
        frames = λ i low. absurd (omega (arith, none, low));
      };
      shut = record {
        within = omega (arith, gate, long);
        differs = λ same. stops.shut.differs (sym (cut.below (gate_of it) stops.shut.within (omega (arith, gate))) ∙ same);
      };
    }

module _ {D : Type 0} (g : Ghosts D) (stays : SeenMayStay g) (files probed : Files D) (found : Option PageSize) (chosen : PageSize)
    (is : found ≡ Some chosen)
    (looks : Probes g files probed found) (old new : Log D g) (opened : log.files old ≡ (probed.log, probed.db))
    (sized : (log.state old).page_size ≡ bytes_of chosen) (keeps : KeepsLog old new)
    (clean : AreClean g (log.files new).0 (log.files new).1) (size : ℕ) (db : Trees) (all : HoldAll g files size db) where
  seen : Image
  seen = seen_image g files.log files.db

  probed_clean : AreClean g probed.log probed.db
  probed_clean = subst (λ (p : D × D). AreClean g p.0 p.1) opened (keeps.clean clean)

  size_is : HoldsAt size seen db → (log.state old).page_size ≡ stored_size size
  unfolding seen holds_of
  size_is held =
      sized ∙ sym (probe_size seen found
      (λ read. subst (λ (o : Option PageSize). IfSome o (λ _. AreClean g probed.log probed.db → (IsIgnored (g.seen files.log) → ⊥) →
      Names found (be32 (g.seen files.log) 8))) is looks.by_log probed_clean read)
      (λ ignored. subst (λ (o : Option PageSize). IfSome o (λ _. AreClean g probed.log probed.db → IsIgnored (g.seen files.log) →
      Names found (size_in_file (g.seen files.db)))) is looks.by_file probed_clean ignored)
      db (holds_of size seen db all.allowed held) chosen is)

  pub kept_at : (left : Image) → (log.state new).may_leave left → ∥ HoldsAt size left db ∥₁
  unfolding seen
  kept_at left may =
      let (before, was, stand) = keeps.crash left may in
      let there = subst (λ (p : D × D). outcomes g p.0 p.1 before) opened was.1 in
      ∥∥₁_elim (all.each seen (stays files.log, stays files.db)) squash₁ (λ held.
      ∥∥₁_map (all.each before (looks.log.crash before.log there.0, looks.db.crash before.db there.1))
      (stands size before left db (subst (λ (n : ℕ). RecoversAs n before left) (size_is held) stand)))

  -- so does whatever recovers as the log has it
  same_commit : HasNoFrames new → (left other : Image) → (log.state new).may_leave left
      → raw.Recovers (log.state new).page_size other (log.state new).committed → ∥ HoldsAt size other db ∥₁
  unfolding seen
  same_commit none left other may found =
      let open_now = open_from (log.state new) none.is_ready clean in
      ∥∥₁_elim (all.each seen (stays files.log, stays files.db)) squash₁ (λ held.
      let whole : (log.state new).page_size ≡ stored_size size = keeps.size ∙ size_is held in
      ∥∥₁_map (kept_at left may) (stands size left other db (λ pages was.
      let durable = (settled new open_now stays).durable left may in
      let here = subst (λ (n : ℕ). raw.Recovers n left pages) (sym whole) was in
      subst (λ (n : ℕ). raw.Recovers n other pages) whole
      (subst (raw.Recovers new.page_size other) (recovers_once _ left _ _ durable here) found))))

  -- with no frame the database file has it alone
  pub alone_at : HasNoFrames new → (left : Image) → (log.state new).may_leave left
      → ∥ HoldsAt size (record left { log = [] }) db ∥₁
  alone_at none left may =
      let open_now = open_from (log.state new) none.is_ready clean in
      let kept = (sound_of new open_now).db_safe left.db may.1.1 in
      let empty : length (log.durable new).numbers ≡ 0 = durable_frames new none.is_ready ∙ omega
      (arith, new.marked none.is_ready, none.none) in
      let found : raw.Recovers new.page_size (record { log = []; db = left.db }) (log.state new).committed = record {
        frames = 0;
        replays = inl (inl (omega arith), refl);
        present = kept.present;
        gives = ap (λ d. raw.pages_after new.page_size [] d 0) (kept.all empty) ∙ pages_without_frames new.page_size []
            (g.seen new.log) (g.seen new.db)
            ∙ ap (raw.pages_after new.page_size (g.seen new.log) (g.seen new.db)) (sym empty);
      } in
      same_commit none left (record left { log = [] }) may found

  -- and it is found beside a longer log
  pub longer_at : HasNoFrames new → (left : Image) (longer : List ℕ) → (log.state new).may_leave left → Cut 56 left.log longer
      → ∥ HoldsAt size (record { log = longer; db = left.db }) db ∥₁
  longer_at none left longer may cut =
      let open_now = open_from (log.state new) none.is_ready clean in
      let sound = sound_of new open_now in
      let empty : length (log.durable new).numbers ≡ 0 = durable_frames new none.is_ready ∙ omega
      (arith, new.marked none.is_ready, none.none) in
      let stops = stops_longer (log.durable new) (g.seen new.log) left.log longer empty (sound.log_safe left.log may.1.0) cut in
      let found : raw.Recovers new.page_size (record { log = longer; db = left.db }) (log.state new).committed =
      recovers_stopped (log.durable new) (g.seen new.log) (g.seen new.db) longer left.db sound.ready.shown stops
      (sound.db_safe left.db may.1.1) in
      same_commit none left (record { log = longer; db = left.db }) may found

  module _ (none : HasNoFrames new) (copied : Files D) (longer : D) (are : (copied.log, copied.db) ≡ log.files new)
      (crash : Follows (Cut 56) (g.may_leave copied.log) (g.may_leave longer)) (left : Image) (may : outcomes g longer copied.db left) where
    before : (log.state new).may_leave (record { log = (crash left.log may.0).0; db = left.db })
    before =
        let (kept, was, cut) = crash left.log may.0 in
        (clean, subst (λ (p : D × D). outcomes g p.0 p.1 (record { log = kept; db = left.db })) are (was, may.1))

    pub longer_kept : ∥ HoldsAt size left db ∥₁
    longer_kept = longer_at none _ left.log before (crash left.log may.0).2

    pub longer_alone : ∥ HoldsAt size (record left { log = [] }) db ∥₁
    longer_alone = alone_at none _ before
