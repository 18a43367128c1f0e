-- What becomes of files that the storage crate opened, or did not.
use Rattle.std.proofs.Common.{inl, inr, sym, subst, ap, ◌∙◌, ◌≡◌, ◌⊎◌, ℕ, List, Option, Some, None, Result, Ok, Err, IfErr, IfSome, refl}
use Rattle.sqlite_disk.specs.declared.Disk.{Ghosts}
use Rattle.sqlite_disk.specs.declared.Files.{Files}
use Rattle.sqlite_store.specs.declared.store.FileStore.{FileStore}
use Rattle.sqlite_wal.specs.Recovery.{Image}
use Rattle.sqlite.specs.{Effect.{Database, IsDatabase}, State.{Opens, IsLive, HasCleanDisk}, Start.FindsIn, Held.Held}
use Rattle.sqlite.specs.Files.{AreFoundIn, FailsToOpenFiles, IsCleanLeft, LeavesFiles, file_state, over_files}
use Rattle.sqlite.specs.declared.{error.Error.Error, error.Error.TheVariants.SqliteFailure, file.Leftover.Leftover}
use Rattle.sqlite.specs.declared.error.ErrorCode.TheVariants.{CannotOpen, DatabaseBusy, OutOfMemory}
use Rattle.er_event.specs.{Change.initial_event, Event.EventValue, Sound.AreLimits, declared.refusals.Refusal.Refusal}
use Rattle.er_store.specs.Representing.{CanRead, HasTables, AreKeyed, RepresentsIn, RepresentsNow, IsStoredIn}
use Rattle.std.proofs.Math.Logic.{∥∥₁_elim}
use Rattle.sqlite_trees.specs.Props.{Trees-set}
use Rattle.er_desk.specs.declared.desk.Desk.{Desk}
use Rattle.er_desk.specs.declared.opening.OpenFault.{OpenFault}
use Rattle.er_desk.specs.declared.opening.OpenFault.TheVariants.{Unopened, Refused}
use Rattle.er_desk.specs.Begins.{HasAdopted, HasNotAdopted, HasCreated, HasNotCreated}
use Rattle.er_desk.specs.Desk.{DeskState, Placed, HoldsOwnEvent, IsStoredAt, state, version_in}
use Rattle.er_desk.specs.{Headline.Recovers, Files.{HasOpened, HasNotOpened, OpensFile, HasMade, HasNotMade, MakesFile}}
use Rattle.er_desk.specs.Opening.{FromOpened, HoldJust, OpensImage, SparesAt}
use Rattle.er_desk.proofs.Adopting.{is_fault, opened_represents, opened_empty, opened_awaits, sees_unchanged, sees_kept}
use Rattle.er_desk.proofs.Unopened.{stays_there}

module _ {D : Type 0} {g : Ghosts D} (image : Image) where
  -- what the storage crate says of a connection to files that it opened
  module _ (conn : Held (FileStore D g)) (opened : HasCleanDisk (file_state conn) → Opens (file_state conn) × IsLive (file_state conn))
      (found : HasCleanDisk (file_state conn) → FindsIn image (file_state conn)) where
    module _ (law : (v : ℕ) (db : Database) (e : EventValue) (n : ℕ)
        → IsDatabase db → IsStoredIn v e n db.trees → RepresentsIn v db e n) where
      adopted : (desk : Desk (FileStore D g) over_files) → HasAdopted over_files (file_state conn) desk → HasOpened image desk
      adopted desk it = record {
        ready = it.tables.ready;
        sound = (it.sound, it.tables.low);
        repeats = it.repeats;
        found = λ placed was sound clean.
            it.found placed
            (opened_represents (file_state conn) _ (opened (it.left.clean clean)) (found (it.left.clean clean)) placed law was) sound
            clean;
        represents = λ clean has keyed.
            let same = it.tables.same clean in
            it.tables.represents clean (subst (λ (d : Database). HasTables (version_in desk) d.schema) same.0.now_is has)
            (subst (AreKeyed (version_in desk)) same.0.now_is keyed);
        kept = λ db holds clean is_open.
            sees_unchanged (file_state conn) _ (opened (it.left.clean clean)) (found (it.left.clean clean)) (state over_files desk) db
            holds (it.tables.same clean);
        left = λ db holds clean trees may.
            let early = it.left.clean clean in
            it.left.left (opened early).0.is_open clean trees may ∙ (found early).holds db holds;
      }

      refused : (back : Held (FileStore D g)) (why : Refusal) → HasNotAdopted over_files (file_state conn) (back, why)
          → HasNotOpened image (Refused back why)
      refused back why it = record {
        why = it.why;
        unopened = tt;
        spared = tt;
        again = λ placed was. tt;
        first = λ clean.
            let early = it.left.clean clean in
            let live = opened early in (
              (file_state conn).now,
              (live.1 live.0.is_open).0,
              subst (λ (db : Database). AreFoundIn image db.trees) (sym live.0.clean) (found early).reads,
              it.first clean,
              λ is_open. (it.left.kept clean live.0.clean is_open).0,
            );
        found = λ placed was sound clean.
            let again = opened_represents (file_state conn) _ (opened (it.left.clean clean)) (found (it.left.clean clean)) placed law
            was in
            it.found placed.point (again.layout, again.represents) sound clean;
        kept = λ db holds clean is_open.
            let early = it.left.clean clean in
            sees_kept (file_state conn) _ (opened early) (found early) (file_state back) db holds (it.left.kept clean) is_open;
        left = λ db holds clean trees may.
            let early = it.left.clean clean in
            it.left.left (opened early).0.is_open clean trees may ∙ (found early).holds db holds;
      }

    module _ (law : (v : ℕ) (db : Database) (e : EventValue) (n : ℕ) → IsDatabase db → IsStoredIn v e n db.trees → RepresentsIn v db e n)
        (reads : (v : ℕ) (db : Database) (e : EventValue) (n : ℕ) → RepresentsIn v db e n → CanRead db.schema)
        (name : List ℕ) (rounds cut : ℕ) where
      -- what a crash left of an event can be read
      has_event : HasCleanDisk (file_state conn) → (placed : Placed) → Recovers image placed → CanRead (file_state conn).now.schema
      has_event early placed was = reads placed.version (file_state conn).now placed.point.event placed.point.serial
          (opened_represents (file_state conn) image (opened early) (found early) placed law was)

      -- the tables represent the new event, so they represent the desk's
      own_event : (desk : Desk (FileStore D g) over_files) → HasCreated over_files name rounds cut (file_state conn) desk
          → RepresentsNow 2 (state over_files desk) (initial_event name rounds cut) 0 → HoldsOwnEvent over_files desk
      own_event desk it shows =
          subst (λ (s : DeskState). RepresentsNow s.version (state over_files desk) s.event s.serial) (sym it.made) shows

      created : (desk : Desk (FileStore D g) over_files) → HasCreated over_files name rounds cut (file_state conn) desk
          → HasMade image name rounds cut desk
      created desk it = record {
        made = it.made;
        alone = λ nothing clean.
            let early = it.clean clean in
            it.tables.alone clean (opened_empty (file_state conn) image (opened early) (found early) nothing);
        created = λ awaits clean.
            let early = it.clean clean in
            own_event desk it (it.tables.created clean (opened_awaits (file_state conn) image (opened early) (found early) awaits));
        acknowledged = λ awaits clean.
            let early = it.clean clean in
            it.tables.acknowledged (opened_awaits (file_state conn) image (opened early) (found early) awaits) clean;
        beside = λ db holds clean.
            let early = it.clean clean in
            let live = opened early in
            record {
              old = (file_state conn).now;
              is = ap (λ (d : Database). d.trees) live.0.clean ∙ (found early).holds db holds;
              sound = (live.1 live.0.is_open).0;
              shows = it.tables.beside clean;
            };
        absent = λ placed was clean. (it.tables.absent clean).0 (has_event (it.clean clean) placed was);
      }

      not_created : AreLimits rounds cut → (back : Held (FileStore D g)) (why : Refusal)
          → HasNotCreated over_files name rounds cut conn (back, why) → HasNotMade image name rounds cut (Refused back why)
      not_created limits back why it = record {
        -- the limits were checked
        why = elim it.why [
          | inl setup ↦ absurd ((it.beyond setup).1 limits)
          | inr why ↦ why
        ];
        unopened = tt;
        spared = tt;
        again = λ placed was. tt;
        exists = λ is clean.
            let early = it.clean clean in
            let live = opened early in
            let readable = (it.exists is clean).0 in (
              (file_state conn).now,
              record {
                sound = (live.1 live.0.is_open).0;
                found = subst (λ (db : Database). AreFoundIn image db.trees) (sym live.0.clean) (found early).reads;
                readable = readable;
              },
              λ late trees may.
                  it.left.still readable live.0.is_open late trees may ∙ ap (λ (db : Database). db.trees) (sym live.0.clean),
            );
        spares = λ placed was clean trees may.
            let early = it.clean clean in
            let live = opened early in
            let same : trees ≡ was.0 = it.left.still (has_event early placed was) live.0.is_open clean trees may
            ∙ ∥∥₁_elim was.1 (Trees-set _ _) (λ holds. (found early).holds was.0 holds) in
            subst (IsStoredAt placed) (sym same) was.2;
        crash = λ awaits clean trees may.
            let early = it.clean clean in
            let live = opened early in
            let seen = found early in
            elim (it.left.left (opened_awaits (file_state conn) image live seen awaits) live.0.is_open clean trees may) [
              | inl was ↦ inl (subst (AreFoundIn image) (sym was) seen.reads)
              | inr made ↦ inr made
            ];
        beside_crash = λ db holds clean.
            let early = it.clean clean in
            let live = opened early in
            let held = (found early).holds db holds in
            record {
              old = (file_state conn).now;
              is = ap (λ (d : Database). d.trees) live.0.clean ∙ held;
              sound = (live.1 live.0.is_open).0;
              leaves = λ late trees may. elim (it.left.beside live.0.is_open late trees may) [
                | inl was ↦ inl (was ∙ held)
                | inr made ↦ inr made
              ];
            };
      }

  unopened : (error : Error) (left : Option (Leftover D g)) → SparesAt image error left → HasNotOpened image (Unopened error left)
  unopened error left spared = record {
    why = inr (inl (is_fault error));
    unopened = is_fault error;
    spared = spared;
    again = stays_there image error left spared;
    first = tt;
    found = λ point was sound clean. is_fault error;
    kept = λ db holds. tt;
    left = λ db holds. tt;
  }

  unmade : (name : List ℕ) (rounds cut : ℕ) (error : Error) (left : Option (Leftover D g)) → SparesAt image error left
      → HasNotMade image name rounds cut (Unopened error left)
  unmade name rounds cut error left spared = record {
    why = inr (is_fault error);
    unopened = is_fault error;
    spared = spared;
    again = stays_there image error left spared;
    exists = λ is. tt;
    spares = λ placed was. tt;
    crash = λ awaits. tt;
    beside_crash = λ db holds. tt;
  }

  pub opens : ((v : ℕ) (db : Database) (e : EventValue) (n : ℕ) → IsDatabase db → IsStoredIn v e n db.trees → RepresentsIn v db e n)
      → (given : Result (Held (FileStore D g)) (Error × Option (Leftover D g)))
      (result : Result (Desk (FileStore D g) over_files) (OpenFault D g)) → OpensImage image given
      → FromOpened (λ conn. HasAdopted over_files (file_state conn)) (λ conn. HasNotAdopted over_files (file_state conn)) given result
      → OpensFile image result
  opens law (Err (error, left)) result it is = subst (OpensFile image) (sym is) (unopened error left it.spared)
  opens law (Ok conn) (Ok desk) it has = adopted conn it.live it.found law desk has
  opens law (Ok conn) (Err (Refused back why)) it has = refused conn it.live it.found law back why has
  opens law (Ok conn) (Err (Unopened error left)) it has = absurd has

  pub makes : (name : List ℕ) (rounds cut : ℕ) → AreLimits rounds cut
      → ((v : ℕ) (db : Database) (e : EventValue) (n : ℕ) → IsDatabase db → IsStoredIn v e n db.trees → RepresentsIn v db e n)
      → ((v : ℕ) (db : Database) (e : EventValue) (n : ℕ) → RepresentsIn v db e n → CanRead db.schema)
      → (given : Result (Held (FileStore D g)) (Error × Option (Leftover D g)))
      (result : Result (Desk (FileStore D g) over_files) (OpenFault D g)) → OpensImage image given
      → FromOpened (λ conn. HasCreated over_files name rounds cut (file_state conn)) (HasNotCreated over_files name rounds cut) given result
      → MakesFile image name rounds cut result
  makes name rounds cut limits law reads (Err (error, left)) result it is =
      subst (MakesFile image name rounds cut) (sym is) (unmade name rounds cut error left it.spared)
  makes name rounds cut limits law reads (Ok conn) (Ok desk) it has = created conn it.live it.found law reads name rounds cut desk has
  makes name rounds cut limits law reads (Ok conn) (Err (Refused back why)) it has =
      not_created conn it.live it.found law reads name rounds cut limits back why has
  makes name rounds cut limits law reads (Ok conn) (Err (Unopened error left)) it has = absurd has

-- What the storage crate says of files at a path, whatever these held. Neither has had a call since it was opened.
module _ {D : Type 0} {g : Ghosts D} (image : Image) (IsFreshLog IsFreshDb : D → Type 0)
    (same : (files : Files D) → IsFreshLog files.log → IsFreshDb files.db → HoldJust g image files) where
  spared_at : (error : Error) (left : Option (Leftover D g))
      → (left ≡ None → (error ≡ SqliteFailure CannotOpen) ⊎ ((error ≡ SqliteFailure OutOfMemory) ⊎ (error ≡ SqliteFailure DatabaseBusy)))
      → IfSome left (λ it. (files : Files D) × IsFreshLog files.log × IsFreshDb files.db
      × (IsCleanLeft it → FailsToOpenFiles files it error × LeavesFiles files it))
      → SparesAt image error left
  spared_at error None none some = none refl
  spared_at error (Some left) none some = (some.0, same some.0 some.1 some.2, some.3)

  pub spares_at : (given : Result (Held (FileStore D g)) (Error × Option (Leftover D g)))
      → IfErr given (λ e. e.1 ≡ None
      → (e.0 ≡ SqliteFailure CannotOpen) ⊎ ((e.0 ≡ SqliteFailure OutOfMemory) ⊎ (e.0 ≡ SqliteFailure DatabaseBusy)))
      → IfErr given (λ e. IfSome e.1 (λ it. (files : Files D) × IsFreshLog files.log × IsFreshDb files.db
      × (IsCleanLeft it → FailsToOpenFiles files it e.0 × LeavesFiles files it)))
      → IfErr given (λ e. SparesAt image e.0 e.1)
  spares_at (Ok conn) none some = tt
  spares_at (Err (error, left)) none some = spared_at error left none some
