-- What is left of a file that was put away, and of an opening that was refused.
use Rattle.std.proofs.Common.{◌≡◌, ◌∙◌, ◌⊎◌, ℕ, Bool, List, IsTrue, Option, Some, None, refl, sym, subst, arith}
use Rattle.sqlite_disk.specs.declared.Disk as disk
use Rattle.sqlite_wal.specs.{Recovery.Image}
use Rattle.sqlite_trees.specs.View.{IsClean, IsQuiet}
use Rattle.sqlite_store.specs.declared.store.FileStore.{FileStore}
use Rattle.sqlite_store.specs.{FileStore.{faults, is_shielded, recovers, view}}
use Rattle.sqlite.specs.{Tree.Trees, State.{State, HasCleanDisk}, Held.{AreDatabases, Held}, Closing.{HoldsAlone}}
use Rattle.sqlite.specs.Effect.{Database, IsDatabase}
use Rattle.sqlite.specs.Files.{AreFoundIn, HoldsDatabase, IsCleanLeft, file_state, image_of}
use Rattle.sqlite.specs.declared.{error.Error.Error, file.Leftover.Leftover}
use Rattle.er_event.specs.declared.refusals.{Refusal.Refusal, Refusal.TheVariants.NoEvent}
use Rattle.er_store.specs.{Fault.{IsFault, IsLoadFault}, Representing.AfterCrash}
use Rattle.er_desk.specs.Desk.{Point, Placed, placed_at}
use Rattle.er_desk.specs.{Run.Session, History.Ended, Headline.{IsBeginning, NextBegins, RecoversHistory}}
use Rattle.er_desk.specs.declared.opening.OpenFault.{OpenFault}
use Rattle.er_desk.specs.declared.opening.OpenFault.TheVariants as fault
use Rattle.er_desk.specs.Opening.{NamesFirstFault, NamesFirstFaultIn, OnRefused, OnUnopened, SparesAt, StaysThere, WhereUnopened, why_of}
use Rattle.er_cli.specs.declared.remains.Remains.{Remains}
use Rattle.er_cli.specs.declared.remains.Remains.TheVariants as left
use Rattle.er_cli.specs.Remains.{IfUnopened, IsClearedOf, LetsNoneGo, OfUnopened, RemainsOf, KeepsAll, RecoversSuch}
use Rattle.er_cli.specs.Remains.{WasOpenedClean}
use Rattle.er_cli.specs.Files.{IsNotOpened}
use Rattle.er_cli.specs.Next.{FindsNext, LeavesAgain, LeavesUnopened, RecoversSession, RecoversIn, WasOpened}
use Rattle.er_cli.proofs.Outcomes.{left_again}
use Rattle.std.proofs.Math.Logic.{∥∥₁_map}

-- one of these versions, in which the next session begins
abbrev pub BeginsIn : (ℕ → Type 0) → Point → List Ended → Session → Trees → Type 0
BeginsIn In new ends session trees = (version : ℕ) × In version × NextBegins new ends session version trees

-- the first fault of what an opening finds in the file
abbrev NamesFirst : Image → Refusal → Type 0
NamesFirst image why = (db : Database) × IsDatabase db × AreFoundIn image db.trees × NamesFirstFault db why

-- files that hold an end of the history, with the log and without it, are found by the next command line
finds : (new : Point) (ends : List Ended) (session : Session) → IsBeginning new → (image : Image) (db : Trees) (version : ℕ)
    (next : NextBegins new ends session version db) → HoldsAlone image db → FindsNext new ends session (placed_at next.last version) image
finds new ends session begins image db version next holds = record {
  both = record { begins = begins; history = next.history; left = (db, holds.both, next.stored) };
  alone = record { begins = begins; history = next.history; left = (db, holds.alone, next.stored) };
}

module _ {D : Type 0} {d : disk.Ghosts D} where
  -- ---- of a connection whose store is taken

  pub keeps_taken : (conn : Held (FileStore D d)) (store : FileStore D d) → IsQuiet view faults recovers is_shielded conn.store store
      → (IsClean (view store) → AreDatabases (recovers store)) → (IsClean (view store) → IsTrue (view store).is_numbered)
      → KeepsAll (file_state conn) store
  keeps_taken conn store quiet sound numbered = record {
    was_clean = λ clean. let rises = quiet.clean in omega arith;
    as_before = quiet.outcomes;
    sound = sound;
    numbered = numbered;
  }

  -- a store that was not closed leaves databases
  abbrev pub IsSoundLeft : Remains D d → Type 0
  IsSoundLeft left.Nothing = Unit {0}
  IsSoundLeft (left.Closed files) = Unit {0}
  IsSoundLeft (left.Uncopied files) = Unit {0}
  IsSoundLeft (left.Unclosed store) = IsClean (view store) → AreDatabases (recovers store) × IsTrue (view store).is_numbered
  IsSoundLeft (left.Unopened rest) = Unit {0}

  pub same_put_away : (conn other : Held (FileStore D d)) (what : Remains D d) → conn ≡ other → RemainsOf (file_state conn) what
      → RemainsOf (file_state other) what
  same_put_away conn other what is put = subst (λ (h : Held (FileStore D d)). RemainsOf (file_state h) what) is put

  -- ---- what is left

  pub put_such : (Such : Trees → Type 0) (s : State) (what : Remains D d) → RemainsOf s what → AfterCrash s Such → RecoversSuch Such what
  put_such Such s left.Nothing none leaves = absurd none
  put_such Such s (left.Closed files) closed leaves = λ clean.
      let (was_clean, it) = closed clean in
      record { db = it.db; is = leaves was_clean it.db it.is; seen = it.seen; later = it.later }
  put_such Such s (left.Uncopied files) closed leaves = λ clean.
      let (was_clean, it) = closed clean in
      record { db = it.db; is = leaves was_clean it.db it.is; seen = it.seen; later = it.later }
  put_such Such s (left.Unclosed store) keeps leaves = λ clean trees may. leaves (keeps.was_clean clean) trees (keeps.as_before trees may)
  put_such Such s (left.Unopened rest) none leaves = absurd none

  pub put_clean : (Is : Type 0) (s : State) (what : Remains D d) → RemainsOf s what → (HasCleanDisk s → Is)
      → WasOpenedClean what → Is
  put_clean Is s left.Nothing none is = absurd none
  put_clean Is s (left.Closed files) closed is = λ clean. is (closed clean).0
  put_clean Is s (left.Uncopied files) closed is = λ clean. is (closed clean).0
  put_clean Is s (left.Unclosed store) keeps is = λ clean. is (keeps.was_clean clean)
  put_clean Is s (left.Unopened rest) none is = absurd none

  pub was_put : (s : State) (what : Remains D d) → RemainsOf s what → WasOpened what
  was_put s left.Nothing none = absurd none
  was_put s (left.Closed files) closed = tt
  was_put s (left.Uncopied files) closed = tt
  was_put s (left.Unclosed store) keeps = tt
  was_put s (left.Unopened rest) none = absurd none

  put_opened : (Spares : Error → Option (Leftover D d) → Type 0) (why : Refusal) (s : State) (what : Remains D d) → RemainsOf s what
      → IfUnopened Spares why what
  put_opened Spares why s left.Nothing none = absurd none
  put_opened image why s (left.Closed files) closed = tt
  put_opened image why s (left.Uncopied files) closed = tt
  put_opened image why s (left.Unclosed store) keeps = tt
  put_opened image why s (left.Unopened rest) none = absurd none

  -- ---- of an opening that was refused

  pub cleared_such : (Such : Trees → Type 0) (why : OpenFault D d) (what : Remains D d) → IsClearedOf why what
      → OnRefused why (λ conn. AfterCrash (file_state conn) Such) → RecoversSuch Such what
  cleared_such Such (fault.Unopened error None) what is leaves = subst (RecoversSuch Such) (sym is) tt
  cleared_such Such (fault.Unopened error (Some rest)) what is leaves = subst (RecoversSuch Such) (sym is) tt
  cleared_such Such (fault.Refused conn refusal) what put leaves = put_such Such (file_state conn) what put leaves

  pub cleared_clean : (Is : Type 0) (why : OpenFault D d) (what : Remains D d) → IsClearedOf why what
      → OnRefused why (λ conn. HasCleanDisk (file_state conn) → Is) → WasOpenedClean what → Is
  cleared_clean Is (fault.Unopened error None) what is leaves = λ clean. absurd (subst WasOpenedClean is clean)
  cleared_clean Is (fault.Unopened error (Some rest)) what is leaves = λ clean. absurd (subst WasOpenedClean is clean)
  cleared_clean Is (fault.Refused conn refusal) what put leaves = put_clean Is (file_state conn) what put leaves

  -- a store that was not closed leaves databases
  pub put_sound : (s : State) (what : Remains D d) → RemainsOf s what → IsSoundLeft what
  put_sound s left.Nothing none = absurd none
  put_sound s (left.Closed files) closed = tt
  put_sound s (left.Uncopied files) closed = tt
  put_sound s (left.Unclosed store) keeps = λ clean. (keeps.sound clean, keeps.numbered clean)
  put_sound s (left.Unopened rest) none = absurd none

  pub cleared_sound : (why : OpenFault D d) (what : Remains D d) → IsClearedOf why what → IsSoundLeft what
  cleared_sound (fault.Unopened error None) what is = subst IsSoundLeft (sym is) tt
  cleared_sound (fault.Unopened error (Some rest)) what is = subst IsSoundLeft (sym is) tt
  cleared_sound (fault.Refused conn refusal) what put = put_sound (file_state conn) what put

  pub cleared_unopened : (image : Image) (why : OpenFault D d) (said : Refusal) (what : Remains D d)
      → said ≡ why_of why → IsClearedOf why what → WhereUnopened why (IsFault (why_of why)) → OnUnopened why (SparesAt image)
      → IfUnopened (SparesAt image) said what
  cleared_unopened image (fault.Unopened error None) said what so is failed spared =
      subst (IfUnopened (SparesAt image) said) (sym is) (error, so, subst IsFault (sym so) failed, spared)
  cleared_unopened image (fault.Unopened error (Some rest)) said what so is failed spared =
      subst (IfUnopened (SparesAt image) said) (sym is) (error, so, subst IsFault (sym so) failed, spared)
  cleared_unopened image (fault.Refused conn refusal) said what so put failed spared = put_opened (SparesAt image) said (file_state conn) what put

  -- a file that was put away was opened
  pub put_unopened : (Is : Leftover D d → Type 0) (s : State) (what : Remains D d) → RemainsOf s what → OfUnopened what Is
  put_unopened Is s left.Nothing none = absurd none
  put_unopened Is s (left.Closed files) closed = tt
  put_unopened Is s (left.Uncopied files) closed = tt
  put_unopened Is s (left.Unclosed store) keeps = tt
  put_unopened Is s (left.Unopened rest) none = absurd none

  -- files that could not be opened were left by the history
  pub cleared_again : (image : Image) (new : Point) (ends : List Ended) (first : Placed) → RecoversHistory image new ends first
      → (why : OpenFault D d) (what : Remains D d) → IsClearedOf why what → OnUnopened why (StaysThere first)
      → LeavesUnopened d new ends first what
  cleared_again image new ends first was (fault.Unopened error None) what is again =
      subst (λ (w : Remains D d). LeavesUnopened d new ends first w) (sym is) tt
  cleared_again image new ends first was (fault.Unopened error (Some rest)) what is again =
      subst (λ (w : Remains D d). LeavesUnopened d new ends first w) (sym is) (λ clean.
      let it = again clean in
      record {
        finds = it.finds;
        bytes = λ numbered left may.
            let found = it.bytes numbered left may in
            (record { begins = was.begins; history = was.history; left = found.0 }, found.1);
      })
  cleared_again image new ends first was (fault.Refused conn refusal) what put again =
      put_unopened (λ rest. IsCleanLeft rest → LeavesAgain d new ends first rest) (file_state conn) what put

  -- what is put away is given back
  pub put_held : (s : State) (what : Remains D d) (was is : Bool) → RemainsOf s what → LetsNoneGo what was is
  put_held s what was is put = λ nothing. absurd (subst (RemainsOf s) nothing put)

  -- if nothing is left of an opening that was refused, no file was opened
  pub cleared_held : (why : OpenFault D d) (what : Remains D d) (first was is : Bool) → IsClearedOf why what
      → OnUnopened why (λ error rest. rest ≡ None → was ≡ first) → LetsNoneGo what was is → LetsNoneGo what first is
  cleared_held (fault.Unopened error None) what first was is cleared held lets = λ nothing. lets nothing ∙ held refl
  cleared_held (fault.Unopened error (Some rest)) what first was is cleared held lets = λ nothing.
      absurd (let both = sym cleared ∙ nothing in cc)
  cleared_held (fault.Refused conn refusal) what first was is cleared held lets = put_held (file_state conn) what first is cleared

  named : (image : Image) (why : OpenFault D d) (said : Refusal) → said ≡ why_of why
      → OnRefused why (λ conn. HasCleanDisk (file_state conn) → NamesFirstFaultIn image (file_state conn) (why_of why))
      → OnRefused why (λ conn. HasCleanDisk (file_state conn) → NamesFirst image said)
  named image (fault.Unopened error rest) said so first = tt
  named image (fault.Refused conn refusal) said so first = λ clean.
      let it = first clean in (it.0, it.1, it.2, subst (NamesFirstFault it.0) (sym so) it.3)

  pub not_opened : (image : Image) (why : OpenFault D d) (said : Refusal) (what : Remains D d)
      → said ≡ why_of why → IsClearedOf why what → (why_of why ≡ NoEvent) ⊎ IsLoadFault (why_of why)
      → WhereUnopened why (IsFault (why_of why))
      → OnRefused why (λ conn. HasCleanDisk (file_state conn) → NamesFirstFaultIn image (file_state conn) (why_of why))
      → ((db : Trees) → HoldsDatabase image db → OnRefused why (λ conn. AfterCrash (file_state conn) (λ trees. trees ≡ db)))
      → OnUnopened why (SparesAt image) → IsNotOpened image said what
  not_opened image why said what so is cause failed first kept spared = record {
    cause = subst (λ (w : Refusal). (w ≡ NoEvent) ⊎ IsLoadFault w) (sym so) cause;
    unopened = cleared_unopened image why said what so is failed spared;
    first = cleared_clean (NamesFirst image said) why what is (named image why said so first);
    kept = λ db holds. cleared_such (λ trees. trees ≡ db) why what is (kept db holds);
  }

  -- ---- the next command line

  module _ (In : ℕ → Type 0) (new : Point) (ends : List Ended) (session : Session) (begins : IsBeginning new) where
    pub left_by : (what : Remains D d) → IsSoundLeft what → RecoversSuch (BeginsIn In new ends session) what
        → RecoversSession d In new ends session
        what
    left_by left.Nothing sound it = tt
    left_by (left.Closed files) sound it = λ clean.
        let held = it clean in
        let (version, within, next) = held.is in (
          placed_at next.last version,
          within,
          record {
            seen = finds new ends session begins (image_of d files) held.db version next held.seen;
            left = λ image may. finds new ends session begins image held.db version next (held.later image may);
          },
        )
    left_by (left.Uncopied files) sound it = λ clean.
        let held = it clean in
        let (version, within, next) = held.is in (
          placed_at next.last version,
          within,
          record {
            seen = record { begins = begins; history = next.history; left = (held.db, held.seen, next.stored) };
            left = λ image may. record { begins = begins; history = next.history; left = (held.db, held.later image may, next.stored) };
          },
        )
    left_by (left.Unclosed store) sound it = λ clean. record {
      begins = it clean;
      left = λ image may. ∥∥₁_map (left_again store clean (sound clean).1 (sound clean).0 image may) (λ found.
          let (version, within, next) = it clean found.0 found.1 in
          let last : RecoversIn In new ends session image = (
            placed_at next.last version,
            within,
            record { begins = begins; history = next.history; left = (found.0, ∣ found.2 ∣₁, next.stored) },
          ) in last);
    }
    left_by (left.Unopened rest) sound it = tt
