-- What an opening makes of the tables that it finds.
use Rattle.std.proofs.lemmas.Grind.{common_steps}
use Rattle.std.proofs.Common.{arith, ◌≡◌, ℕ, List, [], ◌∷◌, is_ok, IsTrue, refl, sym, ap}
use Rattle.std.proofs.Common.{subst, ◌∙◌}
use Rattle.std.specs.List.{AllZip}
use Rattle.sqlite_catalog.specs.Listing.{IsTableRow, IsIndexRow, IsViewRow}
use Rattle.sqlite_schema.specs.declared.schema.Table.{Table}
use Rattle.sqlite_schema.specs.declared.schema.View.{View}
use Rattle.sqlite_schema.specs.declared.schema.Index.{Index}
use Rattle.sqlite_schema.specs.declared.schema.Schema.{Schema}
use Rattle.sqlite_trees.specs.Objects.{catalog_tree}
use Rattle.er_store.specs.Tables.{no_schema}
use Rattle.std.proofs.Math.Logic.{∥∥₁_elim}
use Rattle.sqlite_trees.specs.declared.store.Store.{Ghosts}
use Rattle.sqlite.specs.declared.error.Error.{Error}
use Rattle.er_store.specs.Fault.{IsFault, store_refusal}
use Rattle.sqlite_trees.specs.Props.{Trees-set}
use Rattle.sqlite.specs.{Tree.Trees, Effect.{Database, IsDatabase}, State.{State, Opens, IsLive, HasCleanDisk, IsUnchanged}, Start.FindsIn}
use Rattle.sqlite.specs.{Files.{AreFoundIn, HoldsDatabase}, Held.{Held, state}}
use Rattle.sqlite_wal.specs.Recovery.{Image}
use Rattle.er_event.specs.{Event.EventValue, declared.events.parts.Parts.Parts, declared.refusals.Place.Place}
use Rattle.er_event.specs.declared.refusals.Refusal.TheVariants.{Memory, NoEvent, Damaged}
use Rattle.er_store.specs.{Damage.ReadsParts, Reading.KeepsTables}
use Rattle.er_store.specs.{Representing.{RepresentsIn, IsStoredIn, RepresentsNow, AfterCrash, ReadsEvent}}
use Rattle.er_store.specs.declared.Store.{Store}
use Rattle.er_desk.specs.{Desk.{Placed, IsStoredAt}, Headline.{IsEmptyFile, Recovers}}
use Rattle.er_desk.specs.Opening.{HoldsNothing, NoneAwaitsIn, NewFilesAwaitNone, ChangesNothing, NamesFirstFault}
use Rattle.er_store.specs.Beside.{NoneAwaitsFive}
use Rattle.er_desk.proofs.Turns.{unchanged_keeps}
use Rattle.er_store.specs.Store as tables

pub placed_is : (placed : Placed) (e : EventValue) (n v : ℕ) → e ≡ placed.point.event → n ≡ placed.point.serial → v ≡ placed.version
    → (let p : Placed = record { point = record { event = e; serial = n }; version = v } in p) ≡ placed
placed_is placed e n v event serial version = rw (event, serial, version) refl

pub shows_as : (v : ℕ) (s : State) (e f : EventValue) (m n : ℕ) → f ≡ e → n ≡ m → RepresentsNow v s e m → RepresentsNow v s f n
shows_as v s e f m n event serial shows = rw (event, serial) shows

-- the event's rows are read if the tables are
pub read_whole : (db : Database) (parts : Parts) → ReadsParts db parts → ReadsEvent db.schema
read_whole db parts reads = ap is_ok reads.event.1.is

-- running out of memory names no fault of the tables
pub memory_names : (db : Database) → NamesFirstFault db Memory
memory_names db = record {
  no_event = λ is. absurd (cc);
  readable = λ place is. absurd (cc);
  first = λ place is. absurd (cc);
}

-- a damaged table is one, and not no event
pub damage_tells : (place : Place) → Damaged place ≡ NoEvent → ⊥
damage_tells place is = cc

pub same_place : (place other : Place) → Damaged place ≡ Damaged other → place ≡ other
same_place place other is = cc

-- a connection that a store gives back
module _ {S : Type 0} (g : Ghosts S) (old : State) (back : Held S) (store : Store S g) (is : back ≡ tables.connection store) where
  pub back_clean : HasCleanDisk (state g back) → HasCleanDisk (tables.store_state g store)
  back_clean clean = subst (λ (h : Held S). HasCleanDisk (state g h)) is clean

  pub back_leaves_all : ChangesNothing old (tables.store_state g store) → ChangesNothing old (state g back)
  back_leaves_all left = subst (λ (h : Held S). ChangesNothing old (state g h)) (sym is) left

-- a store that only reads
module _ (old new : State) (settled : (db : Trees) → IsTrue old.is_open → old.may_leave db → db ≡ old.committed.trees)
    (clean : HasCleanDisk new → HasCleanDisk old) (crash : AfterCrash new old.may_leave) where
  pub leaves_all : (HasCleanDisk new → KeepsTables old new) → ChangesNothing old new
  leaves_all kept = record {
    clean = clean;
    kept = kept;
    crash = crash;
    left = λ is_open late db may. settled db is_open (crash late db may);
  }

  pub unchanged_leaves_all : (HasCleanDisk new → IsUnchanged old new) → ChangesNothing old new
  unchanged_leaves_all same = leaves_all (λ late. unchanged_keeps old new (same late))

-- ---- files

-- the connection of files that were opened
module _ (s : State) (image : Image) (opened : Opens s × IsLive s) (found : FindsIn image s) where
  sees : (db : Trees) → HoldsDatabase image db → s.now.trees ≡ db
  sees db holds = ap (λ (d : Database). d.trees) opened.0.clean ∙ found.holds db holds

  -- what a crash left represents its event again
  pub opened_represents : (placed : Placed) → ((v : ℕ) (db : Database) (e : EventValue) (n : ℕ) → IsDatabase db → IsStoredIn v e n db.trees
      → RepresentsIn v db e n) → Recovers image placed → RepresentsIn placed.version s.now placed.point.event placed.point.serial
  opened_represents placed law (db, holds, stored) =
      law placed.version s.now placed.point.event placed.point.serial (opened.1 opened.0.is_open).0
      (subst (IsStoredAt placed) (sym (∥∥₁_elim holds (Trees-set _ _) (sees db))) stored)

  pub sees_unchanged : (new : State) (db : Trees) → HoldsDatabase image db → IsUnchanged s new
      → (new.now.trees ≡ db) × (new.now ≡ new.committed)
  sees_unchanged new db holds same = (
    ap (λ (d : Database). d.trees) same.0.now_is ∙ sees db holds,
    same.0.now_is ∙ (opened.0.clean ∙ sym same.0.committed_is),
  )

  pub sees_kept : (new : State) (db : Trees) → HoldsDatabase image db → KeepsTables s new → IsTrue new.is_open
      → (new.now.trees ≡ db) × (new.now ≡ new.committed)
  sees_kept new db holds keeps is_open = let kept =
      keeps opened.0.clean is_open in (ap (λ (d : Database). d.trees) kept.0 ∙ sees db holds, kept.0 ∙ sym kept.1)

-- ---- a file that holds nothing

none_zipped : {A B : Type 0} (P : A → B → Type 0) (bs : List B) → AllZip P [] bs → bs ≡ []
none_zipped P [] all = refl
none_zipped P (b ∷ bs) all = absurd all

-- if no object is listed there is none
pub unlisted : (db : Database) → IsDatabase db → db.trees catalog_tree ≡ [] → db.schema ≡ no_schema
unlisted db sound none =
    let listed = sound.lists.listed in
    let tables = none_zipped IsTableRow db.schema.tables (rw none at listed.tables) in
    let indexes = none_zipped (IsIndexRow db.schema.tables) db.schema.indexes (rw none at listed.indexes) in
    let views = none_zipped IsViewRow db.schema.views (rw none at listed.views) in
    same_schema db.schema.tables db.schema.indexes db.schema.views tables indexes views
  where
    same_schema : (ts : List Table) (is : List Index) (vs : List View) → ts ≡ [] → is ≡ [] → vs ≡ []
        → (let s : Schema = record { tables = ts; indexes = is; views = vs } in s) ≡ no_schema
    same_schema ts is vs tables indexes views = rw (tables, indexes, views) refl

module _ (s : State) (image : Image) (opened : Opens s × IsLive s) (found : FindsIn image s) where
  pub opened_empty : HoldsNothing image → IsEmptyFile s
  opened_empty nothing = unlisted s.now (opened.1 opened.0.is_open).0 (ap (λ (d : Database). d.trees catalog_tree) opened.0.clean
      ∙ nothing s.committed.trees found.reads)

  -- nothing waits in it for the event's tables
  pub opened_awaits : NoneAwaitsIn image → NoneAwaitsFive 2 s.now.schema
  opened_awaits none = none s.now (opened.1 opened.0.is_open).0
      (subst (λ (d : Database). AreFoundIn image d.trees) (sym opened.0.clean) found.reads)

pub new_awaits : NewFilesAwaitNone
new_awaits image nothing db sound found =
    subst (NoneAwaitsFive 2) (sym (unlisted db sound (nothing db.trees found))) (tt, (tt, (tt, (tt, (tt, tt)))))

-- ---- files that were not opened

pub is_fault : (error : Error) → IsFault (store_refusal error)
is_fault error = grind (arith, common_steps)
