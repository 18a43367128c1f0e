-- How the file of an event is opened, or made.
use Rattle.std.specs.Prelude.{◌≡◌, ◌⊎◌, ◌≤◌, ℕ, List, Result, MatchResult, IsFalse}
use Rattle.sqlite.specs.Files.{AreFoundIn, HoldsDatabase, over_files, file_state}
use Rattle.sqlite.specs.State.{HasCleanDisk}
use Rattle.sqlite.specs.Effect.{Database}
use Rattle.sqlite.specs.Tree.{Trees}
use Rattle.sqlite_disk.specs.declared.Disk.{Ghosts}
use Rattle.sqlite_store.specs.declared.store.FileStore.{FileStore}
use Rattle.sqlite_wal.specs.Recovery.{Image}
use Rattle.er_event.specs.Change.{initial_event}
use Rattle.er_event.specs.declared.commands.TheConstants.{MAX_SERIAL}
use Rattle.er_event.specs.declared.refusals.Refusal.TheVariants.{EventExists, NoEvent}
use Rattle.er_rules.specs.Sound.{IsSound}
use Rattle.er_store.specs.Begins.{alone_schema}
use Rattle.er_store.specs.Fault.{IsFault, IsLoadFault}
use Rattle.er_store.specs.Representing.{HasTables, AreKeyed, Either, IsStoredIn, AfterCrash}
use Rattle.er_desk.specs.declared.desk.Desk.{Desk}
use Rattle.er_desk.specs.declared.opening.OpenFault.{OpenFault}
use Rattle.er_desk.specs.Desk.{Placed, HoldsOwnEvent, IsStoredAt, placed_at, running_at, state, desk_state, version_in}
use Rattle.er_desk.specs.Headline.{Recovers, RecoversWhole, FindsAgain, RecoversJust, RepeatsNobody}
use Rattle.er_desk.specs.History.{new_point}
use Rattle.er_desk.specs.Opening.{HasAnEvent, HoldsNothing, NoneAwaitsIn, MakesOver, RecoversBeside, HoldsStill, NamesFirstFaultIn, why_of}
use Rattle.er_desk.specs.Opening.{OnRefused, OnUnopened, SparesAt, StaysThere, WhereUnopened, IsCleanFault}

module _ {D : Type 0} {g : Ghosts D} (image : Image) where
  -- The event in the file was found, and the desk is not stopped. Whatever the file holds, it is sound.
  pub record HasOpened (desk : Desk (FileStore D g) over_files) : Type 0 where
    pub ready : IsFalse (desk_state desk).needs_reopen
    pub sound : IsSound desk.event × (desk.serial ≤ MAX_SERIAL)
    pub repeats : RepeatsNobody desk.event
    -- of what a crash left of a sound event just that is found
    pub found : (placed : Placed) → Recovers image placed → IsSound placed.point.event → HasCleanDisk (state over_files desk)
        → FindsAgain over_files desk placed
    -- if the tables have the schema, they represent what is found
    pub represents : HasCleanDisk (state over_files desk) → HasTables (version_in desk) (state over_files desk).now.schema
        → AreKeyed (version_in desk) (state over_files desk).now → HoldsOwnEvent over_files desk
    -- no table changes, and a crash leaves just what the file held
    pub kept : (db : Trees) → HoldsDatabase image db → HoldsStill (state over_files desk) db
    pub left : (db : Trees) → HoldsDatabase image db → AfterCrash (state over_files desk) (λ trees. trees ≡ db)

  -- It was not. `NoEvent` and a damaged table come only for the first fault, and never if the files were not opened.
  pub record HasNotOpened (fault : OpenFault D g) : Type 0 where
    pub why : (why_of fault ≡ NoEvent) ⊎ IsLoadFault (why_of fault)
    pub unopened : WhereUnopened fault (IsFault (why_of fault))
    -- of files that were not opened, what is left represents what they held, and says why
    pub spared : OnUnopened fault (SparesAt image)
    -- what a crash left of an event is still there then
    pub again : (placed : Placed) → RecoversWhole image placed → OnUnopened fault (StaysThere placed)
    pub first : OnRefused fault (λ conn. HasCleanDisk (file_state conn) → NamesFirstFaultIn image (file_state conn) (why_of fault))
    -- of what a crash left of a sound event, memory or the device fails
    pub found : (placed : Placed) → Recovers image placed → IsSound placed.point.event → IsCleanFault fault → IsFault (why_of fault)
    pub kept : (db : Trees) → HoldsDatabase image db → OnRefused fault (λ conn. HoldsStill (file_state conn) db)
    pub left : (db : Trees) → HoldsDatabase image db → OnRefused fault (λ conn. AfterCrash (file_state conn) (λ trees. trees ≡ db))

  abbrev pub OpensFile : Result (Desk (FileStore D g) over_files) (OpenFault D g) → Type 0
  OpensFile result = MatchResult result HasOpened HasNotOpened

  module _ (name : List ℕ) (rounds cut : ℕ) where
    -- The event was made in the file.
    pub record HasMade (desk : Desk (FileStore D g) over_files) : Type 0 where
      pub made : desk_state desk ≡ running_at (new_point name rounds cut) 2
      -- in a file that held nothing the five tables are the only ones
      pub alone : HoldsNothing image → HasCleanDisk (state over_files desk) → (state over_files desk).now.schema ≡ alone_schema 2
      -- if no foreign key waited for one of them they represent it, and so does each thing that a crash may leave
      pub created : NoneAwaitsIn image → HasCleanDisk (state over_files desk) → HoldsOwnEvent over_files desk
      pub acknowledged : NoneAwaitsIn image → RecoversJust (state over_files desk) (placed_at (new_point name rounds cut) 2)
      -- whatever database the file held stands as it was, and the event's tables are there beside it
      pub beside : (db : Trees) → HoldsDatabase image db → HasCleanDisk (state over_files desk)
          → MakesOver (new_point name rounds cut) db (state over_files desk)
      -- if a crash left an event, none is made
      pub absent : (placed : Placed) → Recovers image placed → HasCleanDisk (state over_files desk) → ⊥

    -- It was not: a crash leaves what was there, or that with the event whole.
    pub record HasNotMade (fault : OpenFault D g) : Type 0 where
      pub why : (why_of fault ≡ EventExists) ⊎ IsFault (why_of fault)
      pub unopened : WhereUnopened fault (IsFault (why_of fault))
      -- of files that were not opened, what is left represents what they held, and says why
      pub spared : OnUnopened fault (SparesAt image)
      -- what a crash left of an event is still there then
      pub again : (placed : Placed) → RecoversWhole image placed → OnUnopened fault (StaysThere placed)
      -- `EventExists` comes only if something called `event` can be read, and just that is left
      pub exists : why_of fault ≡ EventExists → OnRefused fault (λ conn. HasCleanDisk (file_state conn)
          → (db : Database) × HasAnEvent image db × AfterCrash (file_state conn) (λ trees. trees ≡ db.trees))
      -- of what a crash left of an event just that is left, whatever the refusal
      pub spares : (placed : Placed) → Recovers image placed → OnRefused fault (λ conn. AfterCrash (file_state conn) (IsStoredAt placed))
      pub crash : NoneAwaitsIn image
          → OnRefused fault (λ conn. AfterCrash (file_state conn) (Either (AreFoundIn image) (IsStoredIn 2 (initial_event name rounds cut) 0)))
      pub beside_crash : (db : Trees) → HoldsDatabase image db → OnRefused fault (λ conn. HasCleanDisk (file_state conn)
          → RecoversBeside (new_point name rounds cut) db (file_state conn))

    abbrev pub MakesFile : Result (Desk (FileStore D g) over_files) (OpenFault D g) → Type 0
    MakesFile result = MatchResult result HasMade HasNotMade
