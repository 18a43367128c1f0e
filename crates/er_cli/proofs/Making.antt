-- The answer to `init`.
use Rattle.std.proofs.Common.{◌≡◌, ℕ, Bool, true, List, Result, Ok, Err, MatchResult}
use Rattle.std.proofs.Common.{IsFalse, inl, inr, is_ok, refl, sym, ap, subst, ◌∙◌, true≢false}
use Rattle.sqlite_disk.specs.declared.Disk as disk
use Rattle.sqlite_store.specs.declared.store.FileStore.{FileStore}
use Rattle.sqlite.specs.Files.{over_files}
use Rattle.sqlite_wal.specs.Recovery.{Image}
use Rattle.er_event.specs.declared.refusals.Refusal.{Refusal, TheVariants.{BadSetup, EventExists}}
use Rattle.er_event.specs.Sound.{IsSetUp}
use Rattle.std.specs.Prelude.{◌&&◌}
use Rattle.std.proofs.lemmas.Bool.{le-leb}
use Rattle.er_share.specs.declared.TheConstants.{MAX_ROUNDS}
use Rattle.er_desk.specs.{declared.desk.Desk.Desk, Files.HasMade, History.{Ended, new_point}, Run.no_session}
use Rattle.er_desk.specs.{Asking.NextSessions, Headline.{Recovers, RecoversHistory, RecoversWhole}}
use Rattle.er_answers.specs.declared.question.Answer.TheVariants.{Refused}
use Rattle.std.proofs.Common.{◌⊎◌}
use Rattle.sqlite.specs.{Tree.Trees, Effect.{Database, IsDatabase}, State.HasCleanDisk, Files.{AreFoundIn, HoldsDatabase, file_state}}
use Rattle.er_store.specs.{Fault.IsFault, Beside.IsStoredBeside, Representing.{Either, IsStoredIn, AfterCrash}}
use Rattle.er_desk.specs.declared.opening.{OpenFault.OpenFault, OpenFault.TheVariants.Unopened as NotOpened}
use Rattle.er_desk.specs.declared.opening.OpenFault.TheVariants.{Refused as OpenedInVain}
use Rattle.er_desk.specs.Desk.{Point, Placed, IsStoredAt}
use Rattle.er_desk.specs.Opening.{HasAnEvent, NoneAwaitsIn, RecoversBeside, OnRefused, OnUnopened, why_of}
use Rattle.er_desk.specs.Opening.{SparesAt, StaysThere, WhereUnopened}
use Rattle.er_cli.specs.declared.remains.{Remains.Remains, Remains.TheVariants.Nothing, OpenError.OpenError}
use Rattle.er_cli.specs.{Remains.{IsClearedOf, RecoversSuch}, Files.{HasMadeNone, MakesEvent}}
use Rattle.er_cli.proofs.Leaving.{BeginsIn, cleared_again, cleared_such, cleared_clean, cleared_sound, cleared_unopened, left_by}
use Rattle.er_cli.proofs.GoingOn.{ends_nowhere}
use Rattle.er_cli.specs.{inside.Making.InitReplies, Setup.is_setup}

all_of : (name from to cut : Bool) → name ≡ true → from ≡ true → to ≡ true → cut ≡ true → name && (from && to) && cut ≡ true
all_of name from to cut a b c d = rw (a, b, c, d) refl

-- what may not be set up so
pub no_setup : (name : List ℕ) (rounds cut : ℕ) → IsFalse (is_setup name rounds cut) → IsSetUp name rounds cut → ⊥
no_setup name rounds cut is it =
    true≢false (sym (all_of _ _ _ _ it.name (le-leb 1 rounds it.rounds.0) (le-leb rounds MAX_ROUNDS it.rounds.1) it.cut) ∙ is)

module _ {D : Type 0} (g : disk.Ghosts D) (image : Image) (name : List ℕ) (rounds cut : ℕ) where
  abbrev Made : Result (Desk (FileStore D g) over_files) (OpenError D g) → Type 0
  Made made = MatchResult made (HasMade image name rounds cut)
      (λ it. HasMadeNone image (new_point name rounds cut) it.why it.left)

  -- an event that was made was set up lawfully
  pub made_so : (made : Result (Desk (FileStore D g) over_files) (OpenError D g)) (desk : Desk (FileStore D g) over_files) → made ≡ Ok desk
      → InitReplies g image name rounds cut made → IsSetUp name rounds cut × HasMade image name rounds cut desk
  made_so made desk is (inl it) = (it.0, subst Made is it.1)
  made_so made desk is (inr it) = absurd (true≢false (ap is_ok (sym is ∙ it.1)))

  same_none : (it other : OpenError D g) → ◌≡◌ {A = Result (Desk (FileStore D g) over_files) (OpenError D g)} (Err it) (Err other)
      → it ≡ other
  same_none it other same = cc

  -- and why one was not
  pub makes_none : (made : Result (Desk (FileStore D g) over_files) (OpenError D g)) (it : OpenError D g) → made ≡ Err it
      → InitReplies g image name rounds cut made → MakesEvent g image name rounds cut (Refused it.why) it.left
  makes_none made it is (inl held) = inr (inl (held.0, (it.why, refl, subst Made is held.1)))
  makes_none made it is (inr held) =
      let same = same_none it (record { why = BadSetup; left = Nothing }) (sym is ∙ held.1) in
      inr (inr (held.0, ap (λ (n : OpenError D g). Refused n.why) same, ap (λ (n : OpenError D g). n.left) same))

-- why no event was made, and what is left then
module _ {D : Type 0} {g : disk.Ghosts D} where
  -- what the file held, or that with the event's tables beside it
  abbrev LeavesBeside : Point → Trees → Remains D g → Type 0
  LeavesBeside new db what = (old : Database) × (old.trees ≡ db) × IsDatabase old
      × RecoversSuch (Either (λ trees. trees ≡ db) (IsStoredBeside 2 new.event old)) what

  beside : (new : Point) (db : Trees) (fault : OpenFault D g) (what : Remains D g) → IsClearedOf fault what
      → OnRefused fault (λ conn. HasCleanDisk (file_state conn) → RecoversBeside new db (file_state conn))
      → OnRefused fault (λ conn. HasCleanDisk (file_state conn) → LeavesBeside new db what)
  beside new db (NotOpened error rest) what is over = tt
  beside new db (OpenedInVain conn refusal) what is over = λ clean.
      let it = over clean in (
        it.old,
        it.is,
        it.sound,
        cleared_such (Either (λ trees. trees ≡ db) (IsStoredBeside 2 new.event it.old)) (OpenedInVain conn refusal) what is it.leaves,
      )

  -- what is left if something called `event` can be read
  abbrev LeavesJust : Image → Remains D g → Type 0
  LeavesJust image what = (db : Database) × HasAnEvent image db × RecoversSuch (λ trees. trees ≡ db.trees) what

  just : (image : Image) (fault : OpenFault D g) (what : Remains D g) → IsClearedOf fault what
      → OnRefused fault (λ conn. HasCleanDisk (file_state conn)
      → (db : Database) × HasAnEvent image db × AfterCrash (file_state conn) (λ trees. trees ≡ db.trees))
      → OnRefused fault (λ conn. HasCleanDisk (file_state conn) → LeavesJust image what)
  just image (NotOpened error rest) what is there = tt
  just image (OpenedInVain conn refusal) what is there = λ clean.
      let it = there clean in (it.0, it.1, cleared_such (λ trees. trees ≡ it.0.trees) (OpenedInVain conn refusal) what is it.2)

  -- a history is found again
  found_again : (law : NextSessions) (image : Image) (first : Point) (ends : List Ended) (last : Placed)
      (was : RecoversHistory image first ends last) (fault : OpenFault D g)
      → OnRefused fault (λ conn. AfterCrash (file_state conn) (IsStoredAt last))
      → OnRefused fault (λ conn. AfterCrash (file_state conn) (BeginsIn (λ version. version ≡ last.version) first ends no_session))
  found_again law image first ends last was (NotOpened error rest) stays = tt
  found_again law image first ends last was (OpenedInVain conn refusal) stays = λ clean trees may. (
    last.version,
    refl,
    (law first last.point ends was.begins was.history).begins last.version no_session trees
        (ends_nowhere last trees (stays clean trees may)),
  )

  pub not_made : NextSessions → (image : Image) (new : Point) (fault : OpenFault D g)
      (why : Refusal)
      (what : Remains D g) → why ≡ why_of fault → IsClearedOf fault what → (why_of fault ≡ EventExists) ⊎ IsFault (why_of fault)
      → WhereUnopened fault (IsFault (why_of fault))
      → (why_of fault ≡ EventExists → OnRefused fault (λ conn. HasCleanDisk (file_state conn)
      → (db : Database) × HasAnEvent image db × AfterCrash (file_state conn) (λ trees. trees ≡ db.trees)))
      → ((placed : Placed) → Recovers image placed → OnRefused fault (λ conn. AfterCrash (file_state conn) (IsStoredAt placed)))
      → (NoneAwaitsIn image
      → OnRefused fault (λ conn. AfterCrash (file_state conn) (Either (AreFoundIn image) (IsStoredIn 2 new.event new.serial))))
      → ((db : Trees) → HoldsDatabase image db → OnRefused fault (λ conn. HasCleanDisk (file_state conn)
      → RecoversBeside new db (file_state conn)))
      → OnUnopened fault (SparesAt image) → ((placed : Placed) → RecoversWhole image placed → OnUnopened fault (StaysThere placed))
      → HasMadeNone image new why what
  not_made law image new fault why what so is cause failed there stays leaves over spared again = record {
    cause = subst (λ (w : Refusal). (w ≡ EventExists) ⊎ IsFault w) (sym so) cause;
    unopened = cleared_unopened image fault why what so is failed spared;
    exists = λ same. cleared_clean (LeavesJust image what) fault what is (just image fault what is (there (sym so ∙ same)));
    stays = λ first ends last was. left_by (λ version. version ≡ last.version) first ends no_session was.begins what
        (cleared_sound fault what is)
        (cleared_such (BeginsIn (λ version. version ≡ last.version) first ends no_session) fault what is
        (found_again law image first ends last was fault (stays last was.left)));
    again = λ first ends last was whole. cleared_again image first ends last was fault what is (again last whole);
    leaves = λ awaits. cleared_such (Either (AreFoundIn image) (IsStoredIn 2 new.event new.serial)) fault what is (leaves awaits);
    beside = λ db holds. cleared_clean (LeavesBeside new db what) fault what is (beside new db fault what is (over db holds));
  }
