-- Sessions over files that a history left.
use Rattle.std.proofs.Common.{◌≡◌, ◌++◌, ◌∷◌, [], ℕ, IsTrue, List, inl, IsFalse, Result, Ok, Err, Vec, Global}
use Rattle.std.proofs.Common.{◌+◌, ◌<◌, length, take, drop, slice_index_or, map, map-id, append_assoc, refl, sym, ap, ap₂, subst, ◌∙◌}
use Rattle.std.proofs.Common.{Bool, arith}
use Rattle.std.proofs.Math.Logic.{∥∥₁_elim, ∥∥₁_map}
use Rattle.std.proofs.lemmas.List.{take_more, take-append-drop}
use Rattle.sqlite_trees.proofs.Doubt.{no_doubt}
use Rattle.sqlite_trees.specs.View.{IsClean, IsQuiet}
use Rattle.sqlite_pool.proofs.StateLemmas.{clean_is, may_leave_is}
use Rattle.sqlite.proofs.Theorems.{opens_again}
use Rattle.sqlite_store.specs.FileStore.{faults, files as store_files, is_shielded, recovers, view}
use Rattle.sqlite_disk.specs.declared.Disk as disk
use Rattle.sqlite_disk.specs.declared.Files.{Files}
use Rattle.sqlite_trees.specs.Props.{Trees-set}
use Rattle.sqlite_store.specs.declared.store.FileStore.{FileStore}
use Rattle.sqlite.specs.{Tree.Trees, Effect.{Database, IsDatabase}, State.{State, HasCleanDisk, IsUnchanged}, Held.{AreDatabases, Held}}
use Rattle.sqlite.specs.Files.{Finds, HoldsDatabase, IsOpened, file_state, image_of, over_files}
use Rattle.sqlite_wal.specs.Recovery.{Image}
use Rattle.er_event.specs.{declared.refusals.Refusal.Refusal, Event.EventValue}
use Rattle.er_store.specs.{Fault.IsFault, Representing.{IsStoredIn, AfterCrash, Represents, RepresentsIn}}
use Rattle.er_desk.specs.{declared.desk.Desk.Desk, Desk.{Point, Placed, DeskState, HoldsOwnEvent, IsStoredAt, placed_at, placed_of}}
use Rattle.er_desk.specs.Desk.{desk_state, point_of, running_at, state, version_in}
use Rattle.er_desk.specs.{Run.{Session, IsStoredEnd, no_session}, History.Ended, Opening.HoldsStill}
use Rattle.er_desk.specs.{Headline.{FindsAgain, RecoversHistory, and_then}, Asking.{Asks, NextSessions, GoesOnFrom, SessionsJoin}}
use Rattle.er_answers.specs.declared.question.{Question.Question, Answer.Answer}
use Rattle.er_cli.specs.declared.remains.{Remains.Remains}
use Rattle.sqlite_wal.specs.{Files.outcomes, Reads.AreClean}
use Rattle.er_cli.specs.{Remains.HoldSuch, GoingOn.{MigratesAsFound, MigrationsLead}}
use Rattle.er_sessions.specs.Sessions.{AnswersAll, AreCut, AsksMigration, AsksOver, HoldsNext, HoldsThen, IfCleanFiles}
use Rattle.er_sessions.specs.Sessions.{IsClosedOrKept, LeadToVersion, MayMoveFor, VersionAfter}
use Rattle.er_sessions.proofs.Asked.{MayIf, Stays, all_over, ends_nowhere}
use Rattle.er_sessions.proofs.Leaving.{BeginsIn, over_clean, over_next, over_opened, over_put}

-- tables in a version are so in either
pub in_either : {v : ℕ} {db : Database} {e : EventValue} {n : ℕ} → RepresentsIn v db e n → Represents db e n
in_either it = (it.layout, it.represents)

-- a desk that runs is at its point
runs_at : (old : DeskState) (first : Placed) → IsFalse old.needs_reopen → placed_of old ≡ first
    → old ≡ running_at first.point first.version
runs_at old first runs is =
    subst (λ (p : Placed). old ≡ running_at p.point p.version) is
    (ap (λ (b : Bool). let it : DeskState = record old { needs_reopen = b } in it) runs)

-- ---- files that were let go

module _ {D : Type 0} {d : disk.Ghosts D} where
  pub are_cut : (conn : Held (FileStore D d)) (store : FileStore D d) (files : Files D) → (files.log, files.db) ≡ store_files store
      → IsQuiet view faults recovers is_shielded conn.store store → (IsClean (view store) → IsTrue (view store).is_numbered)
      → (IsClean (view store) → AreDatabases (recovers store)) → AreClean d files.log files.db → AreCut d (file_state conn) files
  are_cut conn store files is quiet numbered sound clean =
      let sure_now = subst (λ (p : D × D). AreClean d p.0 p.1) is clean in
      let none : IsClean (view store) = no_doubt _ (clean_is store.pool ∙ sure_now) in
      record {
        was_clean = (let rises = quiet.clean in omega arith);
        left = λ image may.
            ∥∥₁_map (opens_again store (numbered none) (sound none) image
            (may_leave_is store.pool image sure_now (subst (λ (p : D × D). outcomes d p.0 p.1 image) is may)))
            (λ found. let it : (db : Trees) × (file_state conn).may_leave db × HoldsDatabase image db = (
              found.0,
              quiet.outcomes found.0 found.1,
              found.2,
            ) in it);
      }

  pub same_left_over : (conn other : Held (FileStore D d)) (now : Result (Files D) (Remains D d)) → conn ≡ other
      → IsClosedOrKept (file_state conn) now → IsClosedOrKept (file_state other) now
  same_left_over conn other now is over = subst (λ (h : Held (FileStore D d)). IsClosedOrKept (file_state h) now) is over

  -- files that were closed
  pub closed_cut : (s : State) (files : Files D) → (AreClean d files.log files.db → HasCleanDisk s × HoldSuch d s.may_leave files)
      → AreClean d files.log files.db → AreCut d s files
  closed_cut s files put = λ clean.
      let (was_clean, it) = put clean in
      record {
        was_clean = was_clean;
        left = λ image may. ∥∥₁_map (it.later image may).both (λ holds.
            let found : (db : Trees) × s.may_leave db × HoldsDatabase image db = (it.db, it.is, holds) in found);
      }

-- a disk that is clean after a session was clean before
pub ran_clean : {D : Type 0} (d : disk.Ghosts D) (join : SessionsJoin) (lead : MigrationsLead (over_files {g = d}))
    (desk : Desk (FileStore D d) over_files) (questions : List Question)
    (answers : Result (Vec Answer Global) Refusal) (now : Result (Files D) (Remains D d)) → AsksOver desk questions answers now
    → {Is : Type 0}
    → (HasCleanDisk (state over_files desk) → Is) → IfCleanFiles Is now
ran_clean d join lead desk questions (Ok them) now it {Is} is = over_clean Is (state over_files it.last) now it.let_go
    (λ clean. is ((all_over join over_files lead it.last it.rests questions them.items desk it.asked).1.went.clean clean))
ran_clean {D} d join lead desk questions (Err why) now it {Is} is = over_clean Is (state over_files it.last) now it.let_go
    (λ clean. is (subst (λ (k : Desk (FileStore D d) over_files). HasCleanDisk (state over_files k)) it.asked.1 clean))

module _ {D : Type 0} (d : disk.Ghosts D) (law : NextSessions) (files : Files D) (new : Point) (first : Placed) (ends : List Ended)
    (was : RecoversHistory (image_of d files) new ends first) where
  from : GoesOnFrom new first.point ends
  from = law new first.point ends was.begins was.history

  module _ (conn : Held (FileStore D d)) (opened : HasCleanDisk (file_state conn) → IsOpened conn)
      (found : HasCleanDisk (file_state conn) → Finds files conn) (clean : HasCleanDisk (file_state conn)) where
    -- the last commit is what the history left
    committed_is : (file_state conn).committed.trees ≡ was.left.0
    committed_is = ∥∥₁_elim was.left.1 (Trees-set _ _) (λ holds. (found clean).holds was.left.0 holds)

    -- so the tables represent the event again
    pub represents_again : ((v : ℕ) (db : Database) (e : EventValue) (n : ℕ) → IsDatabase db → IsStoredIn v e n db.trees
        → RepresentsIn v db e n) → RepresentsIn first.version (file_state conn).now first.point.event first.point.serial
    represents_again stored =
        let it = opened clean in
        stored first.version (file_state conn).now first.point.event first.point.serial (it.1 it.0.is_open).0
        (subst (IsStoredAt first) (sym (ap (λ (db : Database). db.trees) it.0.clean ∙ committed_is)) was.left.2)

    -- if the event was not taken over, the history stays where it is
    pub still_begins : (trees : Trees) → trees ≡ (file_state conn).committed.trees → BeginsIn (Stays first.version) new ends no_session
        trees
    still_begins trees is = (
      first.version,
      refl,
      from.begins first.version no_session trees
          (ends_nowhere first trees (subst (IsStoredAt first) (sym (is ∙ committed_is)) was.left.2)),
    )

  -- the desk sees what the files hold
  pub sees_still : (conn : Held (FileStore D d)) (desk : Desk (FileStore D d) over_files)
      → (HasCleanDisk (state over_files desk) → HasCleanDisk (file_state conn))
      → (HasCleanDisk (file_state conn) → IsOpened conn) → (HasCleanDisk (file_state conn) → Finds files conn)
      → (HasCleanDisk (state over_files desk) → IsUnchanged (file_state conn) (state over_files desk))
      → (db : Trees) → HoldsDatabase (image_of d files) db → HoldsStill (state over_files desk) db
  sees_still conn desk early opened found same db holds = λ clean is_open.
      let it = same clean in
      let was = (opened (early clean)).0.clean in (
        ap (λ (b : Database). b.trees) (it.0.now_is ∙ was) ∙ (found (early clean)).holds db holds,
        it.0.now_is ∙ was ∙ sym it.0.committed_is,
      )

  pub refused_holds : (questions : List Question) (back : Held (FileStore D d)) (why : Refusal) (now : Result (Files D) (Remains D d))
      → IsClosedOrKept (file_state back) now
      → AfterCrash (file_state back) (BeginsIn (Stays first.version) new ends no_session)
      → (HasCleanDisk (file_state back) → IsFault why)
      → HoldsNext d new ends first files questions (Err why) now
  refused_holds questions back why now over leaves failed = record {
    session = no_session;
    held = over_clean _ (file_state back) now over (λ clean. (refl, failed clean));
    leaves = over_next (Stays first.version) new ends no_session was.begins (file_state back) now over leaves;
    unopened = over_opened files why (file_state back) now over;
  }

  -- a session goes on from where the history has ended
  leaves_next : (In : (was now : ℕ) → Type 0) (desk last : Desk (FileStore D d) over_files) (session : Session)
      → (HasCleanDisk (state over_files desk) → FindsAgain over_files desk first)
      → (HasCleanDisk (state over_files last) → HasCleanDisk (state over_files desk))
      → (HoldsOwnEvent over_files desk → AfterCrash (state over_files last) (λ trees.
      (v : ℕ) × In (version_in desk) v × IsStoredEnd (placed_at (point_of (desk_state desk)) v) session trees))
      → AfterCrash (state over_files last) (BeginsIn (In first.version) new ends session)
  leaves_next In desk last session found cleans crash clean trees may =
      let again = found (cleans clean) in
      let (version, within, ended) = crash again.shows clean trees may in (
        version,
        subst (λ (p : Placed). In p.version version) again.found within,
        from.begins version session trees
            (subst (λ (p : Placed). IsStoredEnd (placed_at p.point version) session trees) again.found ended),
      )

  pub ran_holds : SessionsJoin → MigratesAsFound d → MigrationsLead (over_files {g = d}) → (desk : Desk (FileStore D d) over_files)
      → IsFalse (desk_state desk).needs_reopen
      → (HasCleanDisk (state over_files desk) → FindsAgain over_files desk first)
      → ((db : Trees) → HoldsDatabase (image_of d files) db → HoldsStill (state over_files desk) db)
      → (questions : List Question) → MayMoveFor (image_of d files) first questions
      → (answers : Result (Vec Answer Global) Refusal) (now : Result (Files D) (Remains D d)) → AsksOver desk questions answers now
      → HoldsNext d new ends first files questions answers now
  ran_holds join migrates lead desk runs finds sees questions move (Ok them) now it =
      let over = all_over join over_files lead it.last it.rests questions them.items desk it.asked in
      let may : MayIf over_files (AsksMigration questions) desk =
      λ asked clean. migrates (image_of d files) first desk clean (finds clean) sees (move asked) in
      record {
        session = over.0;
        held = over_clean _ (state over_files it.last) now it.let_go (λ clean. (
          desk_state it.last,
          subst (λ (s : DeskState). AnswersAll s questions them.items over.0 (desk_state it.last))
              (runs_at (desk_state desk) first runs (finds (over.1.went.clean clean)).found)
              (over.1.answered clean (λ _. (finds (over.1.went.clean clean)).shows) (λ _. may)),
        ));
        leaves = over_next (VersionAfter questions (Ok them) first.version) new ends over.0 was.begins (state over_files it.last) now
            it.let_go
            (leaves_next (LeadToVersion questions them.items) desk it.last over.0 finds over.1.went.clean (over.1.went.crash may));
        unopened = over_put (state over_files it.last) now it.let_go;
      }
  ran_holds join migrates lead desk runs finds sees questions move (Err why) now it =
      let (is, same) = it.asked in
      let asked : Asks over_files desk no_session it.last =
      subst (λ (k : Desk (FileStore D d) over_files). Asks over_files k no_session it.last) same it.rests in
      record {
        session = no_session;
        held = over_clean _ (state over_files it.last) now it.let_go (λ clean. (refl, subst IsFault (sym is) (inl refl)));
        leaves = over_next (Stays first.version) new ends no_session was.begins (state over_files it.last) now it.let_go
            (leaves_next Stays desk it.last no_session finds asked.as_call.clean
            (λ shows clean trees may. (version_in desk, refl, asked.crash shows clean trees may)));
        unopened = over_opened files why (state over_files it.last) now it.let_go;
      }

-- ---- many, one after the other

-- what a `for` over a list has yielded, the item of this turn and those that come later make up the list
pub so_far : {A : Type 0} (all seen : List A) (x : A) → map (λ (a : A). a) seen ≡ take (length seen) all
    → (length seen < length all) × (x ≡ slice_index_or all (length seen) x) → all ≡ seen ++ x ∷ drop (length seen + 1) all
so_far {A} all seen x first (few, is) =
    let n = length seen in
    sym (take-append-drop (n + 1) all)
    ∙ ap (λ (l : List A). l ++ drop (n + 1) all) (take_more all n x few
    ∙ ap₂ (λ (l : List A) (a : A). l ++ a ∷ []) (sym first ∙ map-id seen) (sym is))
    ∙ append_assoc seen (x ∷ []) (drop (n + 1) all)

module _ (new : Point) (P Q : List Ended → Placed → Image → Type 0) (questions : Vec Question Global)
    (answers : Result (Vec Answer Global) Refusal) where
  abbrev Goes_on : Type 0
  Goes_on = (ends : List Ended) (first : Placed) (image : Image) → P ends first image → RecoversHistory image new ends first
      → HoldsThen new Q ends first image (questions ∷ []) (answers ∷ [])

  -- one session more
  pub then_push : Goes_on → (done : List (Vec Question Global)) (before : List (Result (Vec Answer Global) Refusal)) (ends : List Ended)
      (first : Placed) (image : Image) → RecoversHistory image new ends first → HoldsThen new P ends first image done before
      → HoldsThen new Q ends first image (done ++ questions ∷ []) (before ++ answers ∷ [])
  then_push goes [] [] ends first image was holds = goes ends first image holds was
  then_push goes [] (r ∷ before) ends first image was holds = absurd holds
  then_push goes (c ∷ done) [] ends first image was holds = absurd holds
  then_push goes (c ∷ done) (r ∷ before) ends first image was holds = λ may. ∥∥₁_map (holds may) (λ it. (
    it.0,
    it.1,
    it.2,
    it.3,
    it.4,
    it.5,
    then_push goes done before (and_then ends it.0 it.1.point) it.1 it.2 it.5 it.6,
  ))

module _ {D : Type 0} (d : disk.Ghosts D) (new : Point) (questions : Vec Question Global) (answers : Result (Vec Answer Global) Refusal)
    (files : Files D) (left : Result (Files D) (Remains D d)) (last now : Files D) (is : left ≡ Ok last)
    (clean : AreClean d now.log now.db) (last_clean : AreClean d last.log last.db)
    (may_leave : outcomes d last.log last.db (image_of d now))
    (holds : (first : Placed) (ends : List Ended) → RecoversHistory (image_of d files) new ends first
    → MayMoveFor (image_of d files) first questions.items → HoldsNext d new ends first files questions.items answers left) where
  goes : (ends : List Ended) (first : Placed) (image : Image) → image ≡ image_of d files → RecoversHistory image new ends first
      → HoldsThen new (λ _ _ then. then ≡ image_of d now) ends first image (questions ∷ []) (answers ∷ [])
  goes ends first image same was = λ may.
      let it = subst (HoldsNext d new ends first files questions.items answers) is
      (holds first ends (subst (λ (i : Image). RecoversHistory i new ends first) same was)
      (subst (λ (i : Image). MayMoveFor i first questions.items) same may)) in
      ∥∥₁_map (it.leaves last_clean (image_of d now) may_leave) (λ next. (
        it.session,
        next.0,
        image_of d now,
        it.held last_clean,
        next.1,
        next.2,
        refl,
      ))

  pub holds_more : (ends : List Ended) (first : Placed) (image : Image) → RecoversHistory image new ends first
      → (done : List (Vec Question Global)) (before : List (Result (Vec Answer Global) Refusal))
      → HoldsThen new (λ _ _ then. then ≡ image_of d files) ends first image done before
      → HoldsThen new (λ _ _ then. then ≡ image_of d now) ends first image (done ++ questions ∷ []) (before ++ answers ∷ [])
  holds_more ends first image was done before holds =
      then_push new (λ _ _ then. then ≡ image_of d files) (λ _ _ then. then ≡ image_of d now) questions answers goes done before ends first
      image was holds
