-- What a desk's call that only reads does, by what its store's call does.
use Rattle.std.proofs.Common.{◌≡◌, inl, inr, Bool, Result, Ok, Err, OnOk, OnErr, IsFalse, IsTrue, refl, sym, subst, ◌∙◌, true≢false}
use Rattle.sqlite.specs.{Tree.Trees, State.{State, HasCleanDisk, IsUnchanged}, Held.Held}
use Rattle.sqlite.specs.Held as sqlite
use Rattle.sqlite_trees.specs.declared.store.Store.{Ghosts}
use Rattle.er_event.specs.declared.refusals.Refusal.{Refusal, TheVariants.NeedsReopen}
use Rattle.er_store.specs.{Calls.{OnlyReads, StopsUnless, StopsByReadFault}, Fault.IsReadFault, Reading.KeepsTables}
use Rattle.er_store.specs.Representing.{AfterCrash}
use Rattle.er_store.specs.declared.Store.{Store}
use Rattle.er_store.specs.Store as tables
use Rattle.er_desk.specs.{declared.desk.Desk.Desk, Looking.ReadsTables, Headline.RecoversJust}
use Rattle.er_desk.specs.Desk.{HoldsOwnEvent, Reads, point_of, placed_of, state, desk_state, version_in}
use Rattle.er_desk.proofs.{Adopting.leaves_all, Asking.{read_asks, same_asks}, Slips.{read_keeps, reads}}
use Rattle.er_desk.proofs.{Turns.{same_keeps, unchanged_keeps}}

module _ {S : Type 0} (g : Ghosts S) (old : Desk S g) (passing : Refusal)
    (settled : (db : Trees) → IsTrue (state g old).is_open → (state g old).may_leave db → db ≡ (state g old).committed.trees)
    (left : HoldsOwnEvent g old → RecoversJust (state g old) (placed_of (desk_state old))) where
  -- of a desk that runs
  pub reads_tables : {A : Type 0} (new : Desk S g) (read : Result A Refusal) → IsFalse (desk_state old).needs_reopen
      → point_of (desk_state new) ≡ point_of (desk_state old)
      → desk_state new ≡ record (desk_state old) { version = version_in new; needs_reopen = (desk_state new).needs_reopen }
      → OnlyReads g (StopsUnless passing) old.store read new.store
      → (HasCleanDisk (state g new) → IsFalse (desk_state new).needs_reopen → IsUnchanged (state g old) (state g new))
      → ReadsTables g passing old read new
  reads_tables new read runs same is does still = record {
    turn = subst (Reads passing (desk_state old) read) (sym is)
        (reads passing (desk_state old) (version_in new) (desk_state new).needs_reopen read runs does.version (does.as_call.stops runs));
    asked = read_asks g old new _ read runs same does.version (does.as_call.stops runs) does.as_call.call.clean still
        does.as_call.call.kept does.crash left;
    same = still;
    left = leaves_all (state g old) (state g new) settled does.as_call.call.clean does.crash
        (λ clean. read_keeps _ read (desk_state new).needs_reopen (state g old) (state g new) (does.as_call.stops runs) (still clean)
        (does.as_call.call.kept clean));
  }

  -- of one that was stopped
  pub waits_tables : {A : Type 0} → IsTrue (desk_state old).needs_reopen → ReadsTables {A = A} g passing old (Err NeedsReopen) old
  waits_tables stopped = record {
    turn = inr (inr (stopped, refl, refl));
    asked = same_asks g old left;
    same = λ clean runs. absurd (true≢false (sym stopped ∙ runs));
    left = leaves_all (state g old) (state g old) settled (λ clean. clean) (λ clean db may. may) (λ clean. same_keeps (state g old));
  }

-- ---- one call of a store after another

unchanged_then : (old mid new : State) → IsUnchanged old mid → IsUnchanged mid new → IsUnchanged old new
unchanged_then old mid new one two = (
  record {
    was_open = one.0.was_open;
    is_open = two.0.is_open;
    now_is = two.0.now_is ∙ one.0.now_is;
    committed_is = two.0.committed_is ∙ one.0.committed_is;
    mode = two.0.mode ∙ one.0.mode;
  },
  record { changes = two.1.changes ∙ one.1.changes; last_rowid = two.1.last_rowid ∙ one.1.last_rowid },
  two.2 ∙ one.2,
)

keeps_after : (old mid new : State) → IsUnchanged old mid → KeepsTables mid new → KeepsTables old new
keeps_after old mid new same keeps settled is_open =
    let kept = keeps (same.0.now_is ∙ (settled ∙ sym same.0.committed_is)) is_open in
    (kept.0 ∙ same.0.now_is, kept.1 ∙ same.0.now_is)

ok_weaker : {A E P Q : Type 0} (r : Result A E) → (P → Q) → OnOk r P → OnOk r Q
ok_weaker (Ok a) f p = f p
ok_weaker (Err e) f p = tt

err_weaker : {A E P Q : Type 0} (r : Result A E) → (P → Q) → OnErr r P → OnErr r Q
err_weaker (Ok a) f p = tt
err_weaker (Err e) f p = f p

module _ {S : Type 0} (g : Ghosts S) (a b : Store S g) (runs : IsFalse (tables.needs_reopen a)) where
  -- what was read first was answered
  pub reads_on : {A B : Type 0} {Fails More : Refusal → Bool → Type 0} (c : Store S g) (x : A) (r : Result B Refusal)
      → OnlyReads g Fails a (Ok x) b → OnlyReads g More b r c → OnlyReads g More a r c
  reads_on c x r one two = record {
    as_call = record {
      call = record {
        clean = λ clean. one.as_call.call.clean (two.as_call.call.clean clean);
        limit = two.as_call.call.limit ∙ one.as_call.call.limit;
        kept = λ clean. err_weaker r
            (keeps_after (tables.store_state g a) (tables.store_state g b) (tables.store_state g c)
            (one.same (two.as_call.call.clean clean)))
            (two.as_call.call.kept clean);
      };
      waits = λ stopped. absurd (true≢false (sym stopped ∙ runs));
      stops = λ runs. two.as_call.stops (one.as_call.stops runs);
    };
    version = two.version ∙ one.version;
    same = λ clean. ok_weaker r
        (unchanged_then (tables.store_state g a) (tables.store_state g b) (tables.store_state g c)
        (one.same (two.as_call.call.clean clean)))
        (two.same clean);
    crash = λ clean trees may. one.crash (two.as_call.call.clean clean) trees (two.crash clean trees may);
  }

  -- it was refused
  pub reads_failed : {A B : Type 0} (passing why : Refusal) → OnlyReads {A = A} g StopsByReadFault a (Err why) b
      → OnlyReads {A = B} g (StopsUnless passing) a (Err why) b
  reads_failed passing why one = record {
    as_call = record {
      call = record { clean = one.as_call.call.clean; limit = one.as_call.call.limit; kept = one.as_call.call.kept };
      waits = λ stopped. absurd (true≢false (sym stopped ∙ runs));
      stops = λ runs. inr (one.as_call.stops runs);
    };
    version = one.version;
    same = λ clean. tt;
    crash = one.crash;
  }

  -- what was worked out of it then
  pub reads_well : {A B : Type 0} {Fails : Refusal → Bool → Type 0} (passing : Refusal) (x : A) (y : B)
      → OnlyReads g Fails a (Ok x) b → OnlyReads g (StopsUnless passing) a (Ok y) b
  reads_well passing x y one = record {
    as_call = record {
      call = record { clean = one.as_call.call.clean; limit = one.as_call.call.limit; kept = λ clean. tt };
      waits = λ stopped. absurd (true≢false (sym stopped ∙ runs));
      stops = one.as_call.stops;
    };
    version = one.version;
    same = one.same;
    crash = one.crash;
  }

  -- that was refused, and leaves the store running
  pub reads_passing : {A B : Type 0} {Fails : Refusal → Bool → Type 0} (passing : Refusal) (x : A)
      → OnlyReads g Fails a (Ok x) b → OnlyReads {A = B} g (StopsUnless passing) a (Err passing) b
  reads_passing passing x one = record {
    as_call = record {
      call = record {
        clean = one.as_call.call.clean;
        limit = one.as_call.call.limit;
        kept = λ clean. unchanged_keeps (tables.store_state g a) (tables.store_state g b) (one.same clean);
      };
      waits = λ stopped. absurd (true≢false (sym stopped ∙ runs));
      stops = λ runs. inl (refl, one.as_call.stops runs);
    };
    version = one.version;
    same = λ clean. tt;
    crash = one.crash;
  }

  -- or ends it
  pub reads_ended : {A B : Type 0} {Fails : Refusal → Bool → Type 0} (passing why : Refusal) (c : Store S g) (x : A)
      → OnlyReads g Fails a (Ok x) b
      → tables.connection c ≡ tables.connection b → tables.store_version c ≡ tables.store_version b → IsReadFault why
      → IsTrue (tables.needs_reopen c) → OnlyReads {A = B} g (StopsUnless passing) a (Err why) c
  reads_ended passing why c x one same version fault stopped =
      let then : HasCleanDisk (tables.store_state g c) → HasCleanDisk (tables.store_state g b) =
      subst (λ (h : Held S). HasCleanDisk (sqlite.state g h)) same in
      record {
        as_call = record {
          call = record {
            clean = λ clean. one.as_call.call.clean (then clean);
            limit = subst (λ (h : Held S). (sqlite.state g h).step_limit ≡ (tables.store_state g a).step_limit) (sym same)
                one.as_call.call.limit;
            kept = λ clean. subst (λ (h : Held S). KeepsTables (tables.store_state g a) (sqlite.state g h)) (sym same)
                (unchanged_keeps (tables.store_state g a) (tables.store_state g b) (one.same (then clean)));
          };
          waits = λ stopped. absurd (true≢false (sym stopped ∙ runs));
          stops = λ runs. inr (fault, stopped);
        };
        version = version ∙ one.version;
        same = λ clean. tt;
        crash = subst (λ (h : Held S). AfterCrash (sqlite.state g h) (tables.store_state g a).may_leave) (sym same) one.crash;
      }
