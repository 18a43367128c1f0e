use Rattle.er_store.proofs.Prelude.{ℕ, List, Result, Ok, Err, IsOk, inl, inr, refl, sym, subst, ◌≡◌, ◌∙◌, true≢false, rules, read_event}
use Rattle.er_store.proofs.Prelude.{state}
use Rattle.er_store.proofs.Prelude.{Schema, Database, IsUnchanged, Compiled, CompileError, EventValue, HasCleanDisk, HasTablesAt, Layout}
use Rattle.er_store.proofs.Prelude.{HasTables, Represents, RepresentsAt, RepresentsIn, IsSoundButForSeeds}
use Rattle.er_store.proofs.Prelude.{RepresentsNow, TakesParameters, unchanged_then}
use Rattle.sqlite.specs.Effect.{IsDatabase}
use Rattle.er_store.specs.{Loading.HoldsEvent, Representing.ReadsEvent}
use Rattle.er_store.proofs.Prelude.{EventTable}
use Rattle.er_store.proofs.{Listing.event_listed}
use Rattle.er_store.proofs.{LoadLemmas.{kept_tables, kept_represents, then_keeps, unchanged_keeps, represents_where}}
use Rattle.er_store.proofs.Lending.{looks_call, looks_on}
use Rattle.er_store.proofs.Crash.{shows_leaves_in, survives_both, only}
use Rattle.er_store.proofs.Store.adopt.Given as given
use Rattle.er_store.proofs.Store.adopt.Goals as goal

takes_ok : (n : ℕ) (sql : List ℕ) (r : Result Compiled CompileError) → TakesParameters n sql r → IsOk r
takes_ok n sql (Ok c) takes = refl
takes_ok n sql (Err e) takes = absurd takes

reads_ours : (l : Layout) (schema : Schema) → HasTablesAt l schema → ReadsEvent schema
reads_ours l schema has = takes_ok 0 read_event _ (event_listed (has.has EventTable).1).whole

-- the first look leaves what it saw
same : (g : given.Over) (c : goal.After-result-1 g) → HasCleanDisk (state g.S.Store c.load_tables.new.conn)
    → IsUnchanged (state g.S.Store c.args.conn) (state g.S.Store c.reads_event.new.conn)
same g c clean = c.in-Ok-true.ensures.looks.same (c.load_tables.ensures.looks.clean clean)

-- a connection that saw the last commit, and sees the same
shown : (g : given.Over) (c : goal.After-result-1 g) → HasCleanDisk (state g.S.Store c.load_tables.new.conn)
    → IsUnchanged (state g.S.Store c.reads_event.new.conn) (state g.S.Store c.load_tables.new.conn) → (v : ℕ) (e : EventValue) (s : ℕ)
    → RepresentsIn v (state g.S.Store c.args.conn).now e s → RepresentsNow v (state g.S.Store c.load_tables.new.conn) e s
shown g c clean second v e s represents =
    let first = same g c clean in
    let seen = c.sees_last_commit.ensures c.requires.mode first.0.was_open in
    let nows = second.0.now_is ∙ first.0.now_is in
    record {
      is_open = second.0.is_open;
      sound = subst IsDatabase (sym nows) seen.1;
      settled = nows ∙ seen.0 ∙ sym (second.0.committed_is ∙ first.0.committed_is);
      represents = subst (λ (d : Database). RepresentsIn v d e s) (sym nows) represents;
    }

pub returns-in-Ok-false : goal.returns-in-Ok-false
returns-in-Ok-false g c =
    let look = c.in-Ok-false.ensures in
    record {
      call = looks_call _ look.looks (λ clean. unchanged_keeps _ _ (look.looks.same clean));
      found = record {
        mode = search rules;
        why = inl refl;
        no_event = λ is clean reads. true≢false (sym ((look.found clean).1 reads) ∙ c.in-Ok-false.field-0-test);
        first = λ clean. search rules;
        readable = λ clean. search rules;
        fails = λ clean e s represents sound.
            let reads = reads_ours represents.0 (state g.S.Store c.args.conn).now.schema represents.1.has.tables in
            absurd (true≢false (sym ((look.found clean).1 reads) ∙ c.in-Ok-false.field-0-test));
        crash = λ clean trees may. only (look.looks.survives.crash clean trees may);
      };
    }

pub returns-in-Err : goal.returns-in-Err
returns-in-Err g c =
    let look = c.in-Err.ensures in
    record {
      call = looks_call _ look.looks (λ clean. look.looks.kept clean);
      found = record {
        mode = search rules;
        why = inr (inl c.refusal_of.ensures.fault);
        no_event = search rules;
        first = search rules;
        readable = search rules;
        fails = λ clean e s represents sound. c.refusal_of.ensures.fault;
        crash = λ clean trees may. only (look.looks.survives.crash clean trees may);
      };
    }

pub returns-in-Err-load_tables : goal.returns-in-Err-load_tables
returns-in-Err-load_tables g c =
    let early = c.in-Ok-true.ensures in
    let before : HasCleanDisk (state g.S.Store c.load_tables.new.conn) → HasCleanDisk (state g.S.Store c.reads_event.new.conn) =
    c.load_tables.ensures.looks.clean in
    let same : HasCleanDisk (state g.S.Store c.load_tables.new.conn)
    → IsUnchanged (state g.S.Store c.args.conn) (state g.S.Store c.reads_event.new.conn) =
    λ clean. early.looks.same (before clean) in
    let failed = c.in-Err-load_tables.ensures in
    record {
      call = looks_call _ (looks_on early.looks failed.looks)
          (λ clean. then_keeps (state g.S.Store c.args.conn) (state g.S.Store c.reads_event.new.conn)
          (state g.S.Store c.load_tables.new.conn) (same clean) (failed.looks.kept clean));
      found = record {
        mode = search rules;
        why = inr failed.fault;
        no_event = search rules;
        first = λ clean place is. rw (same clean).0.now_is at (failed.first clean place is);
        readable = λ clean place is. (early.found (before clean)).0 c.in-Ok-true.field-0-test;
        fails = λ clean e s represents sound.
            let here = kept_represents _ _ e s (same clean) represents in
            failed.found clean here.0 e s here.1 sound;
        crash = λ clean trees may.
            only ((survives_both c.reads_event.ensures.looks.survives c.load_tables.ensures.looks.survives).crash clean trees may);
      };
    }

pub returns-in-Ok : goal.returns-in-Ok
returns-in-Ok g c =
    let loaded = c.in-Ok.ensures in
    let db = (state g.S.Store c.args.conn).now in
    let shows : (clean : HasCleanDisk (state g.S.Store c.load_tables.new.conn)) → HasTables c.in-Ok.version db.schema
    → HoldsEvent c.in-Ok.version db c.in-Ok.event c.in-Ok.serial =
    λ clean has. subst (λ (d : Database). HoldsEvent c.in-Ok.version d c.in-Ok.event c.in-Ok.serial) (same g c clean).0.now_is
    (loaded.shows clean (kept_tables _ _ _ (same g c clean) has)) in
    let at : (clean : HasCleanDisk (state g.S.Store c.load_tables.new.conn)) (l : Layout) (e : EventValue) (s : ℕ)
    → RepresentsAt l db e s → RepresentsAt l (state g.S.Store c.reads_event.new.conn).now e s =
    λ clean l e s represents. subst (λ (d : Database). RepresentsAt l d e s) (sym (same g c clean).0.now_is) represents in
    let sees : (clean : HasCleanDisk (state g.S.Store c.load_tables.new.conn)) (e : EventValue) (s : ℕ) → Represents db e s
    → IsSoundButForSeeds e → (c.in-Ok.event ≡ e) × (c.in-Ok.serial ≡ s)
    × RepresentsNow c.in-Ok.version (state g.S.Store c.load_tables.new.conn) e s =
    λ clean e s represents sound.
    let is = loaded.found clean represents.0 e s (at clean represents.0 e s represents.1) sound in
    let here : RepresentsIn c.in-Ok.version db e s =
    record { layout = represents.0; is = sym is.2; represents = represents.1 } in
    (is.0, is.1, shown g c clean (loaded.looks.same clean) c.in-Ok.version e s here) in
    record {
      call = looks_call _ (looks_on c.in-Ok-true.ensures.looks loaded.looks) (λ clean. tt);
      found = record {
        ready = refl;
        low = loaded.low;
        sound = loaded.sound;
        same = λ clean. unchanged_then _ _ _ (same g c clean) (loaded.looks.same clean);
        crash = λ clean trees may.
            only ((survives_both c.reads_event.ensures.looks.survives c.load_tables.ensures.looks.survives).crash clean trees may);
        reads = λ clean. rw (same g c clean).0.now_is at (loaded.reads clean);
        shows = shows;
        represents = λ clean has keyed. shown g c clean (loaded.looks.same clean) _ _ _ (represents_where (shows clean has) keyed);
        found = sees;
        version = λ clean e s v represents sound.
            (loaded.found clean represents.layout e s (at clean represents.layout e s represents.represents) sound).2 ∙ represents.is;
        leaves = λ e s represents sound clean trees may.
            shows_leaves_in c.in-Ok.version (state g.S.Store c.load_tables.new.conn) e s
            (λ db is_open may. g.met.S.Store.settled c.load_tables.new.conn.store db is_open may)
            (sees clean e s represents sound).2 trees may;
      };
    }
