use Rattle.er_store.proofs.Prelude.{◌∙◌, IsUnchanged, inl, inr, refl, sym, subst, true≢false, rules, state, no_schema, CanRead}
use Rattle.er_store.proofs.Prelude.{HasCleanDisk}
use Rattle.er_store.proofs.{LoadLemmas.{schema_kept, unchanged_keeps, then_keeps}, Meaning.unreadable, Layouts.can_read}
use Rattle.er_store.proofs.{Crash.{only, was_clean}, Lending.looks_call}
use Rattle.er_store.specs.{Beside.{HoldsBeside, IsStoredBeside}, Representing.{AfterCrash, Either}}
use Rattle.er_store.proofs.Beside.{shown_beside, stored_beside, represents_now, stored_whole}
use Rattle.er_store.proofs.Store.create_in.Goals as goal

pub returns-in-Ok : goal.returns-in-Ok
returns-in-Ok g c =
    let look = c.in-Ok-false.ensures in
    let old = state g.S.Store c.args.conn in
    let same : HasCleanDisk (state g.S.Store c.create_tables.new.conn) → IsUnchanged old (state g.S.Store c.has_event.new.conn) =
    λ clean. look.looks.same (c.in-Ok.ensures.transacts.call.clean clean) in
    let beside : HasCleanDisk (state g.S.Store c.create_tables.new.conn)
    → HoldsBeside c.args.version c.args.event.now old.now (state g.S.Store c.create_tables.new.conn) =
    λ clean. shown_beside (same clean).0.now_is (c.in-Ok.ensures.beside clean) in
    record {
      call = record {
        clean = λ clean. was_clean look.looks.survives (c.in-Ok.ensures.transacts.call.clean clean);
        limit = c.in-Ok.ensures.transacts.call.limit ∙ look.looks.survives.limit;
        kept = λ clean. tt;
      };
      made = record {
        ready = search rules;
        version = search rules;
        absent = λ clean.
            let none : CanRead (state g.S.Store c.args.conn).now.schema → ⊥ =
            λ reads. true≢false (sym ((look.found (c.in-Ok.ensures.transacts.call.clean clean)).1 reads) ∙ c.in-Ok-false.field-0-test) in
            (none, λ version has. none (can_read _ has));
        beside = beside;
        alone = λ clean none. c.in-Ok.ensures.alone clean (schema_kept _ _ no_schema (same clean) none);
        created = λ clean awaits. represents_now (beside clean) awaits;
        acknowledged = λ awaits clean trees may. stored_whole ((beside clean).leaves trees may) awaits;
      };
    }

pub returns-in-Err-create_tables : goal.returns-in-Err-create_tables
returns-in-Err-create_tables g c =
    let look = c.in-Ok-false.ensures in
    let failed = c.in-Err-create_tables.ensures in
    let same : HasCleanDisk (state g.S.Store c.create_tables.new.conn)
    → IsUnchanged (state g.S.Store c.args.conn) (state g.S.Store c.has_event.new.conn) =
    λ clean. look.looks.same (failed.transacts.call.clean clean) in
    let beside : AfterCrash (state g.S.Store c.create_tables.new.conn) (Either (state g.S.Store c.args.conn).may_leave
    (IsStoredBeside c.args.version c.args.event.now (state g.S.Store c.args.conn).now)) =
    λ clean trees may. elim (failed.beside_crash clean trees may) [
      | inl before ↦ inl (only (look.looks.survives.crash (failed.transacts.call.clean clean) trees before))
      | inr made ↦ inr (stored_beside (same clean).0.now_is made)
    ] in
    record {
      call = record {
        clean = λ clean. was_clean look.looks.survives (failed.transacts.call.clean clean);
        limit = failed.transacts.call.limit ∙ look.looks.survives.limit;
        kept = λ clean. then_keeps (state g.S.Store c.args.conn) (state g.S.Store c.has_event.new.conn)
            (state g.S.Store c.create_tables.new.conn) (same clean) (failed.transacts.call.kept clean);
      };
      made = record {
        mode = search rules;
        why = search rules;
        exists = search rules;
        spares = λ reads clean trees may.
            absurd (true≢false (sym ((look.found (failed.transacts.call.clean clean)).1 reads) ∙ c.in-Ok-false.field-0-test));
        crash = λ awaits clean trees may. elim (beside clean trees may) [
          | inl before ↦ inl before
          | inr made ↦ inr (stored_whole made awaits)
        ];
        beside_crash = beside;
      };
    }

pub returns-in-Ok-true : goal.returns-in-Ok-true
returns-in-Ok-true g c = record {
  call = looks_call _ c.in-Ok-true.ensures.looks (λ clean. unchanged_keeps _ _ (c.in-Ok-true.ensures.looks.same clean));
  made = record {
    mode = search rules;
    why = inl refl;
    exists = λ same clean.
        let found = c.in-Ok-true.ensures.found clean in
        let reads = found.0 c.in-Ok-true.field-0-test in
        (reads, (λ none. unreadable (subst CanRead none reads)), c.in-Ok-true.ensures.looks.same clean);
    spares = λ reads clean trees may. only (c.in-Ok-true.ensures.looks.survives.crash clean trees may);
    crash = λ none clean trees may. inl (only (c.in-Ok-true.ensures.looks.survives.crash clean trees may));
    beside_crash = λ clean trees may. inl (only (c.in-Ok-true.ensures.looks.survives.crash clean trees may));
  };
}

pub returns-in-Err : goal.returns-in-Err
returns-in-Err g c = record {
  call = looks_call _ c.in-Err.ensures.looks (λ clean. c.in-Err.ensures.looks.kept clean);
  made = record {
    mode = search rules;
    why = search rules;
    exists = search rules;
    spares = λ reads clean trees may. only (c.in-Err.ensures.looks.survives.crash clean trees may);
    crash = λ none clean trees may. inl (only (c.in-Err.ensures.looks.survives.crash clean trees may));
    beside_crash = λ clean trees may. inl (only (c.in-Err.ensures.looks.survives.crash clean trees may));
  };
}
