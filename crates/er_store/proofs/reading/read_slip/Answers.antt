use Rattle.er_store.proofs.Prelude.{map-map, ◌≡◌, inl, inr, ℕ, List, [], ◌∷◌, map, ap, ◌∙◌, rules, IfOk-weaker, IfErr-weaker, Row, State}
use Rattle.er_store.proofs.Prelude.{EventValue, IsSoundButForSeeds, number_value, named_columns, named_pairings, first_columns}
use Rattle.er_store.proofs.Prelude.{Shown, Layout, HasTablesAt, PairingTable, PlayerTable, ◌==◌}
use Rattle.er_store.proofs.Prelude.{Schema, SelectsWith}
use Rattle.er_store.proofs.{Slipping.slip_means, Meaning.slip_query, Refusals.{slip_refused, answers}}
use Rattle.er_store.proofs.{Crash.was_clean, Lending.no_ok, LoadLemmas.{unchanged_keeps, all_ok, all_err, told}}
use Rattle.er_store.proofs.{Selecting.{commits_nothing, shows_unchanged, fails_keeping, slip_selects}, Exact.is_memory, Joined.slip_exact}
use Rattle.er_store.proofs.{Joined.named_typed}
use Rattle.er_store.proofs.Prelude.{RepresentsIn, Database, read_slip_of, subst}
use Rattle.er_store.proofs.reading.read_slip.Goals as goal

chosen : (k t : ℕ) (l : Layout) {schema : Schema} → HasTablesAt l schema
    → SelectsWith (number_value k ∷ number_value t ∷ []) (read_slip_of l.version)
    (slip_query (l.tree PairingTable) (l.tree PlayerTable)) schema
chosen k t l has = slip_means (l.version == 2) (has.has PairingTable).1 (has.has PlayerTable).1 k t

-- in tables of this version
chosen_in : (k t v s : ℕ) (e : EventValue) (db : Database) (represents : RepresentsIn v db e s)
    → SelectsWith (number_value k ∷ number_value t ∷ []) (read_slip_of v)
    (slip_query (represents.layout.tree PairingTable) (represents.layout.tree PlayerTable)) db.schema
chosen_in k t v s e db represents =
    subst (λ version. SelectsWith (number_value k ∷ number_value t ∷ []) (read_slip_of version)
    (slip_query (represents.layout.tree PairingTable) (represents.layout.tree PlayerTable)) db.schema) represents.is
    (chosen k t represents.layout represents.represents.has.tables)

exact : (k t v s : ℕ) (e : EventValue) (old new : State) {rows : List Row} → RepresentsIn v old.now e s → IsSoundButForSeeds e
    → Shown (read_slip_of v) (number_value k ∷ number_value t ∷ []) old new rows → rows ≡ map named_columns (named_pairings e k t)
exact k t v s e old new {rows} represents sound h =
    slip_exact represents.layout old.now e s k t rows represents.represents sound
    (answers old new (chosen_in k t v s e old.now represents) h)

pub returns-in_err-rows-clause-looks : goal.returns-in_err-rows-clause-looks
returns-in_err-rows-clause-looks g c = record {
  mode = search rules;
  clean = λ clean. was_clean c.query_all.ensures.survives clean;
  same = λ clean. no_ok _ c.from_residual.result c.in_err-rows.field-0.0 (search rules);
  kept = λ clean. all_err c.from_residual.result (fails_keeping _ _ _ _ _ (slip_selects c.args.version)
      (rw c.slip_text.ensures at (c.in_err-rows.ensures.err clean)));
  survives = commits_nothing _ _ (slip_selects c.args.version) (rw c.slip_text.ensures at c.query_all.ensures.survives);
}

pub returns-in_err-rows-clause-refused : goal.returns-in_err-rows-clause-refused
returns-in_err-rows-clause-refused g c clean e s represents sound =
    let k = c.args.round in
    let t = c.args.table in
    let fails = rw (c.slip_text.ensures, c.params-to_sql.ensures, c.params-to_sql-2.ensures) at (c.in_err-rows.ensures.err clean) in
    told c.from_residual.result c.in_err-rows.field-0.0 _ (search rules) (inr (slip_refused (represents.layout.tree PairingTable)
    (represents.layout.tree PlayerTable) (number_value k ∷ number_value t ∷ []) _ _ _
    (chosen_in k t c.args.version s e _ represents) fails))

pub returns : goal.returns
returns g c =
    let k = c.args.round in
    let t = c.args.table in
    record {
      exact = λ clean e s represents sound.
          let named = named_pairings e k t in
          let are = exact k t c.args.version s e _ _ represents sound
          (rw (c.slip_text.ensures, c.params-to_sql.ensures, c.params-to_sql-2.ensures) at (c.in_ok-rows.ensures.ok clean)) in
          IfOk-weaker c.typed_rows.result _ _ (λ typed is. named_typed typed.items named
          (is ∙ ap (map (first_columns 11)) (c.deref.ensures.value ∙ are)
          ∙ map-map (first_columns 11) named_columns named)) c.typed_rows.ensures.value;
      refused = λ clean e s represents sound.
          let are = exact k t c.args.version s e _ _ represents sound
          (rw (c.slip_text.ensures, c.params-to_sql.ensures, c.params-to_sql-2.ensures) at (c.in_ok-rows.ensures.ok clean)) in
          IfErr-weaker c.typed_rows.result _ _ (λ why never. inl (is_memory why
          (λ unless. never unless (named_pairings e k t) (c.deref.ensures.value ∙ are))))
          c.typed_rows.ensures.refused;
      looks = record {
        mode = search rules;
        clean = λ clean. was_clean c.query_all.ensures.survives clean;
        same = λ clean. all_ok c.typed_rows.result (shows_unchanged _ _ _ (slip_selects c.args.version)
            (rw c.slip_text.ensures at (c.in_ok-rows.ensures.ok clean)));
        kept = λ clean. all_err c.typed_rows.result
            (unchanged_keeps _ _ (shows_unchanged _ _ _ (slip_selects c.args.version)
            (rw c.slip_text.ensures at (c.in_ok-rows.ensures.ok clean))));
        survives = commits_nothing _ _ (slip_selects c.args.version) (rw c.slip_text.ensures at c.query_all.ensures.survives);
      };
    }
