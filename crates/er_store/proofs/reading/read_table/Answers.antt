use Rattle.er_store.proofs.Prelude.{inl, inr, ◌∙◌, rules, IfOk-weaker, IfErr-weaker}
use Rattle.er_store.proofs.{TableLemmas.{refused, are_rows, finds_rows}, LoadLemmas.{unchanged_keeps, all_ok, all_err, told}}
use Rattle.er_store.proofs.{Exact.is_memory, Refusals.{refused_damage, has_wrong_kind}, Selecting.{commits_nothing, shows_unchanged}}
use Rattle.er_store.proofs.{Crash.was_clean, Lending.no_ok, Selecting.fails_keeping}
use Rattle.er_store.proofs.reading.read_table.Goals as goal

pub returns-in_err-rows-clause-refused : goal.returns-in_err-rows-clause-refused
returns-in_err-rows-clause-refused g c clean l serves e s represents sound =
    let fails = rw c.read.ensures at (c.in_err-rows.ensures.err clean) in
    told c.from_residual.result c.in_err-rows.field-0.0 _ (search rules)
    (inr (refused g.T.FromRow.form g.T.TableRow.table c.requires c.args.version _ _ l serves _ represents.has.tables fails))

pub returns-in_err-rows-clause-misread : goal.returns-in_err-rows-clause-misread
returns-in_err-rows-clause-misread g c clean =
    let table = g.T.TableRow.table in
    let fails = rw c.read.ensures at (c.in_err-rows.ensures.err clean) in
    told c.from_residual.result c.in_err-rows.field-0.0 _ (search rules)
    (λ at h. inl (refused_damage table.place at (table.read c.args.version) _ _ c.in_err-rows.field-0.0
    (c.requires.begins c.args.version) fails h))

pub returns-in_err-rows-clause-looks : goal.returns-in_err-rows-clause-looks
returns-in_err-rows-clause-looks g c =
    let begins = c.requires.begins c.args.version in
    record {
      mode = search rules;
      clean = λ clean. was_clean c.query_all.ensures.survives clean;
      same = λ clean. no_ok _ c.from_residual.result c.in_err-rows.field-0.0 (search rules);
      kept = λ clean.
          let fails = rw c.read.ensures at (c.in_err-rows.ensures.err clean) in
          all_err c.from_residual.result (fails_keeping _ _ _ _ _ begins fails);
      survives = commits_nothing _ _ begins (rw c.read.ensures at c.query_all.ensures.survives);
    }

pub returns : goal.returns
returns g c =
    let form = g.T.FromRow.form in
    let table = g.T.TableRow.table in
    let it = c.requires in
    let version = c.args.version in
    let begins = it.begins version in
    record {
      finds = λ clean.
          let shows = rw c.read.ensures at (c.in_ok-rows.ensures.ok clean) in
          IfOk-weaker c.typed_rows.result _ _ (λ typed. finds_rows form table it version _ _ shows c.deref.ensures.value typed.items)
          c.typed_rows.ensures.value;
      misread = λ clean.
          let shows = rw c.read.ensures at (c.in_ok-rows.ensures.ok clean) in
          IfErr-weaker c.typed_rows.result _ _
          (λ why never at h. has_wrong_kind form (table.read version) _ _ _ _ begins c.deref.ensures.value shows table.place at why never h)
          c.typed_rows.ensures.refused;
      refused = λ clean l serves e s represents sound.
          let are = are_rows form table it version _ _ l serves (rw c.read.ensures at (c.in_ok-rows.ensures.ok clean)) e s represents
          sound in
          IfErr-weaker c.typed_rows.result _ _ (λ why never. inl (is_memory why
          (λ unless. never unless (table.rows l.version e s) (c.deref.ensures.value ∙ are))))
          c.typed_rows.ensures.refused;
      looks = record {
        mode = search rules;
        clean = λ clean. was_clean c.query_all.ensures.survives clean;
        same = λ clean.
            let shows = rw c.read.ensures at (c.in_ok-rows.ensures.ok clean) in
            all_ok c.typed_rows.result (shows_unchanged _ _ _ begins shows);
        kept = λ clean.
            let shows = rw c.read.ensures at (c.in_ok-rows.ensures.ok clean) in
            all_err c.typed_rows.result (unchanged_keeps _ _ (shows_unchanged _ _ _ begins shows));
        survives = commits_nothing _ _ begins (rw c.read.ensures at c.query_all.ensures.survives);
      };
    }
