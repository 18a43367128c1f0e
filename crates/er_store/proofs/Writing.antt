-- What an INSERT of one row does, and an UPDATE.
use Rattle.er_store.proofs.Prelude.{cast, Env, ◌≡◌, ℤ, Bool, true, false, cond, refl, Value, Null, Int, unary, arith, common_steps, ◌⊎◌}
use Rattle.er_store.proofs.Prelude.{inl, inr, ℕ, List, [], ◌∷◌, map, drop, length, slice_get, not, ◌&&◌, if◌then◌else◌, Some, None, Ok, Err}
use Rattle.er_store.proofs.Prelude.{Result, sym, ap, subst, ◌∙◌, Row, Term, Table, Insert, Values, cast_row, numbered, Trees, Database}
use Rattle.er_store.proofs.Prelude.{State, runs_as, Puts, Ran, ◌≢◌, ◌==◌, ◌++◌, ap₂, AllByRecursion, IsPermutation, ne_eqb, eval_all}
use Rattle.er_store.proofs.Prelude.{IsAnswer, output, Output, Query, overlay, Schema, Update, is_taken, without_rowid, put_row}
use Rattle.er_store.proofs.Prelude.{one_permutation, Goes}
use Rattle.std.proofs.Common.{◌/◌, MatchBool}
use Rattle.std.specs.{List.{flat_map, filter_map, cons_option}, Prelude.Option}
use Rattle.sqlite_rules.specs.{Edit.{edit_of, Applies}, Calls.ids_of, Action.{Writes, works, work_by, work_for, deed_for, pairs}}
use Rattle.sqlite.specs.{Rows.{rowids_for, count_of, Task, Written, stamped}, Query.page, Kind.TheVariants.Integer, Edit.{Edit, taken_by}}
use Rattle.sqlite.specs.{declared.run.Mode.Mode, Does.{OnRows, Tally}, State.mode_of, Rowids.Rowids, Rowids.TheVariants.{Chosen, Given}}
use Rattle.sqlite.specs.Effect.{value_rows, Answers}
use Rattle.sqlite.proofs.Callers.{one_step}
use Rattle.sqlite_rules.proofs.ActionLemmas.{no_works}
use Rattle.sqlite_schema.specs.{declared.program.Program.Program, declared.schema.Keys.Keys, declared.schema.Reference.Reference}
use Rattle.sqlite_schema.specs.Rules.{ParentKey, parent_key}
use Rattle.er_store.proofs.Meaning.{Means, event_query}
use Rattle.sqlite_exec.proofs.RunLemmas.{none_given}

-- ---- what columns make of the values that are written here

either : (b : Bool) (x : Value) → cond b x x ≡ x
either true x = refl
either false x = refl

pub cast_null : cast Integer Null ≡ Null
unfolding unary
cast_null = either _ Null

pub cast_int : (n : ℤ) → cast Integer (Int n) ≡ Int n
unfolding unary
cast_int n = either _ (Int n)

-- ---- what an INSERT of one row does

-- a part that gave a value did not stop on the way
pub went : {B E R : Type 0} {b : B} {Stops : E → Type 0} → ((stop : E) × Stops stop × (Ok b ≡ Err stop)) ⊎ R → R
went (inl stopped) = absurd (let e = stopped.2 in cc)
went (inr on) = on

pub same_value : {B E : Type 0} {a b : B} → ◌≡◌ {A = Result B E} (Ok a) (Ok b) → a ≡ b
same_value e = cc

pub first_fresh : (a : Bool) → (not a && true) ≡ true → a ≡ false
first_fresh true e = absurd (cc)
first_fresh false e = refl

not_counted : (b x : Bool) (A B : Type 0) → b ≡ false → MatchBool (if b then x else false) A B → B
not_counted true x A B e h = absurd (cc)
not_counted false x A B e h = h

chosen : (b : Bool) (a : Rowids) → b ≡ false → (if b then a else Chosen) ≡ Chosen
chosen true a e = absurd (cc)
chosen false a e = refl

-- One row goes into a table that counts no rowids.
row_goes : (task : Task) (mode : Mode) (db : Trees) (at width : ℕ) (terms : List Term) (row : Row) (tally : Tally) (after : Database)
    → task.table.is_counted ≡ false → numbered Chosen (db task.table.tree) (map (λ s. cast_row task.table (drop 0 s))
    (value_rows (stamped task.table task.params) width (length terms / width) terms)) ≡ row ∷ []
    → OnRows task mode None (Insert at (Values terms width)) db (Ok (tally, after)) → (after.schema ≡ task.schema)
    × Applies task.schema task.keys db (record { table = task.table; gone = []; news = row ∷ [] }) after.trees
row_goes task mode db at width terms row tally after uncounted news h =
    let done = went h in
    let now : after ≡ record { schema = task.schema; trees = done.0.trees } =
    ap (λ (p : Tally × Database). p.1) (same_value (went (went done.2).2).2) in
    let given = went done.1 in
    let counter = went given.2 in
    let written = went counter.2 in
    let counted = went written.2 in
    let kept : counted.0 ≡ written.0 = same_value (not_counted task.table.is_counted _ _ _ uncounted counted.1) in
    let trees : done.0.trees ≡ written.0 = ap (λ (it : Written). it.trees) (same_value counted.2) ∙ kept in
    let one : Edit = record { table = task.table; gone = []; news = row ∷ [] } in
    let edit : edit_of db task.table [] (rowids_for task.table (count_of counter.0)) 0 given.0 ≡ one =
    ap (λ (all : List Row). (let e : Edit = record { table = task.table; gone = []; news = all } in e))
    (ap (λ (r : Rowids). numbered r (db task.table.tree) (map (λ s. cast_row task.table (drop 0 s)) given.0))
    (chosen task.table.is_counted _ uncounted)
    ∙ ap (λ (all : List Row). numbered Chosen (db task.table.tree) (map (λ s. cast_row task.table (drop 0 s)) all)) given.1.1 ∙ news) in
    let wrote = subst (λ (e : Edit). Writes task.schema task.keys db e (Ok written.0)) edit written.1 in
    let applied = one_step task.schema task.keys db written.0 one (no_works task.schema task.keys 0 task.table.tree (row ∷ [])) wrote in (
      ap (λ (d : Database). d.schema) now,
      subst (Applies task.schema task.keys db one) (sym (ap (λ (d : Database). d.trees) now ∙ trees)) applied,
    )

pub puts_one : (table : Table) (row : Row) {sql : List ℕ} {params : Row} {old new : State} {at width : ℕ} {terms : List Term}
    → Means sql (Insert at (Values terms width)) old.now.schema → slice_get old.now.schema.tables at ≡ Some table → table.is_counted ≡ false
    → numbered Chosen (old.now.trees table.tree)
    (map (λ s. cast_row table (drop 0 s)) (value_rows (stamped table params) width (length terms / width) terms)) ≡ row ∷ []
    → Ran sql params old new → Puts table.tree row old new
puts_one table row {sql} {params} {old} {new} {at} {width} {terms} means found uncounted news ran =
    let h = ran.executes in
    let schema = old.now.schema in
    let w = runs_as sql params old new schema refl (Insert at (Values terms width)) means.is means.plain ran.count h.0 in
    let task : Task = record { limit = old.step_limit; keys = (mode_of old).keys; schema = schema; table = table; params = params } in
    let done = row_goes task (mode_of old) old.now.trees at width terms row w.tally new.now uncounted news (rw found at w.changed) in
    record {
      goes = record { continues = record { was = ran.was; shows = h.1; sound = w.sound }; schema = done.0; others = done.1.tables };
      free = first_fresh _ done.1.fresh;
      rows = done.1.rows;
    }

-- ---- what an UPDATE does

pub update_goes : (task : Task) (mode : Mode) (db : Trees) (at : ℕ) (q : Program) (tally : Tally) (after : Database)
    → OnRows task mode None (Update at q) db (Ok (tally, after))
    → (rows : List Row) × Answers (record { schema = task.schema; trees = db }) q task.params rows × (after.schema ≡ task.schema)
    × Writes task.schema task.keys db (edit_of db task.table (ids_of rows) Given 1 rows) (Ok after.trees)
update_goes task mode db at q tally after h = grind (arith, common_steps)

-- ---- no foreign key leads to the table

abbrev Elsewhere : List Table → ℕ → Reference → Type 0
Elsewhere tables tree ref = (key : ParentKey) → parent_key tables ref ≡ Some key → key.0 ≢ tree

abbrev pub IsNoParent : Schema → ℕ → Type 0
IsNoParent schema tree = AllByRecursion (λ t. AllByRecursion (Elsewhere schema.tables tree) t.references) schema.tables

not_moved : (depth tree : ℕ) (moves : List (Row × Row)) (child : Table) (ref : Reference) (deed : _) (key : Option ParentKey)
    → ((k : ParentKey) → key ≡ Some k → k.0 ≢ tree) → work_by depth tree moves child ref deed key ≡ None
not_moved depth tree moves child ref None key apart = refl
not_moved depth tree moves child ref (Some deed) None apart = refl
not_moved depth tree moves child ref (Some deed) (Some key) apart = rw (ne_eqb key.0 tree (apart key refl))

pub no_works_elsewhere : (schema : Schema) (keys : Keys) (tree : ℕ) (olds news : List Row)
    → IsNoParent schema tree → works schema keys 0 tree olds news ≡ []
no_works_elsewhere schema keys tree olds news = each schema.tables
  where
    none : (child : Table) (refs : List Reference) → AllByRecursion (Elsewhere schema.tables tree) refs
        → filter_map (work_for schema keys 0 tree olds news child) refs ≡ []
    none child [] all = refl
    none child (ref ∷ refs) all = ap₂ cons_option (not_moved 0 tree (pairs olds news) child ref (deed_for keys (length news == 0) ref)
        (parent_key schema.tables ref) all.0) (none child refs all.1)

    each : (tables : List Table) → AllByRecursion (λ t. AllByRecursion (Elsewhere schema.tables tree) t.references) tables
        → flat_map (λ child. filter_map (work_for schema keys 0 tree olds news child) child.references) tables ≡ []
    each [] all = refl
    each (t ∷ tables) all = ap₂ ◌++◌ (none t t.references all.0) (each tables all.1)

-- ---- one row gives way to another

-- the row of this rowid is taken out, and this row is put in
pub record Replaces (tree : ℕ) (id : ℤ) (row : Row) (old new : State) : Type 0 where
  pub goes : Goes tree old new
  pub free : is_taken (without_rowid id (old.now.trees tree)) row ≡ false
  pub rows : new.now.trees tree ≡ put_row row (without_rowid id (old.now.trees tree))

-- an UPDATE does so whose query shows the rowid and the row
pub replaces : (table : Table) (id : ℤ) (row : Row) {sql : List ℕ} {params : Row} {old new : State} {at : ℕ} {q : Query}
    → Means sql (Update at (record { lets = []; body = q })) old.now.schema → IsNoParent old.now.schema table.tree
    → slice_get old.now.schema.tables at ≡ Some table
    → ((rows : List Row) → IsAnswer q (overlay old.now.trees []) params rows → rows ≡ (Int id ∷ row) ∷ [])
    → cast_row table row ≡ row → Ran sql params old new → Replaces table.tree id row old new
replaces table id row {sql} {params} {old} {new} {at} {q} means apart found shows cast ran =
    let h = ran.executes in
    let schema = old.now.schema in
    let trees = old.now.trees in
    let keys = (mode_of old).keys in
    let p : Program = record { lets = []; body = q } in
    let w = runs_as sql params old new schema refl (Update at p) means.is means.plain ran.count h.0 in
    let task : Task = record { limit = old.step_limit; keys = keys; schema = schema; table = table; params = params } in
    let u = update_goes task (mode_of old) trees at p w.tally new.now (rw found at w.changed) in
    let edit : Edit = record { table = table; gone = id ∷ []; news = row ∷ [] } in
    let edited : edit_of trees table (ids_of u.0) Given 1 u.0 ≡ edit =
    ap (λ rows. edit_of trees table (ids_of rows) Given 1 rows) (shows u.0 (u.1.answer Null))
    ∙ ap (λ (r : Row). (let e : Edit = record { table = table; gone = id ∷ []; news = r ∷ [] } in e)) cast in
    let wrote = subst (λ (e : Edit). Writes schema keys trees e (Ok new.now.trees)) edited u.3 in
    let none = no_works_elsewhere schema keys table.tree (taken_by trees edit) edit.news apart in
    let applied = one_step schema keys trees new.now.trees edit none wrote in
    record {
      goes = record { continues = record { was = ran.was; shows = h.1; sound = w.sound }; schema = u.2; others = applied.tables };
      free = first_fresh _ applied.fresh;
      rows = applied.rows;
    }

-- ---- the row that an update of the event's table shows

-- if one is staged, only it is shown
pub one_shown : (q : Query) (params : Row) (e : Env) {staged : List Env} {kept ordered : List Output} {rows : List Row} → staged ≡ e ∷ []
    → kept ≡ map (output q) staged → IsPermutation kept ordered → rows ≡ page q params (map (λ (o : Output). o.1) ordered)
    → rows ≡ page q params ((output q e).1 ∷ [])
one_shown q params e one kept same shown = rw (one_permutation (output q e) _ (rw (kept, one) at same)) at shown

pub event_rows : (tree : ℕ) (terms : List Term) (db : Trees) (params r : Row) (rows : List Row) → db tree ≡ r ∷ []
    → IsAnswer (event_query tree terms) (overlay db []) params rows → rows ≡ eval_all terms (params ∷ r ∷ []) ∷ []
event_rows tree terms db params r rows one a =
    let bare = subst (λ (d : Trees). IsAnswer (event_query tree terms) d params rows) (none_given db) a in
    one_shown (event_query tree terms) params (params ∷ r ∷ []) (bare.grouped ∙ rw one) bare.distinct bare.same bare.shown
