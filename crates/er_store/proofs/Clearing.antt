-- What a DELETE of all rows of a table does.
use Rattle.er_store.proofs.Prelude.{arith, common_steps, ◌≡◌, ℕ, ℤ, List, [], ◌∷◌, ◌&&◌, map, filter, not, Bool, true, false, refl, sym, ap}
use Rattle.er_store.proofs.Prelude.{◌∙◌, subst, Ok, Row, column, col, rowid, has_rowid, without_rowid, value_cmp, value_cmp-Int, Int}
use Rattle.er_store.proofs.Prelude.{State, Trees, Table, Goes, Ran, table_query, Equal, AllByRecursion}
use Rattle.er_store.proofs.Prelude.{recursion_from_All, All-from_recursion, list_all, All, is_eq, runs_as, slice_get, Some, true≢false}
use Rattle.er_store.proofs.Prelude.{IsPermutation-sym, IsPermutation, nat_tests, get_or, length, length-map, ◌<◌, cond, Null, None}
use Rattle.std.proofs.Math.ListN.{get_or-map}
use Rattle.std.proofs.lemmas.List.Sorted.{All-permutation}
use Rattle.sqlite.specs.{Rows.Task, declared.run.Mode.Mode, Does.{OnRows, Tally}, State.mode_of, Rowids.TheVariants.Given}
use Rattle.sqlite.specs.{Effect.{Database, Answers}, Command.TheVariants.Delete}
use Rattle.sqlite_rules.specs.{Edit.{Edit, edit_of, without_all, id_in, taken_by}, Calls.ids_of, Action.{Writes, works}}
use Rattle.sqlite_schema.specs.{declared.program.Program.Program, declared.schema.Keys.Keys}
use Rattle.sqlite.proofs.Callers.{one_step}
use Rattle.er_store.specs.inside.Moving.{HasNumber}
use Rattle.er_store.proofs.{Exact.{answer_lists, IsShownByKeys}, Meaning.Means}

-- ---- the rowids of all rows

delete_goes : (task : Task) (mode : Mode) (db : Trees) (at : ℕ) (q : Program) (tally : Tally) (after : Database)
    → OnRows task mode None (Delete at q) db (Ok (tally, after))
    → (rows : List Row) × Answers (record { schema = task.schema; trees = db }) q task.params rows × (after.schema ≡ task.schema)
    × Writes task.schema task.keys db (edit_of db task.table (ids_of rows) Given 0 []) (Ok after.trees)
delete_goes task mode db at q tally after h = grind (arith, common_steps)

-- an answer in no order
in_any : (tree : ℕ) → IsShownByKeys tree (col 1 0 ∷ []) [] (λ r. column r 0 ∷ []) (λ r s. Equal)
in_any tree = record { shows = λ r. refl; Keyed = λ o. Unit {0}; keyed = λ r. tt; agrees = λ o p a b. refl }

-- ---- without them no row is left

abbrev stays_by : List ℤ → Row → Bool
stays_by ids r = list_all (λ id. not (has_rowid id r)) ids

filter_both : {X : Type 0} (p q : X → Bool) (xs : List X) → filter p (filter q xs) ≡ filter (λ x. q x && p x) xs
filter_both p q [] = refl
filter_both p q (x ∷ xs) = grind (arith, nat_tests, filter_both p q xs)

filter_true : {X : Type 0} (xs : List X) → filter (λ x. true) xs ≡ xs
filter_true [] = refl
filter_true (x ∷ xs) = ap (λ rest. x ∷ rest) (filter_true xs)

without_all-filter : (ids : List ℤ) (rows : List Row) → without_all rows ids ≡ filter (stays_by ids) rows
without_all-filter [] rows = sym (filter_true rows)
without_all-filter (id ∷ ids) rows =
    without_all-filter ids (without_rowid id rows) ∙ filter_both (stays_by ids) (λ r. not (has_rowid id r)) rows

-- a row that stays has the rowid of none of these
stays_from : (r : Row) (shown : List Row) → stays_by (ids_of shown) r ≡ true
    → AllByRecursion (λ (s : Row). has_rowid (id_in (rowid s)) r ≡ false) shown
stays_from r [] h = tt
stays_from r (s ∷ shown) h = (
  stays_here (has_rowid (id_in (rowid s)) r) (stays_by (ids_of shown) r) h,
  stays_from r shown (stays_there (has_rowid (id_in (rowid s)) r) (stays_by (ids_of shown) r) h),
)
  where
    stays_here : (a b : Bool) → (not a && b) ≡ true → a ≡ false
    stays_here true b e = absurd (cc)
    stays_here false b e = refl

    stays_there : (a b : Bool) → (not a && b) ≡ true → b ≡ true
    stays_there true b e = absurd (cc)
    stays_there false b e = e

own_rowid : (r : Row) → HasNumber r → has_rowid (id_in (rowid r)) r ≡ true
unfolding value_cmp
own_rowid r has =
    let same : has_rowid (id_in (Int has.0)) r ≡ true = ap (λ v. is_eq (value_cmp v (Int has.0))) has.1 ∙ ap is_eq
    (value_cmp-Int has.0 has.0)
    ∙ grind (arith, nat_tests) in
    ap (λ v. has_rowid (id_in v) r) has.1 ∙ same

none_left : (keep : Row → Bool) (rows : List Row) → AllByRecursion (λ r. keep r ≡ true → ⊥) rows → filter keep rows ≡ []
none_left keep [] none = refl
none_left keep (r ∷ rows) none = dropped (keep r) none.0 (none_left keep rows none.1)
  where
    dropped : (b : Bool) → (b ≡ true → ⊥) → filter keep rows ≡ [] → cond b (r ∷ filter keep rows) (filter keep rows) ≡ []
    dropped true never rest = absurd (never refl)
    dropped false never rest = rest

-- the rowids that all rows show are those of all rows
pub emptied : (rows shown : List Row) → IsPermutation (map (λ r. column r 0 ∷ []) rows) shown → All HasNumber rows
    → without_all rows (ids_of shown) ≡ []
emptied rows shown same numbered =
    let f : Row → Row = λ r. column r 0 ∷ [] in
    let out : All (λ r. stays_by (ids_of shown) r ≡ true → ⊥) rows = λ k d below stays.
    let r = get_or rows k d in
    let none : Row → Type 0 = λ s. has_rowid (id_in (rowid s)) r ≡ false in
    let all = All-permutation none shown (map f rows) (IsPermutation-sym _ _ same)
    (All-from_recursion none shown (stays_from r shown stays)) in
    let long : k < length (map f rows) = subst (λ n. k < n) (sym (length-map rows f)) below in
    let here = subst none (get_or-map f rows k d) (all k (f d) long) in
    true≢false (sym (own_rowid r (numbered k d below)) ∙ here) in
    without_all-filter (ids_of shown) rows
    ∙ none_left (stays_by (ids_of shown)) rows (recursion_from_All (λ r. stays_by (ids_of shown) r ≡ true → ⊥) rows out)

-- ---- the statement

-- the table has no rows any more
pub record Clears (tree : ℕ) (old new : State) : Type 0 where
  pub goes : Goes tree old new
  pub empty : new.now.trees tree ≡ []

pub clears : (table : Table) {sql : List ℕ} {old new : State} {at : ℕ}
    → Means sql (Delete at (record { lets = []; body = table_query table.tree (col 1 0 ∷ []) [] })) old.now.schema
    → slice_get old.now.schema.tables at ≡ Some table
    → ((keys : Keys) (olds : List Row) → works old.now.schema keys 0 table.tree olds [] ≡ [])
    → All HasNumber (old.now.trees table.tree) → Ran sql [] old new → Clears table.tree old new
clears table {sql} {old} {new} {at} means found nothing numbered ran =
    let h = ran.executes in
    let schema = old.now.schema in
    let trees = old.now.trees in
    let keys = (mode_of old).keys in
    let q : Program = record { lets = []; body = table_query table.tree (col 1 0 ∷ []) [] } in
    let w = runs_as sql [] old new schema refl (Delete at q) means.is means.plain ran.count h.0 in
    let task : Task = record { limit = old.step_limit; keys = keys; schema = schema; table = table; params = [] } in
    let d = delete_goes task (mode_of old) trees at q w.tally new.now (rw found at w.changed) in
    let rows = d.0 in
    let listed = answer_lists table.tree (col 1 0 ∷ []) [] (λ r. column r 0 ∷ []) (λ r s. Equal) (in_any table.tree) trees rows
    (d.1.answer Null) in
    let edit : Edit = record { table = table; gone = ids_of rows; news = [] } in
    let applied = one_step schema keys trees new.now.trees edit (nothing keys (taken_by trees edit)) d.3 in
    record {
      goes = record { continues = record { was = ran.was; shows = h.1; sound = w.sound }; schema = d.2; others = applied.tables };
      empty = applied.rows ∙ emptied (trees table.tree) rows listed.same numbered;
    }
