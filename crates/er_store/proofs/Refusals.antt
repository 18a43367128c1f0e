-- Why a read of the tables is refused, and what that says of the file.
use Rattle.er_store.proofs.Prelude.{arith, common_steps, ◌≡◌, inl, inr, ℕ, List, [], length, sym, ap, subst, ◌∙◌, refl, Row, Query}
use Rattle.er_store.proofs.Prelude.{IsAnswer, overlay, timed, Select, Trees, Error, SqliteFailure, Null, State, IsPlain, IsReadRefused}
use Rattle.er_store.proofs.Prelude.{TakesParameters, Selects, SelectsWith, table_query, understood, FailsToQuery, IsNotRun, Shown, ◌≢◌, ◌⊎◌}
use Rattle.er_store.proofs.Prelude.{map}
use Rattle.er_store.proofs.Prelude.{Bool, true, false, None, Option, true≢false, Database, Command, ShowsRows, first, Refusal, Memory}
use Rattle.er_store.proofs.Prelude.{Damaged, Place, Parts, TallyRow, out_of_memory, reading_refusal, IsRowFault, first_columns}
use Rattle.er_store.proofs.Prelude.{begins_select, Form, Term}
use Rattle.sqlite.specs.{Effect.RefusesToRead, declared.error.ErrorCode.TheVariants.OperationInterrupted, State.FailsToShow}
use Rattle.sqlite.specs.{State.{IsNoStatement, store_error}, Program.ProgramOverflows}
use Rattle.sqlite.proofs.Callers.{reads_as}
use Rattle.sqlite_trees.specs.{declared.error.StoreError.StoreError, declared.error.StoreError.TheVariants.OutOfMemory}
use Rattle.sqlite_schema.specs.declared.command.Command.TheVariants.{Rows}
use Rattle.er_store.proofs.{Meaning.{slip_query, meeting_query}, Selecting.never_returns}
use Rattle.er_store.specs.Damage.{Answered, IsUnread, IsRefused, IsMisreadAs, MayRead}
use Rattle.sqlite.specs.declared.error.ErrorCode.TheVariants as code

-- ---- why a read of the tables is refused

-- a text that is one statement, with as many parameters as are given, is a statement
is_statement : (old : State) (sql : List ℕ) (params : Row) (e : Error) → IsPlain (understood old.now.schema sql)
    → TakesParameters (length params) sql (understood old.now.schema sql) → ¬ IsNoStatement old sql params e
is_statement old sql params e plain takes (inl fault) = rw fault.1 at plain
is_statement old sql params e plain takes (inr (c, is, why)) = grind (arith, common_steps)

-- a query of one table sums nothing
sums_nothing : (trees : Trees) (tree : ℕ) (terms : List Term) (keys : List ℕ)
    → ¬ ProgramOverflows trees [] [] [] (table_query tree terms keys)
sums_nothing trees tree terms keys (inl sum) = sum
sums_nothing trees tree terms keys (inr fold) = fold.4

-- what is shown is an answer of the query
pub answers : {sql : List ℕ} {params : Row} {q : Query} (old new : State) {rows : List Row} → SelectsWith params sql q old.now.schema
    → Shown sql params old new rows → IsAnswer q (overlay old.now.trees []) params rows
answers {sql} {params} {q} old new {rows} it h =
    let command = Select (record { lets = []; body = q }) it.names in
    (reads_as sql params old new old.now.schema refl command it.is it.plain it.unlisted rows h).answer Null

module _ (q : Query) (params : Row) (sums : (trees : Trees) → ¬ ProgramOverflows trees params [] [] q) {sql : List ℕ} (old new : State)
    (e : Error) (it : SelectsWith params sql q old.now.schema) where
  -- by memory, the file or the device, or by the limit on steps
  pub query_refused : FailsToQuery sql params old new e → IsReadRefused old new e
  unfolding FailsToQuery IsNotRun
  query_refused (inl (inl no_statement)) = absurd (is_statement old sql params e it.plain it.whole no_statement.0)
  query_refused (inl (inr fails)) = inl fails
  query_refused (inr (c, s, shows)) = grind (arith, common_steps)

pub read_refused : (tree : ℕ) (terms : List Term) (keys : List ℕ) {sql : List ℕ} (old new : State) (e : Error)
    → Selects sql (table_query tree terms keys) old.now.schema → FailsToQuery sql [] old new e → IsReadRefused old new e
read_refused tree terms keys old new e =
    query_refused (table_query tree terms keys) [] (λ trees. sums_nothing trees tree terms keys) old new e

-- nor does that of a slip
slip_sums : (pairings players : ℕ) (params : Row) (trees : Trees) → ¬ ProgramOverflows trees params [] [] (slip_query pairings players)
slip_sums pairings players params trees (inl sum) = sum
slip_sums pairings players params trees (inr fold) = fold.4.4.4

pub slip_refused : (pairings players : ℕ) (params : Row) {sql : List ℕ} (old new : State) (e : Error)
    → SelectsWith params sql (slip_query pairings players) old.now.schema → FailsToQuery sql params old new e → IsReadRefused old new e
slip_refused pairings players params old new e =
    query_refused (slip_query pairings players) params (slip_sums pairings players params) old new e

-- nor that of the meetings
meeting_sums : (pairings totals : ℕ) (trees : Trees) → ¬ ProgramOverflows trees [] [] [] (meeting_query pairings totals)
meeting_sums pairings totals trees (inl sum) = sum
meeting_sums pairings totals trees (inr fold) = fold.4.4.4

pub meetings_refused : (pairings totals : ℕ) {sql : List ℕ} (old new : State) (e : Error)
    → Selects sql (meeting_query pairings totals) old.now.schema → FailsToQuery sql [] old new e → IsReadRefused old new e
meetings_refused pairings totals old new e = query_refused (meeting_query pairings totals) [] (meeting_sums pairings totals) old new e

-- ---- what a refusal of a read says of the file, whatever its schema is

-- the table that is named is the one that was read
pub damaged_place : (place : Place) (e : Error) (at : Place) → reading_refusal place e ≡ Damaged at → at ≡ place
damaged_place place (SqliteFailure code.OutOfMemory) at h = cc
damaged_place place _ at h = cc

is_damage : Refusal → Bool
is_damage (Damaged table) = true
is_damage _ = false

module _ (place at : Place) where
  never : (e f : Error) → e ≡ f → is_damage (reading_refusal place f) ≡ false → reading_refusal place e ≡ Damaged at → ⊥
  unfolding is_damage
  never e f same not_so h = true≢false (sym (ap is_damage h) ∙ (ap (λ x. is_damage (reading_refusal place x)) same ∙ not_so))

  store_never : (e : Error) (cause : StoreError) → e ≡ store_error cause → reading_refusal place e ≡ Damaged at → ⊥
  unfolding is_damage
  store_never e OutOfMemory same h = never e _ same refl h
  store_never e _ same h = never e _ same refl h

  pub memory_never : (e : Error) → reading_refusal place e ≡ Damaged at → e ≢ out_of_memory
  unfolding is_damage
  memory_never e h same = never e out_of_memory same refl h

  -- no limit on steps is met
  unlimited : (limit : Option ℕ) (command : Command) (db : Database) (params : Row) (e : Error) → RefusesToRead limit command db params e
      → reading_refusal place e ≡ Damaged at → RefusesToRead None command db params e
  unfolding is_damage
  unlimited limit (Select q names) db params e (inl kind) h = inl kind
  unlimited limit (Select q names) db params e (inr (inl big)) h = inr (inl big)
  unlimited limit (Select q names) db params e (inr (inr stopped)) h = grind (arith, common_steps)
  unlimited limit (Rows values width names) db params e stopped h = absurd (never e (SqliteFailure OperationInterrupted) stopped.0 refl h)
  unlimited limit _ db params e same h = same

  -- a refusal that means damage is of the statement
  pub refused_damage : (sql : List ℕ) (old new : State) (e : Error) → begins_select (first sql) ≡ true → FailsToQuery sql [] old new e
      → reading_refusal place e ≡ Damaged at → IsUnread old.now sql ⊎ IsRefused old.now sql
  unfolding FailsToQuery IsNotRun
  refused_damage sql old new e is (inl (inl (inl (fault, no_text, same), same_state))) h = inl (inl (fault, no_text))
  refused_damage sql old new e is (inl (inl (inr (c, text, inl (long, same)), same_state))) h = inl (inr (c, text, inl long))
  refused_damage sql old new e is (inl (inl (inr (c, text, inr (inl (counts, same))), same_state))) h = grind (arith, common_steps)
  refused_damage sql old new e is (inl (inl (inr (c, text, inr (inr (clock, same))), same_state))) h = inl (inr (c, text, inr (inr clock)))
  refused_damage sql old new e is (inl (inr fails)) h = absurd (store_never e fails.0 fails.1 h)
  refused_damage sql old new e is (inr (c, s, shows)) h =
      let failed = subst (FailsToShow old new sql c (timed [] c.formats s.now) e) (never_returns old.now.schema sql c is s.is) shows in
      inr (record {
        compiled = c;
        is = s.is;
        now = s.now;
        source = failed.0;
        from = failed.1;
        error = e;
        refuses = unlimited old.step_limit c.command failed.0 (timed [] c.formats s.now) e failed.2 h;
      })

-- and the rows that a read shows are an answer
pub shown_answers : (sql : List ℕ) (old new : State) (rows : List Row) → begins_select (first sql) ≡ true → Shown sql [] old new rows
    → Answered old.now sql rows
unfolding Shown
shown_answers sql old new rows is h =
    let read = subst (ShowsRows old new sql h.0 (timed [] h.0.formats h.1.now) rows) (never_returns old.now.schema sql h.0 is h.1.is) h.2 in
    record { compiled = h.0; is = h.1.is; now = h.1.now; source = read.0; from = read.1; reads = read.2 }

-- ---- what the typed rows of a read say

module _ {R : Type 0} (form : Form R) (sql : List ℕ) (old new : State) (rows given : List Row)
    (is : begins_select (first sql) ≡ true) (same : given ≡ rows) (shown : Shown sql [] old new rows) where
  pub may_read : (typed : List R) → map form.columns typed ≡ map (first_columns form.width) given → MayRead form sql old.now typed
  may_read typed are = (rows, shown_answers sql old new rows is shown, are ∙ ap (map (first_columns form.width)) same)

  pub has_wrong_kind : (place at : Place) (e : Error)
      → (e ≢ out_of_memory → (typed : List R) → given ≢ map form.columns typed)
      → reading_refusal place e ≡ Damaged at → IsMisreadAs form sql old.now
  has_wrong_kind place at e refused h = grind (arith, common_steps, memory_never, shown_answers)

-- ---- the first table at fault

-- they were all read, and their rows are checked
pub first_of : (parts : Parts) (rows given : List TallyRow) → given ≡ rows → (why : Refusal)
    → (why ≡ Memory) ⊎ ((place : Place) × (why ≡ Damaged place) × IsRowFault parts given place)
    → (place : Place) → why ≡ Damaged place → IsRowFault parts rows place
first_of parts rows given same why (inl memory) place h = absurd (cc)
first_of parts rows given same why (inr (at, is, fault)) place h = grind (arith, common_steps)
