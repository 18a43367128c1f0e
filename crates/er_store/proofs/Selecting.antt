-- A SELECT changes nothing, whatever the schema is, and its rows may be read one at a time.
use Rattle.er_store.proofs.Prelude.{arith, common_steps, ◌≡◌, inl, inr, ℕ, List, true, Ok, Err, None, refl, sym, ap, subst, Command}
use Rattle.er_store.proofs.Prelude.{Compiled, first, Schema, Row, Error, timed, State, Survives, ShowsRows, IsUnchanged, KeepsTables}
use Rattle.er_store.proofs.Prelude.{begins_select, read_event, read_players, read_pairings, read_bracket, read_tallies}
use Rattle.er_store.proofs.Prelude.{read_slip, understood, listing_schema, CommitsShowing, Shown, FailsToQuery, IsNotRun, everything}
use Rattle.er_store.proofs.Prelude.{read_players2, read_slip2, read_slip_of, Bool, false, ◌==◌, if◌then◌else◌, [], ◌∷◌, ◌++◌, map, Result}
use Rattle.er_store.proofs.Prelude.{HasGiven, Held, state, Query, Trees, command_of, Ghosts, CompileError, IsReadRefused, Selects}
use Rattle.er_store.specs.Tables.{read_meetings}
use Rattle.sqlite_ast.specs.declared.Statement.{Statement}
use Rattle.sqlite_syntax.specs.declared.statement.Parsed.{Parsed}
use Rattle.sqlite_resolve.specs.{Compile.{planned, meaning, returning, compiled, with_command}, Lowering.{Checked, and_then}}
use Rattle.sqlite.specs.{Listing.if_select, Given.{Returns, HasBegun}}
use Rattle.sqlite.proofs.{StateLemmas.survives_weaker, Callers.{begins_shown, given_begin}}
use Rattle.er_store.specs.inside.Lookup.{is_select_by}
use Rattle.er_store.proofs.LoadLemmas.{unchanged_keeps, refused_keeps}
use Rattle.sqlite_ast.specs.declared.Statement.TheVariants as written

-- ---- a SELECT changes nothing, whatever the schema is

-- each statement that reads begins with SELECT
pub record AreSelects : Type 0 where
  pub event : begins_select (first read_event) ≡ true
  pub players : begins_select (first read_players) ≡ true
  pub players2 : begins_select (first read_players2) ≡ true
  pub pairings : begins_select (first read_pairings) ≡ true
  pub bracket : begins_select (first read_bracket) ≡ true
  pub tallies : begins_select (first read_tallies) ≡ true
  pub meetings : begins_select (first read_meetings) ≡ true
  pub slip : begins_select (first read_slip) ≡ true
  pub slip2 : begins_select (first read_slip2) ≡ true

pub selects : AreSelects
unfolding understood everything
selects = record {
  event = refl;
  players = refl;
  players2 = refl;
  pairings = refl;
  bracket = refl;
  tallies = refl;
  meetings = refl;
  slip = refl;
  slip2 = refl;
}

-- of either version
pub slip_selects : (version : ℕ) → begins_select (first (read_slip_of version)) ≡ true
slip_selects version = by_version (version == 2)
  where
    by_version : (b : Bool) → begins_select (first (if b then read_slip2 else read_slip)) ≡ true
    by_version true = selects.slip2
    by_version false = selects.slip

taken : (r : Checked Command) (p : Parsed) (formats : List (List ℕ)) (c : Compiled)
    → and_then (and_then (and_then r (λ k. Ok (k, None))) (λ found. Ok (formats, found))) (λ plan. Ok (with_command p plan)) ≡ Ok c
    → c.returning ≡ None
taken (Ok k) p formats c h = let same : with_command p (formats, (k, None)) ≡ c = cc in ap (λ (x : Compiled). x.returning) (sym same)
taken (Err e) p formats c h = absurd (cc)

planned_select : (schema : Schema) (p : Parsed) (c : Compiled) (s : Statement) → p.statement ≡ s → is_select_by s ≡ true
    → and_then (planned schema p) (λ plan. Ok (with_command p plan)) ≡ Ok c → c.returning ≡ None
unfolding planned meaning returning
planned_select schema p c (written.Select s) same is h = taken _ p _ c (rw same at h)
planned_select schema p c _ same is h = absurd (cc)

compiled_select : (schema : Schema) (sql : List ℕ) (c : Compiled) → begins_select (first sql) ≡ true → compiled schema sql ≡ Ok c
    → c.returning ≡ None
unfolding compiled
compiled_select schema sql c is h = grind (arith, common_steps, and_then, begins_select, planned_select, with_command)

listed_select : (r : Checked Compiled) (c : Compiled) → if_select r ≡ Ok c → r ≡ Ok c
listed_select (Ok k) c h = grind (arith, common_steps)
listed_select (Err e) c h = absurd (cc)

-- whatever the schema is, it shows no row that is written
pub never_returns : (schema : Schema) (sql : List ℕ) (c : Compiled) → begins_select (first sql) ≡ true → understood schema sql ≡ Ok c
    → c.returning ≡ None
unfolding understood
never_returns schema sql c is h = grind (arith, common_steps, compiled_select, if_select, listed_select, listing_schema)

pub commits_nothing : (sql : List ℕ) (params : Row) {old new : State} → begins_select (first sql) ≡ true
    → Survives old new (CommitsShowing sql params old) → Survives old new (λ _. ⊥)
unfolding CommitsShowing
commits_nothing sql params {old} {new} is =
    survives_weaker old new _ _ (λ _ db h. absurd (let none = rw (never_returns old.now.schema sql h.0 is h.1.is) at h.2 in cc))

-- a read changes no table, in success or refusal
pub shows_unchanged : (sql : List ℕ) (params : Row) {old new : State} (rows : List Row) → begins_select (first sql) ≡ true
    → Shown sql params old new rows → IsUnchanged old new
unfolding Shown
shows_unchanged sql params {old} {new} rows is h =
    (subst (ShowsRows old new sql h.0 (timed params h.0.formats h.1.now) rows) (never_returns old.now.schema sql h.0 is h.1.is) h.2).3

pub fails_keeping : (sql : List ℕ) (params : Row) (old new : State) (e : Error) → begins_select (first sql) ≡ true
    → FailsToQuery sql params old new e → KeepsTables old new
unfolding FailsToQuery IsNotRun
fails_keeping sql params old new e is (inl (inl none)) = unchanged_keeps old new none.1
fails_keeping sql params old new e is (inl (inr fails)) = refused_keeps old new e (inl fails)
fails_keeping sql params old new e is (inr (c, s, shows)) = grind (arith, common_steps)

-- ---- the query begins

shows-none : (sql : List ℕ) (schema : Schema) → begins_select (first sql) ≡ true → (r : Result Compiled CompileError)
    → understood schema sql ≡ r → Returns r → ⊥
shows-none sql schema select (Ok c) is some = let none = never_returns schema sql c select is in absurd (let both = rw none at some in cc)
shows-none sql schema select (Err e) is some = absurd some

pub begun-select : {S : Type 0} (g : Ghosts S) (sql : List ℕ) (params : Row) (old new : Held S) → begins_select (first sql) ≡ true
    → HasBegun g sql params old new → HasGiven g sql params new [] × IsUnchanged (state g old) (state g new)
begun-select g sql params old new select (inl begun) = begun
begun-select g sql params old new select (inr shown) = absurd (shows-none sql old.schema select (understood old.schema sql) refl shown.0)

-- ---- a row of the answer

pub row-among : {T : Type 0} (columns : T → Row) (given tail : List Row) (row : Row) (all : List T)
    → (given ++ row ∷ []) ++ tail ≡ map columns all → (r : T) × (row ≡ columns r)
row-among columns [] tail row [] same = absurd (cc)
row-among columns [] tail row (r ∷ all) same = let here : row ≡ columns r = cc in (r, here)
row-among columns (x ∷ given) tail row [] same = absurd (cc)
row-among columns (x ∷ given) tail row (r ∷ all) same = let rest : (given ++ row ∷ []) ++ tail ≡ map columns all = cc in
    row-among columns given tail row all rest

-- the rows so far begin an answer, as the statement has no recursion
pub given-shown : {S : Type 0} (g : Ghosts S) (sql : List ℕ) (q : Query) (now : Held S) (given : List Row) → Selects sql q now.schema
    → IsUnchanged (state g now) (state g now) → HasGiven g sql [] now given
    → (tail : List Row) × Shown sql [] (state g now) (state g now) (given ++ tail)
given-shown g sql q now given it same has = grind (arith, common_steps, begins_shown, command_of, given_begin)

-- ---- a refusal after an unchanged start

pub unchanged-refl : (a b : State) → IsUnchanged a b → IsUnchanged b b
unchanged-refl a b same = grind (arith, common_steps)

pub refused-after : (a b c : State) (P : Trees → Type 0) (e : Error) → IsUnchanged a b → Survives a b P → IsReadRefused b c e
    → IsReadRefused a c e
refused-after a b c P e same survives (inl fails) = grind (arith, common_steps)
refused-after a b c P e same survives (inr stopped) = grind (arith, common_steps)
