-- What a read leaves, why it is refused, and rows as typed rows.
use Rattle.er_store.proofs.Prelude.{arith, common_steps, ◌≡◌, ◌⊎◌, inl, inr, ℕ, List, Result, Ok, Err, IfErr, IsErrAnd, refl, sym, ap}
use Rattle.er_store.proofs.Prelude.{subst, ◌∙◌, Database, State, IsUnchanged, Row, Error, Place, EventValue, HasTables, Represents}
use Rattle.er_store.proofs.Prelude.{out_of_memory, IsReadRefused, KeepsTables, IsFault, reading_refusal, IsNotRun, Bool, true, false, []}
use Rattle.er_store.proofs.Prelude.{is_ok, IsOk, true≢false, Schema, CompileError, understood, ◌≢◌, ◌<◌, zero, suc, ◌∷◌, map, length}
use Rattle.er_store.proofs.Prelude.{get_or, not-suc-le-zero, AreKeyed, RepresentsIn, RepresentsAt, Layout}
use Rattle.er_store.specs.Loading.{HoldsEvent}
use Rattle.std.proofs.Common.{OnOk, OnErr, IsErr}
use Rattle.sqlite.specs.declared.error.Error.TheVariants.{SqlInputError, MultipleStatement}

-- ---- what the four reads of a load give together

-- a read of tables that stand is never refused as damage
pub read_fault : (table : Place) (old new : State) (e : Error) → (e ≡ out_of_memory) ⊎ IsReadRefused old new e
    → IsFault (reading_refusal table e)
read_fault table old new e (inl memory) = inl (ap (reading_refusal table) memory)
read_fault table old new e (inr (inl fails)) = grind (arith, common_steps)
read_fault table old new e (inr (inr stopped)) = inr (ap (reading_refusal table) stopped.0)

-- ---- what a read leaves

pub kept_tables : (version : ℕ) (old new : State) → IsUnchanged old new → HasTables version old.now.schema
    → HasTables version new.now.schema
kept_tables version old new same = subst (λ (d : Database). HasTables version d.schema) (sym same.0.now_is)

pub kept_represents : (old new : State) (e : EventValue) (s : ℕ) → IsUnchanged old new → Represents old.now e s → Represents new.now e s
kept_represents old new e s same = subst (λ (d : Database). Represents d e s) (sym same.0.now_is)

pub unchanged_keeps : (old new : State) → IsUnchanged old new → KeepsTables old new
unchanged_keeps old new same settled is_open = (same.0.now_is, same.0.committed_is ∙ sym settled)

pub refused_keeps : (old new : State) (e : Error) → IsReadRefused old new e → KeepsTables old new
refused_keeps old new e (inl fails) settled is_open = grind (arith, common_steps)
refused_keeps old new e (inr stopped) settled is_open = unchanged_keeps old new stopped.2 settled is_open

pub then_keeps : (old mid new : State) → IsUnchanged old mid → KeepsTables mid new → KeepsTables old new
then_keeps old mid new same keeps settled is_open = grind (arith, common_steps)

-- and so does what is not run
pub not_run_keeps : (old new : State) (sql : List ℕ) (params : Row) (e : Error) → IsNotRun old new sql params e → KeepsTables old new
unfolding IsNotRun
not_run_keeps old new sql params e (inl none) = unchanged_keeps old new none.1
not_run_keeps old new sql params e (inr fails) = refused_keeps old new e (inl fails)

pub all_ok : {A E : Type 0} {P : Type 0} (r : Result A E) → P → OnOk r P
all_ok (Ok a) p = p
all_ok (Err e) p = tt

-- what can't have gone well was refused
pub fails : {A E : Type 0} {P : Type 0} (r : Result A E) → OnOk r P → (P → ⊥) → IsErr r
fails (Ok a) p never = absurd (never p)
fails (Err e) p never = refl

pub all_err : {A E : Type 0} {P : Type 0} (r : Result A E) → P → OnErr r P
all_err (Ok a) p = tt
all_err (Err e) p = p

-- what is told of the error that is passed on
pub told : {A E : Type 0} (r : Result A E) (e : E) (P : E → Type 0) → IsErrAnd r (λ x. x ≡ e) → P e → IfErr r P
told (Ok a) e P is p = tt
told (Err x) e P is p = subst P (sym is) p

-- tables that hold an event represent it, if the rowids are numbers and rise
pub represents_where : {v : ℕ} {db : Database} {e : EventValue} {s : ℕ} → HoldsEvent v db e s → AreKeyed v db → RepresentsIn v db e s
represents_where it keyed = record {
  layout = it.layout;
  is = it.is;
  represents = record {
    low = it.holds.low;
    keeps = it.holds.keeps;
    has = record { tables = it.tables; rows = it.holds.rows; keyed = keyed it.layout it.is it.tables };
  };
}

pub in_version : {l : Layout} {db : Database} {e : EventValue} {s : ℕ} → RepresentsAt l db e s → RepresentsIn l.version db e s
in_version {l} represents = record { layout = l; is = refl; represents = represents }

-- ---- what a look for the event's table tells

is_input : Error → Bool
is_input (SqlInputError fault) = true
is_input _ = false

input_is_no : (fault : CompileError) (e : Error) → is_input e ≡ false → SqlInputError fault ≡ e → ⊥
unfolding is_input
input_is_no fault e other same = true≢false (ap is_input same ∙ other)

-- a text that isn't a statement
pub not_understood : (old new : State) (sql : List ℕ) (fault : CompileError) → IsNotRun old new sql [] (SqlInputError fault)
    → (IsOk (understood old.now.schema sql) → ⊥) × IsUnchanged old new
unfolding IsNotRun is_input
not_understood old new sql fault (inl (inl (f, is, same), unchanged)) = (λ ok. true≢false (sym ok ∙ ap is_ok is), unchanged)
not_understood old new sql fault (inl (inr (c, is, inl (long, same)), unchanged)) = absurd (input_is_no fault MultipleStatement refl same)
not_understood old new sql fault (inl (inr (c, is, inr (inl (counts, same))), unchanged)) = absurd (input_is_no fault _ refl same)
not_understood old new sql fault (inl (inr (c, is, inr (inr (timed, same))), unchanged)) = absurd (input_is_no fault _ refl same)
not_understood old new sql fault (inr (cause, same, has, rolled, tells)) = grind (arith, common_steps)

pub schema_kept : (old new : State) (schema : Schema) → IsUnchanged old new → old.now.schema ≡ schema → new.now.schema ≡ schema
schema_kept old new schema unchanged is = ap (λ (d : Database). d.schema) unchanged.0.now_is ∙ is

-- ---- rows as typed rows

module _ {T : Type 0} (columns : T → Row) where
  -- the typed row of one of the rows
  at_place : (typed : List T) (at : ℕ) (row : Row) → at < length (map columns typed)
      → (r : T) × (get_or (map columns typed) at row ≡ columns r)
  at_place [] at row below = absurd (not-suc-le-zero below)
  at_place (t ∷ ts) zero row below = (t, refl)
  at_place (t ∷ ts) (suc at) row below = at_place ts at row (omega arith)

  -- if one row is refused, the rows are not those of lawful ones
  pub not_typed : (rows : List Row) (at : ℕ) (row : Row) (e : Error) → at < length rows → row ≡ get_or rows at row
      → (e ≢ out_of_memory → (r : T) → row ≢ columns r) → e ≢ out_of_memory → (typed : List T) → rows ≢ map columns typed
  not_typed rows at row e below is refused unless typed are =
      let it = at_place typed at row (subst (λ (all : List Row). at < length all) are below) in
      refused unless it.0 (is ∙ ap (λ (all : List Row). get_or all at row) are ∙ it.1)
