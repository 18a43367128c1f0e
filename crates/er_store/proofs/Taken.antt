-- No table can be made if its name is taken.
use Rattle.er_store.proofs.Prelude.{◌≡◌, ℕ, Bool, true, false, List, [], Option, Some, None, Ok, Err, Schema, State, Ran, Row, refl, sym}
use Rattle.er_store.proofs.Prelude.{◌∙◌, true≢false, understood, everything, if◌then◌else◌}
use Rattle.std.specs.{Prelude.{◌||◌, is_some, codes}, Option.option_or, Fmt.digits}
use Rattle.sqlite_ast.specs.declared.CreateTable.{CreateTable}
use Rattle.sqlite_ast.specs.declared.Statement.TheVariants as written
use Rattle.sqlite_syntax.specs.declared.statement.Parsed.{Parsed}
use Rattle.sqlite_schema.specs.Names.{table_named, index_named, view_named}
use Rattle.sqlite_resolve.specs.{declared.error.CompileError.CompileError, Lowering.{Checked, and_then}}
use Rattle.sqlite_resolve.specs.declared.error.CompileError.TheVariants.{Misuse, Exists, Unsupported}
use Rattle.sqlite_resolve.specs.Compile.{create_table, creates, is_attached, is_reserved, first, planned, meaning, returning, command}
use Rattle.sqlite_resolve.specs.Compile.{compiled}
use Rattle.sqlite_catalog.specs.Change.{is_used}
use Rattle.sqlite.specs.{Listing.misses_table, State.ExecutesIn}
use Rattle.er_store.specs.{Tables.create_player2, Migrated.IsTaken}

-- the statement is refused, and not because a table is missing
pub record IsRefused {X : Type 0} (c : Checked X) : Type 0 where
  pub why : CompileError
  pub is : c ≡ Err why
  pub named : misses_table (Err why) ≡ false

-- by what the name was found to be
refused : {X : Type 0} (attached reserved missing : Bool) (table view index : Option ℕ) (goes : Bool → Checked X) → missing ≡ false
    → (is_some table || is_some index || is_some view) ≡ true
    → IsRefused (if attached then Err Unsupported else and_then (if reserved then Err Misuse else (if is_some index then Err Exists
    else (if is_some (option_or table view) then (if missing then Ok false else Err Exists) else Ok true))) goes)
refused true reserved missing table view index goes not used = record { why = Unsupported; is = refl; named = refl }
refused false true missing table view index goes not used = record { why = Misuse; is = refl; named = refl }
refused false false missing table view (Some at) goes not used = record { why = Exists; is = refl; named = refl }
refused false false true table view None goes not used = absurd (true≢false not)
refused false false false (Some at) view None goes not used = record { why = Exists; is = refl; named = refl }
refused false false false None (Some at) None goes not used = record { why = Exists; is = refl; named = refl }
refused false false false None None None goes not used = absurd (true≢false (sym used))

create_refused : (schema : Schema) (formats : List (List ℕ)) (def : CreateTable) → def.if_missing ≡ false → is_used schema def.name ≡ true
    → IsRefused (create_table schema formats def)
unfolding create_table creates
create_refused schema formats def not used = refused (is_attached schema def.name) (is_reserved def.name) def.if_missing
    (table_named schema def.name) (view_named schema def.name) (index_named schema def.name) _ not used

planned_refused : (schema : Schema) (p : Parsed) (def : CreateTable) → p.statement ≡ written.CreateTable def → def.if_missing ≡ false
    → is_used schema def.name ≡ true → IsRefused (planned schema p)
unfolding planned meaning returning command
planned_refused schema p def is not used =
    let it = create_refused schema p.formats def not used in
    record { why = it.why; is = rw (is, it.is) refl; named = it.named }

pub compiled_refused : (schema : Schema) (sql : List ℕ) (p : Parsed) (def : CreateTable) → first sql ≡ Ok p
    → p.statement ≡ written.CreateTable def
    → def.if_missing ≡ false → is_used schema def.name ≡ true → IsRefused (compiled schema sql)
unfolding compiled
compiled_refused schema sql p def reads is not used =
    let it = planned_refused schema p def is not used in
    record { why = it.why; is = rw (reads, it.is) refl; named = it.named }

understood_refused : (schema : Schema) (sql : List ℕ) → IsRefused (compiled schema sql) → (why : CompileError)
    × (understood schema sql ≡ Err why)
unfolding understood
understood_refused schema sql it = (it.why, rw (it.is, it.named) refl)

-- so a statement that is refused can't have gone well
pub never_ran : (sql : List ℕ) (params : Row) (old new : State) → IsRefused (compiled old.now.schema sql) → Ran sql params old new → ⊥
unfolding ExecutesIn
never_ran sql params old new refused ran =
    let it = understood_refused old.now.schema sql refused in
    let c = ran.executes.0 in
    let both : Err it.0 ≡ Ok c.0 = sym it.1 ∙ c.1.is in
    cc

-- as the one that makes `player2`
player2_refused : (schema : Schema) → is_used schema (codes "player2") ≡ true → IsRefused (compiled schema create_player2)
unfolding everything digits
player2_refused schema used = compiled_refused schema create_player2 _ _ refl refl refl used

pub not_made : (old new : State) → IsTaken old.now → Ran create_player2 [] old new → ⊥
not_made old new used = never_ran create_player2 [] old new (player2_refused old.now.schema used)
