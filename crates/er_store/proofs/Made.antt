-- What a text that defines a table makes of any schema.
use Rattle.er_store.proofs.Prelude.{◌≡◌, inl, inr, ℕ, Bool, true, false, List, [], ◌∷◌, ◌++◌, length, not, ◌&&◌, ◌||◌, ◌==◌, arith}
use Rattle.er_store.proofs.Prelude.{Option, Some, None, Ok, refl, sym, ap, subst, ◌∙◌, true≢false, AllByRecursion, Schema, Table}
use Rattle.er_store.proofs.Prelude.{Database, State, Ran, IsPlain, command_of, runs_as, understood, everything, event, player, player2}
use Rattle.er_store.proofs.Prelude.{pairing, bracket, tally}
use Rattle.std.proofs.lemmas.List.{append_assoc}
use Rattle.std.specs.{Fmt.digits, Option.option_or, Prelude.{codes, is_some, slice_range, MatchBool}}
use Rattle.sqlite_ast.specs.declared.CreateTable.{CreateTable}
use Rattle.sqlite_ast.specs.declared.Statement.TheVariants as written
use Rattle.sqlite_syntax.specs.declared.statement.Parsed.{Parsed}
use Rattle.sqlite_schema.specs.declared.command.Command.TheVariants.{CreateTable as MakeTable}
use Rattle.sqlite_schema.specs.Names.{table_named, index_named, view_named}
use Rattle.sqlite_resolve.specs.Compile.{create_table, creates, is_attached, is_reserved, first, planned, meaning, returning, command}
use Rattle.sqlite_resolve.specs.Compile.{compiled}
use Rattle.sqlite_resolve.specs.Compile.{timed, with_command, table_in, table_defined_by}
use Rattle.sqlite_resolve.specs.Define as define
use Rattle.sqlite_catalog.specs.{Calls.CreatesTable, Change.{is_used, next_tree}}
use Rattle.sqlite_catalog.proofs.StepLemmas.{table_below}
use Rattle.sqlite_rules.proofs.ListLemmas.{all_has, has_right, has_either}
use Rattle.sqlite_rules.specs.Lists.{Has}
use Rattle.sqlite_trees.proofs.ListLemmas.{all_both}
use Rattle.sqlite.proofs.Callers.{statement_of}
use Rattle.sqlite.specs.{Does.{sequence_text, lacks_sequence, Tally, MakesTable as Makes}, Rows.Gives}
use Rattle.er_store.proofs.{Taken.{compiled_refused, never_ran}, Writing.{went, same_value}}
use Rattle.er_store.specs.{Beside.{StandsFirst, KeepsFirst}, inside.Making.{Grows, MakesTable, IsBareAfter}}
use Rattle.er_store.specs.Tables.{create_event, create_player, create_player2, create_pairing, create_bracket, create_tally}

-- ---- a name that is free

none : {X : Type 0} (o : Option X) → is_some o ≡ false → o ≡ None
none None is = refl
none (Some x) is = absurd (true≢false is)

free_parts : (a b c : Bool) → (a || b || c) ≡ false → (a ≡ false) × (b ≡ false) × (c ≡ false)
free_parts false false false is = (refl, refl, refl)
free_parts false false true is = absurd (true≢false is)
free_parts false true c is = absurd (true≢false is)
free_parts true b c is = absurd (true≢false is)

pub record IsFree (schema : Schema) (name : List ℕ) : Type 0 where
  pub table : table_named schema name ≡ None
  pub index : index_named schema name ≡ None
  pub view : view_named schema name ≡ None

pub is_free : (schema : Schema) (name : List ℕ) → is_used schema name ≡ false → IsFree schema name
is_free schema name free =
    let parts = free_parts _ _ _ free in record { table = none _ parts.0; index = none _ parts.1; view = none _ parts.2 }

-- ---- what the text means if its name is free

-- a text that defines a table, with no IF NOT EXISTS
record Defines (sql : List ℕ) (p : Parsed) (def : CreateTable) (table : Table) : Type 0 where
  reads : first sql ≡ Ok p
  is : p.statement ≡ written.CreateTable def
  formats : p.formats ≡ []
  whole : slice_range sql p.start p.end ≡ sql
  always : def.if_missing ≡ false
  plain : is_reserved def.name ≡ false
  defined : define.table [] def ≡ Ok table
  named : table.name ≡ def.name
  suits : (length table.computed == length table.stamps.places && not def.resolves) ≡ true

-- the text makes a table of the schema
record IsMaking (sql : List ℕ) (schema : Schema) : Type 0 where
  command : command_of (understood schema sql) ≡ MakeTable
  text : statement_of sql (understood schema sql) ≡ sql
  plain : IsPlain (understood schema sql)

module _ {sql : List ℕ} {p : Parsed} {def : CreateTable} {table : Table} (d : Defines sql p def table) where
  defined_by : table_defined_by sql ≡ Ok table
  unfolding table_defined_by table_in
  defined_by = rw (d.reads, d.is, d.formats) d.defined

  module _ (schema : Schema) (free : is_used schema def.name ≡ false) where
    attached : is_attached schema def.name ≡ false
    unfolding is_attached
    attached = rw ((is_free schema def.name free).view)

    is_new : creates def.if_missing def.name (option_or (table_named schema def.name) (view_named schema def.name))
        (index_named schema def.name) ≡ Ok true
    unfolding creates
    is_new = let it = is_free schema def.name free in rw (it.table, it.index, it.view, d.plain)

    table_created : create_table schema [] def ≡ Ok MakeTable
    unfolding create_table
    table_created = rw (attached, is_new, d.defined, d.suits)

    text_compiled : compiled schema sql ≡ Ok (with_command p ([], (MakeTable, None)))
    unfolding compiled planned meaning returning command timed
    text_compiled = rw (d.reads, d.is, d.formats, table_created)

    making : IsMaking sql schema
    unfolding understood
    making = record { command = rw text_compiled; text = rw text_compiled d.whole; plain = rw text_compiled (refl, refl) }

-- ---- what is kept

pub all_front : {X : Type 0} (P : X → Type 0) (xs ys : List X) → AllByRecursion P (xs ++ ys) → AllByRecursion P xs
all_front P [] ys all = tt
all_front P (x ∷ xs) ys all = (all.0, all_front P xs ys all.1)

-- what stands first, one after another
unfoldable pub stands_then : {a b c : Schema} → StandsFirst a b → StandsFirst b c → StandsFirst a c
stands_then {a} {b} {c} p q = record {
  more = p.more ++ q.more;
  tables = q.tables ∙ ap (λ ts. ts ++ q.more) p.tables ∙ append_assoc a.tables p.more q.more;
  keys = p.keys ++ q.keys;
  indexes = q.indexes ∙ ap (λ is. is ++ q.keys) p.indexes ∙ append_assoc a.indexes p.keys q.keys;
  views = q.views ∙ p.views;
}

-- what is kept by one after another
unfoldable pub keeps_then : {a b c : Database} → KeepsFirst a b → KeepsFirst b c → KeepsFirst a c
unfolding stands_then
keeps_then {a} {b} {c} p q = record {
  first = stands_then p.first q.first;
  rows = all_both (λ t. b.trees t.tree ≡ a.trees t.tree) (λ t. c.trees t.tree ≡ b.trees t.tree) (λ t. c.trees t.tree ≡ a.trees t.tree)
      (λ t one two. two ∙ one) a.schema.tables p.rows
      (all_front _ a.schema.tables p.first.more (subst (AllByRecursion (λ t. c.trees t.tree ≡ b.trees t.tree)) p.first.tables q.rows));
}

one_more : {sql : List ℕ} {old new : Database} → CreatesTable old.schema sql old.trees new.schema new.trees → KeepsFirst old new
one_more {old = old} c =
    let made : Table = record c.table { tree = next_tree old.schema } in
    record {
      first = record {
        more = made ∷ [];
        tables = ap (λ (s : Schema). s.tables) c.is;
        keys = _;
        indexes = ap (λ (s : Schema). s.indexes) c.is;
        views = ap (λ (s : Schema). s.views) c.is;
      };
      rows = c.others;
    }

all_append : {X : Type 0} (P : X → Type 0) (xs ys : List X) → AllByRecursion P xs → AllByRecursion P ys → AllByRecursion P (xs ++ ys)
all_append P [] ys one two = two
all_append P (x ∷ xs) ys one two = (one.0, all_append P xs ys one.1 two)

-- ---- what is made

-- a table is the same at each tree
abbrev pub IsAnywhere : (ℕ → Table) → Type 0
IsAnywhere table = (tree : ℕ) → record (table 0) { tree = tree } ≡ table tree

-- if a table is made, it is listed
pub grown : {table : ℕ → Table} {a b : Database} → Grows table a b → Has b.schema.tables (table (next_tree a.schema))
grown {table} {a} g =
    let tree = next_tree a.schema in
    subst (λ ts. Has ts (table tree)) (sym (g.keeps.first.tables ∙ ap (λ ts. a.schema.tables ++ ts) g.behind))
    (has_right a.schema.tables (table tree ∷ g.rest) (table tree) (inl refl))

-- and stays if more is made
unfoldable pub grows_then : {table : ℕ → Table} {a b c : Database} → IsAnywhere table → Grows table a b → KeepsFirst b c → Grows table a c
unfolding keeps_then stands_then
grows_then {table} {a} {b} {c} anywhere g q =
    let tree = next_tree a.schema in
    let own : (table tree).tree ≡ tree = ap (λ (t : Table). t.tree) (sym (anywhere tree)) in
    let stays = subst (λ n. c.trees n ≡ b.trees n) own
    (all_has (λ t. c.trees t.tree ≡ b.trees t.tree) b.schema.tables (table tree) q.rows (grown g)) in
    record {
      keeps = keeps_then g.keeps q;
      rest = g.rest ++ q.first.more;
      behind = ap (λ ts. ts ++ q.first.more) g.behind;
      empty = stays ∙ g.empty;
    }

first_grows : {sql : List ℕ} {table : ℕ → Table} {old new : Database} → IsAnywhere table → table_defined_by sql ≡ Ok (table 0)
    → CreatesTable old.schema sql old.trees new.schema new.trees → Grows table old new
unfolding one_more
first_grows {sql} {table} {old} {new} anywhere defined c =
    let both : Ok c.table ≡ Ok (table 0) = sym c.defined ∙ defined in
    let same : c.table ≡ table 0 = cc in
    let tree = next_tree old.schema in
    record {
      keeps = one_more {sql = sql} {old = old} {new = new} c;
      rest = [];
      behind = ap (λ (t : Table). (let u : Table = record t { tree = tree } in u) ∷ []) same ∙ ap (λ t. t ∷ []) (anywhere tree);
      empty = c.empty;
    }

-- ---- and nothing else

-- a table of this name, or SQLite's own of counts
abbrev IsNamed : List ℕ → Table → Type 0
IsNamed name made = Has (name ∷ codes "sqlite_sequence" ∷ []) made.name

-- the table comes, and no other but SQLite's own of counts
record Adds (table : ℕ → Table) (old new : Database) : Type 0 where
  grows : Grows table old new
  just : (made : Table) → Has grows.keeps.first.more made → IsNamed (table 0).name made
  others : AllByRecursion (IsBareAfter (next_tree old.schema)) grows.rest

name_in : Table → List ℕ
name_in table = table.name

first_adds : {sql : List ℕ} {table : ℕ → Table} {old new : Database} → IsAnywhere table → table_defined_by sql ≡ Ok (table 0)
    → CreatesTable old.schema sql old.trees new.schema new.trees → Adds table old new
unfolding first_grows one_more name_in
first_adds {sql} {table} {old} {new} anywhere defined c =
    let both : Ok c.table ≡ Ok (table 0) = sym c.defined ∙ defined in
    let same : c.table ≡ table 0 = cc in
    record {
      grows = first_grows {sql = sql} {table = table} {old = old} {new = new} anywhere defined c;
      just = λ made has. elim has [ inl is ↦ inl (ap name_in is ∙ ap name_in same) | inr none ↦ absurd none ];
      others = tt;
    }

defined_from : (sql : List ℕ) (p : Parsed) (def : CreateTable) (table : Table) → first sql ≡ Ok p → p.statement ≡ written.CreateTable def
    → p.formats ≡ [] → define.table [] def ≡ Ok table → table_defined_by sql ≡ Ok table
unfolding table_defined_by table_in
defined_from sql p def table reads is formats defined = rw (reads, is, formats) defined

sequence_defined : (table : Table) × (table_defined_by sequence_text ≡ Ok table) × (table.name ≡ codes "sqlite_sequence")
    × (table.references ≡ [])
unfolding everything digits
sequence_defined = (_, defined_from sequence_text _ _ _ refl refl refl refl, refl, refl)

-- it has that name, and no foreign key
sequence_is : {old new : Database} → (c : CreatesTable old.schema sequence_text old.trees new.schema new.trees)
    → (c.table.name ≡ codes "sqlite_sequence") × (c.table.references ≡ [])
unfolding name_in
sequence_is c =
    let both : Ok c.table ≡ Ok sequence_defined.0 = sym c.defined ∙ sequence_defined.1 in
    let same : c.table ≡ sequence_defined.0 = cc in
    (ap name_in same ∙ sequence_defined.2, ap (λ (t : Table). t.references) same ∙ sequence_defined.3)

-- SQLite's own table of counts is made too, if some table needs it and it is not there
sequenced : (b : Bool) {table : ℕ → Table} {old mid new : Database} → IsAnywhere table → Adds table old mid
    → MatchBool b (Makes sequence_text mid (Ok new)) (Gives mid (Ok new)) → Adds table old new
unfolding grows_then keeps_then stands_then one_more name_in
sequenced true {table} {old} {mid} {new} anywhere a h =
    let own = sequence_is {old = mid} {new = new} h in
    let tree = next_tree old.schema in
    let first : (table tree).tree ≡ tree = ap (λ (t : Table). t.tree) (sym (anywhere tree)) in
    let later = table_below mid.schema (table tree) (grown a.grows) in
    record {
      grows = grows_then anywhere a.grows (one_more {sql = sequence_text} {old = mid} {new = new} h);
      just = λ made has. elim (has_either a.grows.keeps.first.more _ made has) [
        | inl before ↦ a.just made before
        | inr (inl is) ↦ inr (inl (ap name_in is ∙ own.0))
        | inr (inr none) ↦ absurd none
      ];
      others = all_append _ a.grows.rest _ a.others
          (record { later = omega (arith, first, later); bare = own.1 }, tt);
    }
sequenced false {table} {old} anywhere a h = subst (Adds table old) (sym (same_value h)) a

-- ---- the texts

module _ {sql : List ℕ} {p : Parsed} {def : CreateTable} {table : ℕ → Table} (d : Defines sql p def (table 0)) (anywhere : IsAnywhere table)
    {old new : State} (ran : Ran sql [] old new) where
  made_free : is_used old.now.schema def.name ≡ false → MakesTable table old new
  made_free free =
      let h = ran.executes in
      let schema = old.now.schema in
      let it = making d schema free in
      let w = rw it.text at (runs_as sql [] old new schema refl MakeTable it.command it.plain ran.count h.0) in
      let all = went w.changed in
      let one = went all.1 in
      let now : new.now ≡ all.0 = ap (λ (p : Tally × Database). p.1) (same_value all.2) in
      let adds : Adds table old.now new.now = subst (Adds table old.now) (sym now)
      (sequenced (lacks_sequence one.0.schema) anywhere (first_adds {sql = sql} anywhere (defined_by d) one.1) one.2) in
      record {
        goes = record { was = ran.was; shows = h.1; sound = w.sound };
        free = rw d.named free;
        grows = adds.grows;
        just = adds.just;
        others = adds.others;
      }

  -- if such a text ran, its name was free, and it has made its table
  made_by : (b : Bool) → is_used old.now.schema def.name ≡ b → MakesTable table old new
  made_by true used =
      absurd (never_ran sql [] old new (compiled_refused old.now.schema sql p def d.reads d.is d.always used) ran)
  made_by false free = made_free free

  made : MakesTable table old new
  made = made_by _ refl

pub event_beside : {old new : State} → Ran create_event [] old new → MakesTable event old new
unfolding everything digits
event_beside = made {sql = create_event} {p = _} {def = _} {table = event}
    (record {
      reads = refl;
      is = refl;
      formats = refl;
      whole = refl;
      always = refl;
      plain = refl;
      defined = refl;
      named = refl;
      suits =
          refl;
    })
    (λ tree. refl)

pub player_beside : {old new : State} → Ran create_player [] old new → MakesTable player old new
unfolding everything digits
player_beside = made {sql = create_player} {p = _} {def = _} {table = player}
    (record {
      reads = refl;
      is = refl;
      formats = refl;
      whole = refl;
      always = refl;
      plain = refl;
      defined = refl;
      named = refl;
      suits =
          refl;
    })
    (λ tree. refl)

pub player2_beside : {old new : State} → Ran create_player2 [] old new → MakesTable player2 old new
unfolding everything digits
player2_beside = made {sql = create_player2} {p = _} {def = _} {table = player2}
    (record {
      reads = refl;
      is = refl;
      formats = refl;
      whole = refl;
      always = refl;
      plain = refl;
      defined = refl;
      named = refl;
      suits =
          refl;
    })
    (λ tree. refl)

pub pairing_beside : {old new : State} → Ran create_pairing [] old new → MakesTable pairing old new
unfolding everything digits
pairing_beside = made {sql = create_pairing} {p = _} {def = _} {table = pairing}
    (record {
      reads = refl;
      is = refl;
      formats = refl;
      whole = refl;
      always = refl;
      plain = refl;
      defined = refl;
      named = refl;
      suits =
          refl;
    })
    (λ tree. refl)

pub bracket_beside : {old new : State} → Ran create_bracket [] old new → MakesTable bracket old new
unfolding everything digits
bracket_beside = made {sql = create_bracket} {p = _} {def = _} {table = bracket}
    (record {
      reads = refl;
      is = refl;
      formats = refl;
      whole = refl;
      always = refl;
      plain = refl;
      defined = refl;
      named = refl;
      suits =
          refl;
    })
    (λ tree. refl)

pub tally_beside : {old new : State} → Ran create_tally [] old new → MakesTable tally old new
unfolding everything digits
tally_beside = made {sql = create_tally} {p = _} {def = _} {table = tally}
    (record {
      reads = refl;
      is = refl;
      formats = refl;
      whole = refl;
      always = refl;
      plain = refl;
      defined = refl;
      named = refl;
      suits =
          refl;
    })
    (λ tree. refl)
