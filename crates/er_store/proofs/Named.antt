-- What a statement means over any schema, if its table is found by its name.
use Rattle.er_store.proofs.Prelude.{◌≡◌, ℕ, true, false, List, [], ◌∷◌, map, Some, None, Ok, refl, ◌==◌, is_ok, ◌+◌}
use Rattle.er_store.proofs.Prelude.{Schema, Table, Insert, understood, everything, CanRead, first, Compiled, event, insert_event}
use Rattle.er_store.proofs.Prelude.{player, insert_player, Values, Err, sym, ap, true≢false, listing_schema, if◌then◌else◌}
use Rattle.std.specs.Fmt.{digits}
use Rattle.std.specs.Prelude.{negsuc, nat_le, find, ◌^◌}
use Rattle.sqlite_ast.specs.declared.Conflict.TheVariants as conflict
use Rattle.sqlite_ast.specs.declared.Core.{Core, out-Core}
use Rattle.sqlite_ast.specs.declared.Origin.TheVariants as origin
use Rattle.sqlite_ast.specs.declared.Rows.{Rows}
use Rattle.sqlite_ast.specs.declared.Select.{Select, out-Select}
use Rattle.sqlite_ast.specs.declared.Source.{Source, out-Source}
use Rattle.sqlite_ast.specs.declared.Statement.TheVariants as written
use Rattle.sqlite_syntax.specs.declared.statement.Parsed.{Parsed}
use Rattle.sqlite_schema.specs.declared.command.Command.TheVariants as command'
use Rattle.sqlite_schema.specs.declared.command.Source as given
use Rattle.sqlite_schema.specs.declared.program.Program.{Program}
use Rattle.sqlite_value.specs.declared.value.Value.TheVariants as value
use Rattle.sqlite_sql.specs.Term.{lit}
use Rattle.sqlite_draft.specs.declared.join.Step.TheVariants.{Inner}
use Rattle.sqlite_draft.specs.Query.{query_of}
use Rattle.sqlite_typing.specs.Types.{are_typed, row_classes}
use Rattle.sqlite_resolve.specs.declared.scope.Bound.{Bound}
use Rattle.sqlite_resolve.specs.declared.scope.Output.{Output}
use Rattle.sqlite_resolve.specs.declared.scope.Level.{Level}
use Rattle.sqlite_resolve.specs.declared.state.State.{State}
use Rattle.sqlite_resolve.specs.Body.{table_in, bound, bounds, shared, join, joins, inner_join, tests, matching, body, result, within}
use Rattle.sqlite_resolve.specs.Compile.{compiled, planned, meaning, returning, command, timed, insert_or_abort, insert, new_rows, shows}
use Rattle.sqlite_resolve.specs.Compile.{read, small, with_command}
use Rattle.sqlite_resolve.specs.Expr.{lower}
use Rattle.sqlite_resolve.specs.Lowering.{Checked, take_slot, fresh, max_budget}
use Rattle.sqlite.specs.Listing.{misses_table, if_select}
use Rattle.sqlite_resolve.specs.Order.{keys, sorts}
use Rattle.sqlite_resolve.specs.Program.{Shown, query_to, query, source, sources, viewing, single, alone, whole, level, with, program}
use Rattle.sqlite_resolve.specs.Select.{outermost, having, parts, ungrouped, assembled, named, paging, constant_or}
use Rattle.sqlite_resolve.specs.Terms.{number}
use Rattle.er_store.proofs.Meaning.{Means, event_terms, player_terms, player2_terms, pairing_terms, slot_terms, tally_terms}
use Rattle.er_store.proofs.Prelude.{player2, insert_player2, pairing, insert_pairing, bracket, insert_slot, tally, insert_tally}
use Rattle.er_store.specs.{inside.Making.IsFound, Tables.find_event}

-- ---- an INSERT of values

module _ {schema : Schema} {at : ℕ} {table : Table} (there : IsFound schema at table) where
  insert_at : (base : ℕ) (columns : List (List ℕ)) (rows : Rows) (from : given.Source) → new_rows schema table base columns rows ≡ Ok from
      → insert schema base table.name columns rows ≡ Ok (Insert at from)
  unfolding insert
  insert_at base columns rows from gives = rw (there.named, there.is, gives)

  timed_at : (columns : List (List ℕ)) (rows : Rows) → table.stamps.formats ≡ []
      → timed schema [] (written.Insert conflict.Abort table.name columns rows [] []) ≡ []
  unfolding timed
  timed_at columns rows untimed = rw (there.named, there.is) untimed

  inserts : (sql : List ℕ) (p : Parsed) (columns : List (List ℕ)) (rows : Rows) (from : given.Source) → first sql ≡ Ok p
      → p.statement ≡ written.Insert conflict.Abort table.name columns rows [] [] → p.formats ≡ [] → table.stamps.formats ≡ []
      → new_rows schema table (small p.names + small []) columns rows ≡ Ok from
      → compiled schema sql ≡ Ok (with_command p ([], (Insert at from, None)))
  unfolding compiled planned meaning returning command insert_or_abort shows
  inserts sql p columns rows from reads is formats untimed gives =
      rw (reads, is, formats, timed_at columns rows untimed, insert_at (small p.names + small []) columns rows from gives)

  insert_means : (sql : List ℕ) (p : Parsed) (columns : List (List ℕ)) (rows : Rows) (from : given.Source) → first sql ≡ Ok p
      → p.statement ≡ written.Insert conflict.Abort table.name columns rows [] [] → p.formats ≡ [] → table.stamps.formats ≡ []
      → new_rows schema table (small p.names + small []) columns rows ≡ Ok from → Means sql (Insert at from) schema
  unfolding understood
  insert_means sql p columns rows from reads is formats untimed gives =
      let known = inserts sql p columns rows from reads is formats untimed gives in
      record { is = rw known; plain = rw known (refl, refl) }

pub event_means : {schema : Schema} (at tree : ℕ) → IsFound schema at (event tree)
    → Means insert_event (Insert at (Values event_terms 8)) schema
unfolding everything digits
event_means at tree there = insert_means there insert_event _ _ _ _ refl refl refl refl refl

pub player_means : {schema : Schema} (at tree : ℕ) → IsFound schema at (player tree)
    → Means insert_player (Insert at (Values player_terms 4)) schema
unfolding everything digits
player_means at tree there = insert_means there insert_player _ _ _ _ refl refl refl refl refl

pub player2_means : {schema : Schema} (at tree : ℕ) → IsFound schema at (player2 tree)
    → Means insert_player2 (Insert at (Values player2_terms 5)) schema
unfolding everything digits
player2_means at tree there = insert_means there insert_player2 _ _ _ _ refl refl refl refl refl

pub pairing_means : {schema : Schema} (at tree : ℕ) → IsFound schema at (pairing tree)
    → Means insert_pairing (Insert at (Values pairing_terms 10)) schema
unfolding everything digits
pairing_means at tree there = insert_means there insert_pairing _ _ _ _ refl refl refl refl refl

pub slot_means : {schema : Schema} (at tree : ℕ) → IsFound schema at (bracket tree)
    → Means insert_slot (Insert at (Values slot_terms 9)) schema
unfolding everything digits
slot_means at tree there = insert_means there insert_slot _ _ _ _ refl refl refl refl refl

pub tally_means : {schema : Schema} (at tree : ℕ) → IsFound schema at (tally tree)
    → Means insert_tally (Insert at (Values tally_terms 6)) schema
unfolding everything digits
tally_means at tree there = insert_means there insert_tally _ _ _ _ refl refl refl refl refl

-- ---- a SELECT over one table

-- only this table, by its name
record IsOf (name : List ℕ) (source : Source) : Type 0 where
  origin : (out-Source source).origin ≡ origin.Table name
  alias : (out-Source source).alias ≡ None
  using : (out-Source source).using ≡ []
  on : (out-Source source).on ≡ None
  inner : (out-Source source).is_left ≡ false

-- and nothing but the terms that it shows
record IsPlainCore (name : List ℕ) (core : Core) : Type 0 where
  source : Source
  from : (out-Core core).from ≡ source ∷ []
  is : IsOf name source
  unfiltered : (out-Core core).filter ≡ None
  group : (out-Core core).group ≡ []
  having : (out-Core core).having ≡ None
  distinct : (out-Core core).distinct ≡ false

record IsPlainSelect (name : List ℕ) (s : Select) : Type 0 where
  with : (out-Select s).with ≡ []
  others : (out-Select s).others ≡ []
  order : (out-Select s).order ≡ []
  limit : (out-Select s).limit ≡ None
  offset : (out-Select s).offset ≡ None
  core : IsPlainCore name (out-Select s).first

abbrev start : State
start = fresh 1 max_budget

-- once the table has its slot
abbrev past : State
past = record start { next = 2 }

-- the table is found by its tree too
pub record IsRead (schema : Schema) (table : Table) : Type 0 where
  pub low : nat_le (2 ^ 31) table.tree ≡ false
  pub found : find (λ t. t.tree == table.tree) schema.tables ≡ Some table

module _ {schema : Schema} {at : ℕ} {table : Table} (there : IsFound schema at table) where
  abbrev it : Bound
  it = record { name = table.name; table = at; slot = 1; shared = [] }

  abbrev over : List Output → Level
  over columns = record { tables = it ∷ []; shown = columns }

  bounds_at : (s : Source) → IsOf table.name s → bounds schema (s ∷ []) start ≡ Ok (it ∷ [], past)
  unfolding bounds bound table_in take_slot
  bounds_at s is = rw (is.origin, there.named, is.using, is.alias)

  joins_at : (s : Source) → IsOf table.name s → (l : Level) (now : State)
      → joins lower (within (outermost schema) l false) (it ∷ []) (s ∷ []) now
      ≡ Ok (record { steps = Inner table.tree ∷ []; filter = [] }, now)
  unfolding joins join shared inner_join tests
  joins_at s is l now = rw (is.using, is.on, is.inner, there.is)

  -- what is shown, by the resolver
  abbrev ShowsAs : Core → List Output → State → Type 0
  ShowsAs core columns now = result lower (outermost schema) (over []) core past ≡ Ok (columns, now)

  body_at : (core : Core) → IsPlainCore table.name core → (columns : List Output) (now : State) → ShowsAs core columns now
      → body lower (outermost schema) core start ≡ Ok (record { level = over columns; steps = Inner table.tree ∷ []; filter = [] }, now)
  unfolding body matching tests
  body_at core plain columns now shows =
      rw (plain.from, bounds_at plain.source plain.is, shows, joins_at plain.source plain.is (over columns) now, plain.unfiltered)

  abbrev drafted : List Output → Shown
  drafted columns = (
    ungrouped (Inner table.tree ∷ []) [] columns false [] (lit (value.Int (negsuc 0))) (number 0),
    map (λ (o : Output). o.name) columns,
    map (λ (o : Output). o.carried.collation) columns,
  )

  named_at : (core : Core) → IsPlainCore table.name core → (columns : List Output) (now : State) → now.aggregates ≡ [] → now.steps ≡ []
      → ShowsAs core columns now → named schema core [] (lit (value.Int (negsuc 0)), number 0) ≡ Ok (drafted columns)
  unfolding named parts keys having sorts assembled tests
  named_at core plain columns now none stepless shows =
      rw (body_at core plain columns now shows, plain.group, plain.having, plain.distinct, none, stepless)

  query_at : (s : Select) → IsPlainSelect table.name s → (columns : List Output) (now : State) → now.aggregates ≡ [] → now.steps ≡ []
      → ShowsAs (out-Select s).first columns now → query schema s ≡ Ok (drafted columns, [])
  unfolding query query_to level with whole alone single sources source viewing paging constant_or
  query_at s plain columns now none stepless shows =
      rw (
        plain.with,
        plain.limit,
        plain.offset,
        plain.others,
        plain.order,
        plain.core.from,
        plain.core.is.origin,
        named_at (out-Select s).first plain.core columns now none stepless shows,
      )

  abbrev program_of : List Output → Program
  program_of columns = record { lets = []; body = query_of (drafted columns).0 }

  typed_at : IsRead schema table → (columns : List Output) → are_typed [] (row_classes table ∷ []) (map (λ (o : Output). o.term) columns)
      ≡ true
      → program schema [] (drafted columns).0 ≡ Ok (program_of columns)
  unfolding program ungrouped
  typed_at reads columns typed = rw (reads.low, reads.found, typed)

  selects : (sql : List ℕ) (p : Parsed) (s : Select) (columns : List Output) (now : State) → IsRead schema table → first sql ≡ Ok p
      → p.statement ≡ written.Select s → p.formats ≡ [] → IsPlainSelect table.name s → ShowsAs (out-Select s).first columns now
      → now.aggregates ≡ [] → now.steps ≡ [] → are_typed [] (row_classes table ∷ []) (map (λ (o : Output). o.term) columns) ≡ true
      → compiled schema sql ≡ Ok (with_command p ([], (command'.Select (program_of columns) (drafted columns).1, None)))
  unfolding compiled planned meaning returning command timed read
  selects sql p s columns now there_too reads is formats plain known none stepless typed =
      rw (reads, is, formats, query_at s plain columns now none stepless known, typed_at there_too columns typed)

-- so a table `event` can be read wherever it stands
can_compile : {schema : Schema} (at tree : ℕ) → IsFound schema at (event tree) → IsRead schema (event tree)
    → is_ok (compiled schema find_event) ≡ true
unfolding everything digits
can_compile at tree there there_too =
    ap is_ok (selects there find_event _ _ _ _ there_too refl refl refl
    (record {
      with = refl;
      others = refl;
      order = refl;
      limit = refl;
      offset = refl;
      core = record {
        source = _;
        from = refl;
        is = record { origin = refl; alias = refl; using = refl; on = refl; inner = refl };
        unfiltered = refl;
        group = refl;
        having = refl;
        distinct = refl;
      };
    })
    refl refl refl refl)

ok_understood : (schema : Schema) (sql : List ℕ) → is_ok (compiled schema sql) ≡ true → is_ok (understood schema sql) ≡ true
unfolding understood
ok_understood schema sql ok = by_answer (compiled schema sql) ok
  where
    by_answer : (c : Checked Compiled) → is_ok c ≡ true → is_ok (if misses_table c then if_select (compiled listing_schema sql) else c) ≡
        true
    by_answer (Ok c) ok = refl
    by_answer (Err e) ok = absurd (true≢false (sym ok))

pub event_read : {schema : Schema} (at tree : ℕ) → IsFound schema at (event tree) → IsRead schema (event tree) → CanRead schema
event_read {schema} at tree there there_too = ok_understood schema find_event (can_compile at tree there there_too)
