-- What a SELECT of columns of one table in the order of its key means, over any schema that has the table.
use Rattle.std.specs.Prelude.{◌≡◌, ℕ, Bool, true, false, List, [], ◌∷◌, ◌++◌, map, Some, None}
use Rattle.std.specs.Prelude.{Ok, refl, ◌+◌, ◌-◌, ◌&&◌, slice_get, nat_lt, codes, pos, negsuc}
use Rattle.std.proofs.Common.{sym, ap}
use Rattle.std.proofs.lemmas.List.{append_assoc, append-nil}
use Rattle.sqlite_schema.specs.Names.{same_name, column_named, place_of}
use Rattle.sqlite.specs.Table.{Table}
use Rattle.sqlite.specs.Schema.{Schema}
use Rattle.sqlite.specs.Term.{Term, lit, col}
use Rattle.sqlite_ast.specs.declared.Expr.{Expr, out-Expr}
use Rattle.sqlite_ast.specs.declared.Expr.TheOpen.{Expr-F, Shown-F}
use Rattle.sqlite_ast.specs.declared.Shown.{Shown, out-Shown}
use Rattle.sqlite_schema.specs.declared.schema.Column.{Column}
use Rattle.sqlite_resolve.specs.Body.{shown, outputs, outputs_from, within}
use Rattle.sqlite_ast.specs.declared.Core.{Core, out-Core}
use Rattle.sqlite_ast.specs.declared.Origin.TheVariants as origin
use Rattle.sqlite_ast.specs.declared.Select.{Select, out-Select}
use Rattle.sqlite_ast.specs.declared.Source.{Source, out-Source}
use Rattle.sqlite_ast.specs.declared.Statement.TheVariants as written
use Rattle.sqlite_syntax.specs.declared.statement.Parsed.{Parsed}
use Rattle.sqlite_schema.specs.declared.command.Command.TheVariants as command'
use Rattle.sqlite_schema.specs.declared.program.Program.{Program}
use Rattle.sqlite_value.specs.declared.value.Value.TheVariants as value
use Rattle.sqlite_draft.specs.declared.join.Step.TheVariants.{Inner}
use Rattle.sqlite_resolve.specs.Body.{table_in, bound, bounds, shared, join, joins, inner_join, tests, matching, body, result}
use Rattle.sqlite_resolve.specs.Compile.{compiled, planned, meaning, returning, command, timed, read, with_command, first}
use Rattle.sqlite_resolve.specs.Lowering.{take_slot, fresh, max_budget, nothing}
use Rattle.sqlite_resolve.specs.Order.{keys}
use Rattle.sqlite_resolve.specs.Program.{query_to, query, source, sources, viewing, single}
use Rattle.sqlite_resolve.specs.Program.{alone as alone_select, whole, level, with, program}
use Rattle.sqlite_resolve.specs.Program as program_specs
use Rattle.sqlite_resolve.specs.Select.{having, inside, parts, ungrouped, assembled, named, paging, constant_or}
use Rattle.sqlite_resolve.specs.Terms.{number}
use Rattle.sqlite.specs.Query.{Query}
use Rattle.sqlite.specs.declared.types.Value.TheVariants.{Int}
use Rattle.sqlite.specs.Listing.{understood}
use Rattle.std.proofs.Common.{lit≤, length, ◌≤◌}
use Rattle.sqlite_typing.specs.Types.{accepts_program}
use Rattle.er_store.specs.Layout.{IsThere}
use Rattle.er_store.specs.inside.Queries.{table_query, Selects}
use Rattle.er_store.specs.Tables.{event, read_event, player, read_players, player2, read_players2, pairing, read_pairings}
use Rattle.er_store.specs.Tables.{bracket, read_bracket, tally, read_tallies, number_column, plain}
use Rattle.er_store.specs.Rows.{event_places, player_places, player2_places, pairing_places, bracket_places, tally_places}
use Rattle.er_store.proofs.Meaning.{columns}
use Rattle.sqlite.specs.Kind.TheVariants.{Integer, Text}
use Rattle.sqlite_resolve.specs.Expr.{lower}
use Rattle.sqlite_resolve.specs.Order.{sort, sorts, sorts_from, key, peeled, alias_in, is_numeral, collation_of, written_on, placed}
use Rattle.sqlite_resolve.specs.Lowering.{alone}
use Rattle.sqlite_ast.specs.declared.Sort.{Sort, out-Sort}
use Rattle.sqlite_value.specs.declared.keys.Key.{Key}
use Rattle.std.specs.List.{position_from}
use Rattle.sqlite_resolve.specs.Scope as scope
use Rattle.sqlite_resolve.specs.declared.scope.Found.TheVariants as found
use Rattle.sqlite_resolve.specs.Body.{heading, declared, is_column}
use Rattle.sqlite_resolve.specs.Select.{outermost}
use Rattle.sqlite_resolve.specs.declared.scope.Bound.{Bound}
use Rattle.sqlite_resolve.specs.declared.scope.Output.{Output}
use Rattle.sqlite_resolve.specs.declared.scope.Level.{Level}
use Rattle.sqlite_resolve.specs.declared.state.State.{State}
use Rattle.sqlite_resolve.specs.declared.state.Carried.{Carried}
unfoldable use Rattle.sqlite_tied.specs.Compute.{everything}

abbrev pub st : ℕ → Carried → State
st n last = record { next = 2; steps = []; aggregates = []; budget = n; written = None; last = last }

-- what is shown is the column at this place of the table
abbrev IsColumn : Table → Shown → ℕ × Column → Type 0
IsColumn table s p =
    (e : Expr) × (name : List ℕ) × (text : List ℕ) × (out-Shown s ≡ Shown-F.One e None text) × (out-Expr e ≡ Expr-F.Column None name)
    × (column_named table name ≡ Some p.0) × (slice_get table.columns p.0 ≡ Some p.1)

-- and what is sorted by, which isn't another name of what is shown
abbrev IsSort : Table → List Output → Sort → ℕ × Column → Type 0
IsSort table shown s p =
    (e : Expr) × (name : List ℕ) × ((out-Sort s).key ≡ e) × ((out-Sort s).descending ≡ false) × ((out-Sort s).nulls_first ≡ None)
    × (out-Expr e ≡ Expr-F.Column None name) × (column_named table name ≡ Some p.0) × (slice_get table.columns p.0 ≡ Some p.1)
    × (position_from (λ (o : Output). o.is_alias && same_name o.name name) 0 shown ≡ None)

-- the steps of the resolver that are left after one for each of these
abbrev after_each : {X : Type 0} → ℕ → List X → ℕ
after_each n [] = n
after_each n (x ∷ xs) = after_each (n - 1) xs

abbrev Enough : {X : Type 0} → ℕ → List X → Type 0
Enough n [] = Unit {0}
Enough n (x ∷ xs) = (nat_lt 1 n ≡ true) × Enough (n - 1) xs

module _ (schema : Schema) (at : ℕ) (table : Table) where
  abbrev it : Bound
  it = record { name = table.name; table = at; slot = 1; shared = [] }

  abbrev over : List Output → Level
  over shown = record { tables = it ∷ []; shown = shown }

  abbrev output_of : ℕ × Column → Output
  output_of p = record {
    name = p.1.name;
    is_alias = false;
    is_column = true;
    term = col 1 (place_of table p.0);
    carried = scope.declared table p.0 p.1;
  }

  abbrev key_of : ℕ × Column → Term × Key
  key_of p = (col 1 (place_of table p.0), record { collation = alone (scope.declared table p.0 p.1); descending = false })

  abbrev last_after : Carried → List (ℕ × Column) → Carried
  last_after l [] = l
  last_after l (p ∷ ps) = last_after (scope.declared table p.0 p.1) ps

  abbrev after : ℕ → Carried → List (ℕ × Column) → State
  after n l ps = st (after_each n ps) (last_after l ps)

  abbrev cx : List Output → Bool → scope.Context
  cx shown may = within (outermost schema) (over shown) may

  module _ (is : slice_get schema.tables at ≡ Some table) (p : ℕ × Column) (name : List ℕ) (named : column_named table name ≡ Some p.0)
      (there : slice_get table.columns p.0 ≡ Some p.1) (seen : List Output) (may : Bool) where
    hit_at : scope.hit schema None name false it ≡ Some (found.Column 1 at p.0)
    unfolding scope.hit scope.column_in scope.is_among
    hit_at = rw (is, named)

    find_at : scope.find (cx seen may) None name ≡ Ok (found.Column 1 at p.0)
    unfolding scope.find scope.in_level scope.only
    find_at = rw (hit_at)

    term_at : (n : ℕ) (l : Carried) → scope.term_of (cx seen may) (found.Column 1 at p.0) (st n l)
        ≡ Ok (col 1 (place_of table p.0), st n (scope.declared table p.0 p.1))
    unfolding scope.term_of scope.column_at
    term_at n l = rw (is, there)

    column_at : (n : ℕ) (l : Carried) → scope.column (cx seen may) None name (st n l)
        ≡ Ok (col 1 (place_of table p.0), st n (scope.declared table p.0 p.1))
    unfolding scope.column
    column_at n l = rw (find_at, term_at)

    heading_at : (e : Expr) (text : List ℕ) → out-Expr e ≡ Expr-F.Column None name → heading (cx seen may) e text ≡ p.1.name
    unfolding heading declared
    heading_at e text reads = rw (reads, find_at, is, there)

    lowered_at : (e : Expr) → out-Expr e ≡ Expr-F.Column None name → (n : ℕ) (l : Carried) → nat_lt 1 n ≡ true
        → lower (cx seen may) e (st n l) ≡ Ok (col 1 (place_of table p.0), st (n - 1) (scope.declared table p.0 p.1))
    unfolding everything
    lowered_at e reads n l enough = rw (enough, reads, column_at (n - 1) (record { collation = None; is_written = false }))

  is_column_at : (e : Expr) (name : List ℕ) → out-Expr e ≡ Expr-F.Column None name → is_column e ≡ true
  unfolding is_column
  is_column_at e name reads = rw reads

  -- ---- what is shown

  one_shown : slice_get schema.tables at ≡ Some table → (s : Shown) (p : ℕ × Column) → IsColumn table s p → (done : List Output) (n : ℕ)
      (l : Carried) → nat_lt 1 n ≡ true
      → shown lower (cx [] true) (it ∷ []) done s (st n l) ≡ Ok (done ++ output_of p ∷ [], st (n - 1) (scope.declared table p.0 p.1))
  unfolding shown
  one_shown is s p (e, name, text, shows, reads, named, there) done n l enough = rw (
    shows,
    lowered_at is p name named there [] true e reads n l enough,
    heading_at is p name named there [] true e text reads,
    is_column_at e name reads,
  )

  abbrev AreColumns : List Shown → List (ℕ × Column) → Type 0
  AreColumns [] [] = Unit {0}
  AreColumns [] (p ∷ ps) = ⊥
  AreColumns (s ∷ ss) [] = ⊥
  AreColumns (s ∷ ss) (p ∷ ps) = IsColumn table s p × AreColumns ss ps

  all_shown : slice_get schema.tables at ≡ Some table → (ss : List Shown) (ps : List (ℕ × Column)) → AreColumns ss ps → (done : List Output)
      (n : ℕ) (l : Carried) → Enough n ps
      → outputs_from lower (cx [] true) (it ∷ []) done ss (st n l) ≡ Ok (done ++ map output_of ps, after n l ps)
  all_shown is [] [] are done n l enough = ap (λ o. Ok (o, st n l)) (sym (append-nil done))
  all_shown is [] (p ∷ ps) are done n l enough = absurd are
  all_shown is (s ∷ ss) [] are done n l enough = absurd are
  all_shown is (s ∷ ss) (p ∷ ps) are done n l enough = rw (
    one_shown is s p are.0 done n l enough.0,
    all_shown is ss ps are.1 (done ++ output_of p ∷ []) (n - 1) (scope.declared table p.0 p.1) enough.1,
  )
      (ap (λ o. Ok (o, after (n - 1) (scope.declared table p.0 p.1) ps)) (append_assoc done (output_of p ∷ []) (map output_of ps)))

  -- ---- what is sorted by

  module _ (seen : List Output) where
    sort_at : slice_get schema.tables at ≡ Some table → (s : Sort) (p : ℕ × Column) → IsSort table seen s p
        → (done : List (Term × Key)) (n : ℕ)
        (l : Carried) → nat_lt 1 n ≡ true
        → sort lower (cx seen false) seen done s (st n l) ≡ Ok (done ++ key_of p ∷ [], st (n - 1) (scope.declared table p.0 p.1))
    unfolding sort peeled alias_in is_numeral key collation_of written_on placed
    sort_at is s p (e, name, by, ascending, plain, reads, named, there, unaliased) done n l enough =
        rw (by, ascending, plain, reads, reads, unaliased, lowered_at is p name named there seen false e reads n l enough, reads)

    abbrev AreSorts : List Sort → List (ℕ × Column) → Type 0
    AreSorts [] [] = Unit {0}
    AreSorts [] (p ∷ ps) = ⊥
    AreSorts (s ∷ ss) [] = ⊥
    AreSorts (s ∷ ss) (p ∷ ps) = IsSort table seen s p × AreSorts ss ps

    all_sorted : slice_get schema.tables at ≡ Some table → (ss : List Sort) (ks : List (ℕ × Column)) → AreSorts ss ks
        → (done : List (Term × Key)) (n : ℕ) (l : Carried) → Enough n ks
        → sorts_from lower (cx seen false) seen done ss (st n l) ≡ Ok (done ++ map key_of ks, after n l ks)
    all_sorted is [] [] are done n l enough = ap (λ o. Ok (o, st n l)) (sym (append-nil done))
    all_sorted is [] (p ∷ ks) are done n l enough = absurd are
    all_sorted is (s ∷ ss) [] are done n l enough = absurd are
    all_sorted is (s ∷ ss) (p ∷ ks) are done n l enough = rw (
      sort_at is s p are.0 done n l enough.0,
      all_sorted is ss ks are.1 (done ++ key_of p ∷ []) (n - 1) (scope.declared table p.0 p.1) enough.1,
    )
        (ap (λ o. Ok (o, after (n - 1) (scope.declared table p.0 p.1) ks)) (append_assoc done (key_of p ∷ []) (map key_of ks)))

-- ---- the statement

-- the rows of a tree, by these columns in this order
abbrev draft_by : ℕ → List Output → List (Term × Key) → program_specs.Shown
draft_by tree shown order = (
  ungrouped (Inner tree ∷ []) [] shown false order (lit (value.Int (negsuc 0))) (number 0),
  map (λ (o : Output). o.name) shown,
  map (λ (o : Output). o.carried.collation) shown,
)

-- a SELECT of these from one table by its name, in the order of these
record IsListing (name : List ℕ) (s : Select) (wanted : List Shown) (by : List Sort) : Type 0 where
  with : (out-Select s).with ≡ []
  others : (out-Select s).others ≡ []
  order : (out-Select s).order ≡ by
  limit : (out-Select s).limit ≡ None
  offset : (out-Select s).offset ≡ None
  core : Core
  first : (out-Select s).first ≡ core
  source : Source
  from : (out-Core core).from ≡ source ∷ []
  shows : (out-Core core).shown ≡ wanted
  unfiltered : (out-Core core).filter ≡ None
  group : (out-Core core).group ≡ []
  having : (out-Core core).having ≡ None
  distinct : (out-Core core).distinct ≡ false
  origin : (out-Source source).origin ≡ origin.Table name
  alias : (out-Source source).alias ≡ None
  using : (out-Source source).using ≡ []
  on : (out-Source source).on ≡ None
  inner : (out-Source source).is_left ≡ false

module _ {schema : Schema} {at : ℕ} {table : Table} (there : IsThere schema at table) where
  module _ (s : Select) (shows : List Shown) (order : List Sort) (h : IsListing table.name s shows order) where
    bounds_at : bounds schema (h.source ∷ []) (fresh 1 max_budget) ≡ Ok (it schema at table ∷ [], st max_budget nothing)
    unfolding bounds bound table_in take_slot
    bounds_at = rw (h.origin, there.named, h.using, h.alias)

    joins_at : (l : Level) (now : State) → joins lower (within (outermost schema) l false) (it schema at table ∷ []) (h.source ∷ []) now
        ≡ Ok (record { steps = Inner table.tree ∷ []; filter = [] }, now)
    unfolding joins join shared inner_join tests
    joins_at l now = rw (h.using, h.on, h.inner, there.is)

    module _ (seen : List Output) (n m : ℕ) (l k : Carried) (by : List (Term × Key))
        (shown_is : outputs_from lower (cx schema at table [] true) (it schema at table ∷ []) [] shows (st max_budget nothing)
        ≡ Ok (seen, st n l))
        (sorted_is : sorts lower (inside schema (over schema at table seen) false) seen order (st n l) ≡ Ok (by, st m k)) where
      shows_at : result lower (outermost schema) (over schema at table []) h.core (st max_budget nothing) ≡ Ok (seen, st n l)
      unfolding result outputs
      shows_at = rw (h.shows, shown_is)

      body_at : body lower (outermost schema) h.core (fresh 1 max_budget)
          ≡ Ok (record { level = over schema at table seen; steps = Inner table.tree ∷ []; filter = [] }, st n l)
      unfolding body matching tests
      body_at = rw (h.from, bounds_at, shows_at, joins_at (over schema at table seen) (st n l), h.unfiltered)

      named_at : named schema h.core order (lit (value.Int (negsuc 0)), number 0) ≡ Ok (draft_by table.tree seen by)
      unfolding named parts keys having assembled tests
      named_at = rw (body_at, h.group, h.having, h.distinct, sorted_is)

      query_at : query schema s ≡ Ok (draft_by table.tree seen by, [])
      unfolding query query_to level with whole alone_select single sources source viewing paging constant_or
      query_at = rw (h.with, h.limit, h.offset, h.others, h.first, h.order, h.from, h.origin, named_at)

      selects : (sql : List ℕ) (p : Parsed) (q : Program) → first sql ≡ Ok p → p.statement ≡ written.Select s → p.formats ≡ []
          → program schema [] (draft_by table.tree seen by).0 ≡ Ok q
          → compiled schema sql ≡ Ok (with_command p ([], (command'.Select q (draft_by table.tree seen by).1, None)))
      unfolding compiled planned meaning returning command timed read
      selects sql p q reads is formats typed = rw (reads, is, formats, query_at, typed)

  -- what a look shows, and the order by columns of the table
  lists : (sql : List ℕ) (p : Parsed) (s : Select) → first sql ≡ Ok p → p.statement ≡ written.Select s → p.formats ≡ []
      → length sql ≤ p.tail → p.names ≡ [] → (shows : List Shown) (order : List Sort) (h : IsListing table.name s shows order)
      → (seen : List Output) (n : ℕ) (l : Carried)
      → outputs_from lower (cx schema at table [] true) (it schema at table ∷ []) [] shows (st max_budget nothing) ≡ Ok (seen, st n l)
      → (ks : List (ℕ × Column)) → AreSorts schema at table seen order ks → Enough n ks
      → (q : Query) → program schema [] (draft_by table.tree seen (map (key_of schema at table) ks)).0 ≡ Ok (record { lets = []; body = q })
      → accepts_program schema [] q [] ≡ true → Selects sql q schema
  unfolding understood sorts
  lists sql p s reads is formats whole none shows order h seen n l shown_is ks sorted enough q typed accepts =
      let known = selects s shows order h seen n (after_each n ks) l (last_after schema at table l ks) (map (key_of schema at table) ks)
      shown_is (all_sorted schema at table seen there.is order ks sorted [] n l enough) sql p (record { lets = []; body = q }) reads is
      formats typed in
      record {
        names = map (λ (o : Output). o.name) seen;
        is = rw known;
        plain = rw known (refl, refl);
        unlisted = rw known;
        whole = rw (known, none) (whole, refl);
        typed = accepts;
      }

  -- if all that is shown are columns
  lists_columns : (sql : List ℕ) (p : Parsed) (s : Select) → first sql ≡ Ok p → p.statement ≡ written.Select s → p.formats ≡ []
      → length sql ≤ p.tail → p.names ≡ [] → (shows : List Shown) (order : List Sort) (h : IsListing table.name s shows order)
      → (ps ks : List (ℕ × Column)) → AreColumns schema at table shows ps
      → AreSorts schema at table (map (output_of schema at table) ps) order ks → Enough max_budget ps
      → Enough (after_each max_budget ps) ks → (q : Query)
      → program schema [] (draft_by table.tree (map (output_of schema at table) ps) (map (key_of schema at table) ks)).0
      ≡ Ok (record { lets = []; body = q })
      → accepts_program schema [] q [] ≡ true → Selects sql q schema
  lists_columns sql p s reads is formats whole none shows order h ps ks are sorted enough more =
      lists sql p s reads is formats whole none shows order h (map (output_of schema at table) ps) (after_each max_budget ps)
      (last_after schema at table nothing ps) (all_shown schema at table there.is shows ps are [] max_budget nothing enough) ks sorted more

abbrev numbered : ℕ → List Column → List (ℕ × Column)
numbered n [] = []
numbered n (c ∷ cs) = (n, c) ∷ numbered (n + 1) cs

-- ---- the six

pub event_listed : {schema : Schema} {at tree : ℕ} → IsThere schema at (event tree)
    → Selects read_event (table_query tree (columns event_places) (0 ∷ [])) schema
unfolding everything
event_listed {tree = tree} there = lists_columns there read_event _ _ refl refl refl (lit≤ tt) refl _ _
    (record {
      with = refl;
      others = refl;
      order = refl;
      limit = refl;
      offset = refl;
      core = _;
      first = refl;
      source = _;
      from = refl;
      shows = refl;
      unfiltered = refl;
      group = refl;
      having = refl;
      distinct = refl;
      origin = refl;
      alias = refl;
      using = refl;
      on = refl;
      inner = refl;
    })
    (numbered 0 (event tree).columns) ((0, plain (codes "id") Integer false) ∷ []) (
      (_, _, _, refl, refl, refl, refl),
      (
        (_, _, _, refl, refl, refl, refl),
        (
          (_, _, _, refl, refl, refl, refl),
          (
            (_, _, _, refl, refl, refl, refl),
            ((_, _, _, refl, refl, refl, refl), ((_, _, _, refl, refl, refl, refl), ((_, _, _, refl, refl, refl, refl), tt))),
          ),
        ),
      ),
    )
    ((_, _, refl, refl, refl, refl, refl, refl, refl), tt)
    (refl, (refl, (refl, (refl, (refl, (refl, (refl, tt))))))) (refl, tt)
    (table_query tree (columns event_places) (0 ∷ [])) (rw (there.low, there.found))
    (rw (there.low, there.found))

pub players2_listed : {schema : Schema} {at tree : ℕ} → IsThere schema at (player2 tree)
    → Selects read_players2 (table_query tree (columns player2_places) (0 ∷ [])) schema
unfolding everything
players2_listed {tree = tree} there = lists_columns there read_players2 _ _ refl refl refl (lit≤ tt) refl _ _
    (record {
      with = refl;
      others = refl;
      order = refl;
      limit = refl;
      offset = refl;
      core = _;
      first = refl;
      source = _;
      from = refl;
      shows = refl;
      unfiltered = refl;
      group = refl;
      having = refl;
      distinct = refl;
      origin = refl;
      alias = refl;
      using = refl;
      on = refl;
      inner = refl;
    })
    (numbered 0 (player2 tree).columns) ((0, plain (codes "no") Integer false) ∷ []) (
      (_, _, _, refl, refl, refl, refl),
      (
        (_, _, _, refl, refl, refl, refl),
        ((_, _, _, refl, refl, refl, refl), ((_, _, _, refl, refl, refl, refl), tt)),
      ),
    )
    ((_, _, refl, refl, refl, refl, refl, refl, refl), tt)
    (refl, (refl, (refl, (refl, tt)))) (refl, tt)
    (table_query tree (columns player2_places) (0 ∷ [])) (rw (there.low, there.found))
    (rw (there.low, there.found))

pub pairings_listed : {schema : Schema} {at tree : ℕ} → IsThere schema at (pairing tree)
    → Selects read_pairings (table_query tree (columns pairing_places) (1 ∷ 2 ∷ [])) schema
unfolding everything
pairings_listed {tree = tree} there = lists_columns there read_pairings _ _ refl refl refl (lit≤ tt) refl _ _
    (record {
      with = refl;
      others = refl;
      order = refl;
      limit = refl;
      offset = refl;
      core = _;
      first = refl;
      source = _;
      from = refl;
      shows = refl;
      unfiltered = refl;
      group = refl;
      having = refl;
      distinct = refl;
      origin = refl;
      alias = refl;
      using = refl;
      on = refl;
      inner = refl;
    })
    (numbered 0 (pairing tree).columns) ((0, number_column (codes "round")) ∷ (1, number_column (codes "tab")) ∷ []) (
      (_, _, _, refl, refl, refl, refl),
      (
        (_, _, _, refl, refl, refl, refl),
        (
          (_, _, _, refl, refl, refl, refl),
          (
            (_, _, _, refl, refl, refl, refl),
            (
              (_, _, _, refl, refl, refl, refl),
              (
                (_, _, _, refl, refl, refl, refl),
                ((_, _, _, refl, refl, refl, refl), ((_, _, _, refl, refl, refl, refl), ((_, _, _, refl, refl, refl, refl), tt))),
              ),
            ),
          ),
        ),
      ),
    )
    ((_, _, refl, refl, refl, refl, refl, refl, refl), ((_, _, refl, refl, refl, refl, refl, refl, refl), tt))
    (refl, (refl, (refl, (refl, (refl, (refl, (refl, (refl, (refl, tt))))))))) (refl, (refl, tt))
    (table_query tree (columns pairing_places) (1 ∷ 2 ∷ [])) (rw (there.low, there.found))
    (rw (there.low, there.found))

pub bracket_listed : {schema : Schema} {at tree : ℕ} → IsThere schema at (bracket tree)
    → Selects read_bracket (table_query tree (columns bracket_places) (1 ∷ 2 ∷ [])) schema
unfolding everything
bracket_listed {tree = tree} there = lists_columns there read_bracket _ _ refl refl refl (lit≤ tt) refl _ _
    (record {
      with = refl;
      others = refl;
      order = refl;
      limit = refl;
      offset = refl;
      core = _;
      first = refl;
      source = _;
      from = refl;
      shows = refl;
      unfiltered = refl;
      group = refl;
      having = refl;
      distinct = refl;
      origin = refl;
      alias = refl;
      using = refl;
      on = refl;
      inner = refl;
    })
    (numbered 0 (bracket tree).columns) ((0, number_column (codes "stage")) ∷ (1, number_column (codes "slot")) ∷ []) (
      (_, _, _, refl, refl, refl, refl),
      (
        (_, _, _, refl, refl, refl, refl),
        (
          (_, _, _, refl, refl, refl, refl),
          (
            (_, _, _, refl, refl, refl, refl),
            (
              (_, _, _, refl, refl, refl, refl),
              (
                (_, _, _, refl, refl, refl, refl),
                ((_, _, _, refl, refl, refl, refl), ((_, _, _, refl, refl, refl, refl), tt)),
              ),
            ),
          ),
        ),
      ),
    )
    ((_, _, refl, refl, refl, refl, refl, refl, refl), ((_, _, refl, refl, refl, refl, refl, refl, refl), tt))
    (refl, (refl, (refl, (refl, (refl, (refl, (refl, (refl, tt)))))))) (refl, (refl, tt))
    (table_query tree (columns bracket_places) (1 ∷ 2 ∷ [])) (rw (there.low, there.found))
    (rw (there.low, there.found))

pub tallies_listed : {schema : Schema} {at tree : ℕ} → IsThere schema at (tally tree)
    → Selects read_tallies (table_query tree (columns tally_places) (0 ∷ [])) schema
unfolding everything
tallies_listed {tree = tree} there = lists_columns there read_tallies _ _ refl refl refl (lit≤ tt) refl _ _
    (record {
      with = refl;
      others = refl;
      order = refl;
      limit = refl;
      offset = refl;
      core = _;
      first = refl;
      source = _;
      from = refl;
      shows = refl;
      unfiltered = refl;
      group = refl;
      having = refl;
      distinct = refl;
      origin = refl;
      alias = refl;
      using = refl;
      on = refl;
      inner = refl;
    })
    (numbered 0 (tally tree).columns) ((0, plain (codes "no") Integer false) ∷ []) (
      (_, _, _, refl, refl, refl, refl),
      (
        (_, _, _, refl, refl, refl, refl),
        ((_, _, _, refl, refl, refl, refl), ((_, _, _, refl, refl, refl, refl), ((_, _, _, refl, refl, refl, refl), tt))),
      ),
    )
    ((_, _, refl, refl, refl, refl, refl, refl, refl), tt)
    (refl, (refl, (refl, (refl, (refl, tt))))) (refl, tt)
    (table_query tree (columns tally_places) (0 ∷ [])) (rw (there.low, there.found))
    (rw (there.low, there.found))

-- ---- in version 1 a literal is shown too, by a name of its own

literal_shown : (schema : Schema) (at : ℕ) (table : Table) (s : Shown) (e : Expr) (text alias : List ℕ)
    → out-Shown s ≡ Shown-F.One e (Some alias) text → out-Expr e ≡ Expr-F.Integer (codes "0") → (done : List Output) (n : ℕ) (l : Carried)
    → nat_lt 1 n ≡ true → shown lower (cx schema at table [] true) (it schema at table ∷ []) done s (st n l)
    ≡ Ok (
      done ++ record { name = alias; is_alias = true; is_column = false; term = lit (Int (pos 0)); carried = nothing } ∷ [],
      st (n - 1) nothing,
    )
unfolding everything
literal_shown schema at table s e text alias shows reads done n l enough = rw (shows, reads, enough)

abbrev joined : Output
joined = record { name = codes "joined"; is_alias = true; is_column = false; term = lit (Int (pos 0)); carried = nothing }

module _ {schema : Schema} {at tree : ℕ} (there : IsThere schema at (player tree)) where
  abbrev its : List (ℕ × Column)
  its = numbered 0 (player tree).columns

  abbrev player_outputs : List Output
  player_outputs = map (output_of schema at (player tree)) its ++ joined ∷ []

  four_shown : (a b c d : Shown) (e : Expr) (text : List ℕ) → AreColumns schema at (player tree) (a ∷ b ∷ c ∷ []) its
      → out-Shown d ≡ Shown-F.One e (Some (codes "joined")) text → out-Expr e ≡ Expr-F.Integer (codes "0")
      → outputs_from lower (cx schema at (player tree) [] true) (it schema at (player tree) ∷ []) [] (a ∷ b ∷ c ∷ d ∷ [])
      (st max_budget nothing)
      ≡ Ok (player_outputs, st 99996 nothing)
  four_shown a b c d e text are shows reads = rw (
    one_shown schema at (player tree) there.is a (0, plain (codes "no") Integer false) are.0 [] max_budget nothing refl,
    one_shown schema at (player tree) there.is b (1, plain (codes "name") Text true) are.1.0
        (output_of schema at (player tree) (0, plain (codes "no") Integer false) ∷ []) 99999 nothing refl,
    one_shown schema at (player tree) there.is c (2, number_column (codes "dropped")) are.1.1.0
        (output_of schema at (player tree) (0, plain (codes "no") Integer false)
        ∷ output_of schema at (player tree) (1, plain (codes "name") Text true) ∷ []) 99998
        (scope.declared (player tree) 1 (plain (codes "name") Text true)) refl,
    literal_shown schema at (player tree) d e text (codes "joined") shows reads (map (output_of schema at (player tree)) its) 99997
        (scope.declared (player tree) 2 (number_column (codes "dropped"))) refl,
  )

  players_are : (p : Parsed) (s : Select) → first read_players ≡ Ok p → p.statement ≡ written.Select s → p.formats ≡ []
      → length read_players ≤ p.tail → p.names ≡ []
      → (a b c d : Shown) (o : Sort) (h : IsListing (codes "player") s (a ∷ b ∷ c ∷ d ∷ []) (o ∷ [])) (e : Expr) (text : List ℕ)
      → AreColumns schema at (player tree) (a ∷ b ∷ c ∷ []) its
      → out-Shown d ≡ Shown-F.One e (Some (codes "joined")) text → out-Expr e ≡ Expr-F.Integer (codes "0")
      → IsSort (player tree) player_outputs o (0, plain (codes "no") Integer false) → (q : Query)
      → program schema [] (draft_by tree player_outputs (key_of schema at (player tree) (0, plain (codes "no") Integer false) ∷ [])).0
      ≡ Ok (record { lets = []; body = q })
      → accepts_program schema [] q [] ≡ true → Selects read_players q schema
  players_are p s reads is formats whole none a b c d o h e text are shows zero by =
      lists there read_players p s reads is formats whole none (a ∷ b ∷ c ∷ d ∷ []) (o ∷ []) h player_outputs 99996 nothing
      (four_shown a b c d e text are shows zero) ((0, plain (codes "no") Integer false) ∷ []) (by, tt) (refl, tt)

  pub players_listed : Selects read_players (table_query tree (columns player_places ++ lit (Int (pos 0)) ∷ []) (0 ∷ [])) schema
  unfolding everything
  players_listed = players_are _ _ refl refl refl (lit≤ tt) refl _ _ _ _ _
      (record {
        with = refl;
        others = refl;
        order = refl;
        limit = refl;
        offset = refl;
        core = _;
        first = refl;
        source = _;
        from = refl;
        shows = refl;
        unfiltered = refl;
        group = refl;
        having = refl;
        distinct = refl;
        origin = refl;
        alias = refl;
        using = refl;
        on = refl;
        inner = refl;
      })
      _ _ ((_, _, _, refl, refl, refl, refl), ((_, _, _, refl, refl, refl, refl), ((_, _, _, refl, refl, refl, refl), tt))) refl refl
      (_, _, refl, refl, refl, refl, refl, refl, refl)
      (table_query tree (columns player_places ++ lit (Int (pos 0)) ∷ []) (0 ∷ [])) (rw (there.low, there.found))
      (rw (there.low, there.found))
