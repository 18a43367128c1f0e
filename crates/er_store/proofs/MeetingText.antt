-- What the join of the meetings means, over any schema that has its two tables.
use Rattle.std.specs.Prelude.{◌≡◌, ℕ, true, false, List, [], ◌∷◌, ◌++◌, map, Some, None, Ok, refl, ◌-◌, slice_get, nat_lt, codes, negsuc}
use Rattle.std.proofs.Common.{lit≤, length, ◌≤◌}
use Rattle.sqlite_schema.specs.Names.{column_named, place_of}
use Rattle.sqlite.specs.Schema.{Schema}
use Rattle.sqlite.specs.Term.{Term, lit, col}
use Rattle.sqlite_ast.specs.declared.Expr.{Expr, out-Expr}
use Rattle.sqlite_ast.specs.declared.Expr.TheOpen.{Expr-F}
use Rattle.sqlite_ast.specs.declared.Shown.{Shown}
use Rattle.sqlite_ast.specs.declared.Sort.{Sort, out-Sort}
use Rattle.sqlite_ast.specs.declared.Binary.TheVariants as binary
use Rattle.sqlite_ast.specs.declared.Unary.TheVariants as unary
use Rattle.sqlite_ast.specs.declared.Core.{Core, out-Core}
use Rattle.sqlite_ast.specs.declared.Select.{Select, out-Select}
use Rattle.sqlite_ast.specs.declared.Source.{Source}
use Rattle.sqlite_ast.specs.declared.Statement.TheVariants as written
use Rattle.sqlite_syntax.specs.declared.statement.Parsed.{Parsed}
use Rattle.sqlite_schema.specs.declared.schema.Column.{Column}
use Rattle.sqlite_schema.specs.declared.command.Command.TheVariants as command'
use Rattle.sqlite_schema.specs.declared.program.Program.{Program}
use Rattle.sqlite_value.specs.declared.value.Value.TheVariants as value
use Rattle.sqlite_value.specs.declared.keys.Key.{Key}
use Rattle.sqlite_draft.specs.declared.join.Step.{Step}
use Rattle.sqlite_draft.specs.declared.join.Step.TheVariants.{Inner, Left}
use Rattle.sqlite_resolve.specs.Body.{tests, shown, outputs, table_in, bound, bounds, shared, join, joins, inner_join, left_join, matching, body, result}
use Rattle.sqlite_resolve.specs.Compile.{compiled, planned, meaning, returning, command, timed, read, with_command, first}
use Rattle.sqlite_resolve.specs.Expr.{lower}
use Rattle.sqlite_resolve.specs.Lowering.{take_slot, fresh, max_budget, nothing, alone}
use Rattle.sqlite_resolve.specs.Order.{keys, sort, sorts, key, peeled, alias_in, is_numeral, collation_of, written_on, placed}
use Rattle.sqlite_resolve.specs.Program.{query_to, query, source, sources, viewing, single}
use Rattle.sqlite_resolve.specs.Program.{alone as alone_select, whole, level, with, program}
use Rattle.sqlite_resolve.specs.Program as program_specs
use Rattle.sqlite_resolve.specs.Scope as scope
use Rattle.sqlite_resolve.specs.Select.{having, parts, ungrouped, assembled, named, paging, constant_or, outermost}
use Rattle.sqlite_resolve.specs.Terms.{number}
use Rattle.sqlite_resolve.specs.declared.scope.Found.TheVariants as found
use Rattle.sqlite_resolve.specs.declared.scope.Output.{Output}
use Rattle.sqlite_resolve.specs.declared.state.Carried.{Carried}
use Rattle.sqlite.specs.Kind.TheVariants.{Integer}
use Rattle.sqlite.specs.Listing.{understood}
use Rattle.sqlite_typing.specs.Types.{accepts_program}
use Rattle.er_store.specs.Layout.{IsThere}
use Rattle.er_store.specs.Tables.{pairing, tally, read_meetings, number_column, plain}
use Rattle.er_store.specs.inside.Queries.{Selects}
use Rattle.er_store.proofs.Meaning.{meeting_query, meeting_tests}
use Rattle.er_store.proofs.Slipping.{st, cx, hits, middle, third, lowered_at, slip_bounds, equals, Named, Finds, AreColumns, AllFound}
use Rattle.er_store.proofs.Slipping.{last_after, all_shown, IsSource, IsEqual, bp, bl, bh, of_match, in_match, match_only}
unfoldable use Rattle.sqlite_tied.specs.Compute.{everything}

-- ---- the two conditions of the join, and what passes

module _ (schema : Schema) (p q s t : ℕ) (pairings : slice_get schema.tables p ≡ Some (pairing s))
    (totals : slice_get schema.tables q ≡ Some (tally t)) where
  on_low : (shown : List Output) (last : Carried) (e a b : Expr)
      → out-Expr e ≡ Expr-F.Binary binary.Eq a b
      → out-Expr a ≡ Expr-F.Column (Some (codes "l")) (codes "no") → out-Expr b ≡ Expr-F.Column (Some (codes "p")) (codes "lo")
      → tests lower (cx schema (slip_bounds p q) shown false false) [] (Some e) (st 4 99987 last)
      ≡ Ok (equals (col 2 0) (col 1 3) ∷ [], st 4 99984 nothing)
  unfolding everything
  on_low shown last e a b ise isa isb = simp (ise, isa, isb, pairings, totals)

  on_high : (shown : List Output) (e a b : Expr)
      → out-Expr e ≡ Expr-F.Binary binary.Eq a b
      → out-Expr a ≡ Expr-F.Column (Some (codes "h")) (codes "no") → out-Expr b ≡ Expr-F.Column (Some (codes "p")) (codes "hi")
      → tests lower (cx schema (slip_bounds p q) shown false false) [] (Some e) (st 4 99984 nothing)
      ≡ Ok (equals (col 3 0) (col 1 4) ∷ [], st 4 99981 nothing)
  unfolding everything
  on_high shown e a b ise isa isb = simp (ise, isa, isb, pairings, totals)

  where_met : (shown : List Output) (e a b c : Expr) → out-Expr e ≡ Expr-F.Binary binary.Gt a b
      → out-Expr a ≡ Expr-F.Unary unary.Plus c → out-Expr c ≡ Expr-F.Column (Some (codes "p")) (codes "lo")
      → out-Expr b ≡ Expr-F.Integer (codes "0")
      → tests lower (cx schema (slip_bounds p q) shown false true) [] (Some e) (st 4 99981 nothing)
      ≡ Ok (meeting_tests, st 4 99977 nothing)
  unfolding everything
  where_met shown e a b c ise isa isc isb = simp (ise, isa, isc, isb, pairings)

-- ---- what is shown

abbrev of_totals : ℕ → ℕ → ℕ → Column → Output
of_totals t slot k c = record {
  name = c.name;
  is_alias = false;
  is_column = true;
  term = col slot (place_of (tally t) k);
  carried = scope.declared (tally t) k c;
}

module _ (schema : Schema) (p q t : ℕ) (totals : slice_get schema.tables q ≡ Some (tally t)) where
  in_low : (k : ℕ) (c : Column) → column_named (tally t) c.name ≡ Some k → slice_get (tally t).columns k ≡ Some c
      → Finds schema (slip_bounds p q) (codes "l", c.name) (of_totals t 2 k c)
  unfolding everything
  in_low k c found_at there = record {
    table = tally t;
    slot = 2;
    at = q;
    k = k;
    c = c;
    only = middle schema (bp p) (bl q) (bh q) (codes "l") c.name 2 q k refl
        (hits schema (bl q) (tally t) totals (codes "l") k c c.name found_at refl refl) refl;
    is = totals;
    there = there;
    output = refl;
  }

  in_high : (k : ℕ) (c : Column) → column_named (tally t) c.name ≡ Some k → slice_get (tally t).columns k ≡ Some c
      → Finds schema (slip_bounds p q) (codes "h", c.name) (of_totals t 3 k c)
  unfolding everything
  in_high k c found_at there = record {
    table = tally t;
    slot = 3;
    at = q;
    k = k;
    c = c;
    only = third schema (bp p) (bl q) (bh q) (codes "h") c.name 3 q k refl refl
        (hits schema (bh q) (tally t) totals (codes "h") k c c.name found_at refl refl);
    is = totals;
    there = there;
    output = refl;
  }

abbrev totals_named : List ℕ → List Named
totals_named who = (who, codes "no") ∷ (who, codes "points") ∷ (who, codes "rounds") ∷ (who, codes "gamepoints") ∷ (who, codes "games") ∷ []

abbrev met_names : List Named
met_names = (codes "p", codes "round") ∷ (codes "p", codes "tab") ∷ (codes "p", codes "done") ∷ totals_named (codes "l") ++ totals_named (codes "h")

abbrev totals_columns : ℕ → ℕ → List Output
totals_columns t slot =
    of_totals t slot 0 (plain (codes "no") Integer false) ∷ of_totals t slot 1 (number_column (codes "points"))
    ∷ of_totals t slot 2 (number_column (codes "rounds")) ∷ of_totals t slot 3 (number_column (codes "gamepoints"))
    ∷ of_totals t slot 4 (number_column (codes "games")) ∷ []

abbrev met_columns : ℕ → ℕ → List Output
met_columns s t =
    of_match s 0 (number_column (codes "round")) ∷ of_match s 1 (number_column (codes "tab")) ∷ of_match s 5 (number_column (codes "done"))
    ∷ totals_columns t 2 ++ totals_columns t 3

met_found : (schema : Schema) (p q s t : ℕ) → slice_get schema.tables p ≡ Some (pairing s) → slice_get schema.tables q ≡ Some (tally t)
    → AllFound schema (slip_bounds p q) met_names (met_columns s t)
unfolding everything
met_found schema p q s t pairings totals =
    let one = in_match schema p q s pairings in
    let low = in_low schema p q t totals in
    let high = in_high schema p q t totals in (
      one 0 (number_column (codes "round")) refl refl,
      (
        one 1 (number_column (codes "tab")) refl refl,
        (
          one 5 (number_column (codes "done")) refl refl,
          (
            low 0 (plain (codes "no") Integer false) refl refl,
            (
              low 1 (number_column (codes "points")) refl refl,
              (
                low 2 (number_column (codes "rounds")) refl refl,
                (
                  low 3 (number_column (codes "gamepoints")) refl refl,
                  (
                    low 4 (number_column (codes "games")) refl refl,
                    (
                      high 0 (plain (codes "no") Integer false) refl refl,
                      (
                        high 1 (number_column (codes "points")) refl refl,
                        (
                          high 2 (number_column (codes "rounds")) refl refl,
                          (
                            high 3 (number_column (codes "gamepoints")) refl refl,
                            (
                              high 4 (number_column (codes "games")) refl refl,
                              tt,
                            ),
                          ),
                        ),
                      ),
                    ),
                  ),
                ),
              ),
            ),
          ),
        ),
      ),
    )

-- ---- what it is sorted by

record IsSort (s : Sort) (name : List ℕ) : Type 0 where
  e : Expr
  by : (out-Sort s).key ≡ e
  ascending : (out-Sort s).descending ≡ false
  plain : (out-Sort s).nulls_first ≡ None
  reads : out-Expr e ≡ Expr-F.Column (Some (codes "p")) name

abbrev key_of : ℕ → ℕ → Column → Term × Key
key_of s k c = (col 1 (place_of (pairing s) k), record { collation = alone (scope.declared (pairing s) k c); descending = false })

module _ (schema : Schema) (p q s : ℕ) (pairings : slice_get schema.tables p ≡ Some (pairing s)) (seen : List Output) where
  sort_at : (srt : Sort) (k : ℕ) (c : Column) → IsSort srt c.name → scope.only schema (Some (codes "p")) c.name false (slip_bounds p q) ≡ Ok (Some (found.Column 1 p k))
      → slice_get (pairing s).columns k ≡ Some c → (done : List (Term × Key)) (next n : ℕ) (l : Carried) → nat_lt 1 n ≡ true
      → sort lower (cx schema (slip_bounds p q) seen false true) seen done srt (st next n l)
      ≡ Ok (done ++ key_of s k c ∷ [], st next (n - 1) (scope.declared (pairing s) k c))
  unfolding sort peeled alias_in is_numeral key collation_of written_on placed
  sort_at srt k c it only there done next n l enough = rw (
    it.by,
    it.ascending,
    it.plain,
    it.reads,
    it.reads,
    lowered_at schema (slip_bounds p q) (pairing s) (codes "p") c.name 1 p k c only pairings there seen false true it.e it.reads next n l enough,
    it.reads,
  )

  abbrev met_keys : List (Term × Key)
  met_keys = key_of s 0 (number_column (codes "round")) ∷ key_of s 1 (number_column (codes "tab")) ∷ []

  sorted_at : (first second : Sort) → IsSort first (codes "round") → IsSort second (codes "tab") → (l : Carried)
      → sorts lower (cx schema (slip_bounds p q) seen false true) seen (first ∷ second ∷ []) (st 4 99977 l)
      ≡ Ok (met_keys, st 4 99975 (scope.declared (pairing s) 1 (number_column (codes "tab"))))
  unfolding everything
  sorted_at by_round by_table one two l =
      rw (
        sort_at by_round 0 (number_column (codes "round")) one (match_only schema p q s pairings 0 (number_column (codes "round")) refl) refl [] 4 99977 l refl,
        sort_at by_table 1 (number_column (codes "tab")) two (match_only schema p q s pairings 1 (number_column (codes "tab")) refl) refl (key_of s 0 (number_column (codes "round")) ∷ []) 4 99976
            (scope.declared (pairing s) 0 (number_column (codes "round"))) refl,
      )

-- ---- the statement

record IsMet (s : Select) (wanted : List Shown) : Type 0 where
  with : (out-Select s).with ≡ []
  others : (out-Select s).others ≡ []
  by_round : Sort
  by_table : Sort
  order : (out-Select s).order ≡ by_round ∷ by_table ∷ []
  rounds : IsSort by_round (codes "round")
  tables : IsSort by_table (codes "tab")
  limit : (out-Select s).limit ≡ None
  offset : (out-Select s).offset ≡ None
  core : Core
  first : (out-Select s).first ≡ core
  a : Source
  b : Source
  c : Source
  from : (out-Core core).from ≡ a ∷ b ∷ c ∷ []
  shows : (out-Core core).shown ≡ wanted
  group : (out-Core core).group ≡ []
  having : (out-Core core).having ≡ None
  distinct : (out-Core core).distinct ≡ false
  e : Expr
  x : Expr
  y : Expr
  z : Expr
  filter : (out-Core core).filter ≡ Some e
  greater : out-Expr e ≡ Expr-F.Binary binary.Gt x y
  plus : out-Expr x ≡ Expr-F.Unary unary.Plus z
  low : out-Expr z ≡ Expr-F.Column (Some (codes "p")) (codes "lo")
  zero : out-Expr y ≡ Expr-F.Integer (codes "0")
  on_l : Expr
  on_h : Expr
  one : IsSource a (codes "pairing") (codes "p") false None
  two : IsSource b (codes "tally") (codes "l") true (Some on_l)
  three : IsSource c (codes "tally") (codes "h") true (Some on_h)
  l : IsEqual on_l (codes "l") (codes "no") (codes "p") (codes "lo")
  h : IsEqual on_h (codes "h") (codes "no") (codes "p") (codes "hi")

module _ (schema : Schema) (p q s t : ℕ) (pairings : IsThere schema p (pairing s)) (totals : IsThere schema q (tally t)) where
  abbrev met_steps : List Step
  met_steps = Inner s ∷ Left t (equals (col 2 0) (col 1 3) ∷ []) ∷ Left t (equals (col 3 0) (col 1 4) ∷ []) ∷ []

  abbrev drafted : program_specs.Shown
  drafted = (
    ungrouped met_steps meeting_tests (met_columns s t) false (met_keys schema p q s pairings.is (met_columns s t)) (lit (value.Int (negsuc 0)))
        (number 0),
    map (λ (o : Output). o.name) (met_columns s t),
    map (λ (o : Output). o.carried.collation) (met_columns s t),
  )

  module _ (sel : Select) (wanted : List Shown) (h : IsMet sel wanted) (are : AreColumns wanted met_names) where
    met_bound : bounds schema (h.a ∷ h.b ∷ h.c ∷ []) (fresh 1 max_budget) ≡ Ok (slip_bounds p q, st 4 max_budget nothing)
    unfolding bounds bound table_in take_slot
    met_bound = rw (
      h.one.origin,
      h.one.alias_is,
      h.one.using,
      pairings.named,
      h.two.origin,
      h.two.alias_is,
      h.two.using,
      totals.named,
      h.three.origin,
      h.three.alias_is,
      h.three.using,
      totals.named,
    )

    met_joined : (columns : List Output) (last : Carried)
        → joins lower (cx schema (slip_bounds p q) columns false true) (slip_bounds p q) (h.a ∷ h.b ∷ h.c ∷ []) (st 4 99987 last)
        ≡ Ok (record { steps = met_steps; filter = [] }, st 4 99981 nothing)
    unfolding joins join shared inner_join left_join tests
    met_joined columns last = rw (
      h.one.on_is,
      h.one.using,
      h.one.side,
      pairings.is,
      h.two.side,
      h.two.on_is,
      totals.is,
      on_low schema p q s t pairings.is totals.is columns last h.on_l h.l.a h.l.b h.l.is h.l.left h.l.right,
      h.three.side,
      h.three.on_is,
      on_high schema p q s t pairings.is totals.is columns h.on_h h.h.a h.h.b h.h.is h.h.left h.h.right,
    )

    shows_at : result lower (outermost schema) (record { tables = slip_bounds p q; shown = [] }) h.core (st 4 max_budget nothing)
        ≡ Ok (met_columns s t, st 4 99987 (last_after nothing (met_columns s t)))
    unfolding result outputs
    shows_at = rw (
      h.shows,
      all_shown schema (slip_bounds p q) wanted met_names (met_columns s t) are (met_found schema p q s t pairings.is totals.is) [] 4 max_budget
          nothing (refl, (refl, (refl, (refl, (refl, (refl, (refl, (refl, (refl, (refl, (refl, (refl, (refl, tt))))))))))))),
    )

    body_at : body lower (outermost schema) h.core (fresh 1 max_budget)
        ≡ Ok (
          record { level = record { tables = slip_bounds p q; shown = met_columns s t }; steps = met_steps; filter = meeting_tests },
          st 4 99977 nothing,
        )
    unfolding body matching
    body_at = rw (
      h.from,
      met_bound,
      shows_at,
      met_joined (met_columns s t) (last_after nothing (met_columns s t)),
      h.filter,
      where_met schema p q s t pairings.is totals.is (met_columns s t) h.e h.x h.y h.z h.greater h.plus h.low h.zero,
    )

    named_at : named schema h.core (h.by_round ∷ h.by_table ∷ []) (lit (value.Int (negsuc 0)), number 0) ≡ Ok drafted
    unfolding named parts keys having assembled tests
    named_at = rw (
      body_at,
      h.group,
      h.having,
      h.distinct,
      sorted_at schema p q s pairings.is (met_columns s t) h.by_round h.by_table h.rounds h.tables nothing,
    )

    query_at : query schema sel ≡ Ok (drafted, [])
    unfolding query query_to level with whole alone_select single sources source viewing paging constant_or
    query_at = rw (h.with, h.limit, h.offset, h.others, h.first, h.order, h.from, h.one.origin, h.two.origin, h.three.origin, named_at)

    met_compiled : (sql : List ℕ) (p' : Parsed) (prog : Program) → first sql ≡ Ok p' → p'.statement ≡ written.Select sel → p'.formats ≡ []
        → program schema [] drafted.0 ≡ Ok prog
        → compiled schema sql ≡ Ok (with_command p' ([], (command'.Select prog drafted.1, None)))
    unfolding compiled planned meaning returning command timed read
    met_compiled sql p' prog reads is formats typed = rw (reads, is, formats, query_at, typed)

  met_typed : program schema [] drafted.0 ≡ Ok (record { lets = []; body = meeting_query s t })
  unfolding everything
  met_typed = rw (pairings.low, pairings.found, totals.low, totals.found)

  met_accepted : accepts_program schema [] (meeting_query s t) [] ≡ true
  unfolding everything
  met_accepted = rw (pairings.low, pairings.found, totals.low, totals.found)

  met_is : (sql : List ℕ) (it : Parsed) (sel : Select) → first sql ≡ Ok it → it.statement ≡ written.Select sel → it.formats ≡ []
      → length sql ≤ it.tail → it.names ≡ [] → (wanted : List Shown) → IsMet sel wanted → AreColumns wanted met_names
      → Selects sql (meeting_query s t) schema
  unfolding understood
  met_is sql it sel reads is formats whole none wanted h are =
      let known = met_compiled sel wanted h are sql it (record { lets = []; body = meeting_query s t }) reads is formats met_typed in
      record {
        names = map (λ (o : Output). o.name) (met_columns s t);
        is = rw known;
        plain = rw known (refl, refl);
        unlisted = rw known;
        whole = rw (known, none) (whole, refl);
        typed = met_accepted;
      }

pub meetings_mean : {schema : Schema} {p q s t : ℕ} → IsThere schema p (pairing s) → IsThere schema q (tally t)
    → Selects read_meetings (meeting_query s t) schema
unfolding everything
meetings_mean {schema} {p} {q} {s} {t} pairings totals = met_is schema p q s t pairings totals read_meetings _ _ refl refl refl (lit≤ tt) refl _
    (record {
      with = refl;
      others = refl;
      by_round = _;
      by_table = _;
      order = refl;
      rounds = record { e = _; by = refl; ascending = refl; plain = refl; reads = refl };
      tables = record { e = _; by = refl; ascending = refl; plain = refl; reads = refl };
      limit = refl;
      offset = refl;
      core = _;
      first = refl;
      a = _;
      b = _;
      c = _;
      from = refl;
      shows = refl;
      group = refl;
      having = refl;
      distinct = refl;
      e = _;
      x = _;
      y = _;
      z = _;
      filter = refl;
      greater = refl;
      plus = refl;
      low = refl;
      zero = refl;
      on_l = _;
      on_h = _;
      one = record { origin = refl; alias_is = refl; using = refl; on_is = refl; side = refl };
      two = record { origin = refl; alias_is = refl; using = refl; on_is = refl; side = refl };
      three = record { origin = refl; alias_is = refl; using = refl; on_is = refl; side = refl };
      l = record { a = _; b = _; is = refl; left = refl; right = refl };
      h = record { a = _; b = _; is = refl; left = refl; right = refl };
    }) ((_, _, refl, refl), ((_, _, refl, refl), ((_, _, refl, refl), ((_, _, refl, refl), ((_, _, refl, refl), ((_, _, refl, refl), ((_, _, refl, refl), ((_, _, refl, refl), ((_, _, refl, refl), ((_, _, refl, refl), ((_, _, refl, refl), ((_, _, refl, refl), ((_, _, refl, refl), tt)))))))))))))
