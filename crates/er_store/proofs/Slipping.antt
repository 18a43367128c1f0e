-- What the join of a slip means, over any schema that has its two tables.
use Rattle.std.specs.Prelude.{if◌then◌else◌, ◌≡◌, ℕ, Bool, true, false, List, [], ◌∷◌, ◌++◌}
use Rattle.std.specs.Prelude.{map, Option, Some, None, Ok, refl, ◌-◌, slice_get, nat_lt, codes, negsuc}
use Rattle.std.proofs.Common.{sym, ap, subst}
use Rattle.std.proofs.lemmas.List.{append_assoc, append-nil}
use Rattle.sqlite_schema.specs.Names.{same_name, table_named, column_named, place_of}
use Rattle.er_store.specs.Layout.{IsThere}
use Rattle.sqlite.specs.Table.{Table}
use Rattle.sqlite.specs.Schema.{Schema}
use Rattle.sqlite.specs.Term.{Term, lit, col}
use Rattle.sqlite_ast.specs.declared.Expr.{Expr, out-Expr}
use Rattle.sqlite_ast.specs.declared.Expr.TheOpen.{Expr-F, Shown-F}
use Rattle.sqlite_ast.specs.declared.Shown.{Shown, out-Shown}
use Rattle.sqlite_schema.specs.declared.schema.Column.{Column}
use Rattle.sqlite_resolve.specs.Lowering.{nothing}
use Rattle.sqlite_ast.specs.declared.Binary.TheVariants as binary
use Rattle.sqlite.specs.Term.{op2}
use Rattle.sqlite_sql.specs.declared.ops.BinaryOp.TheVariants.{Compare}
use Rattle.sqlite_sql.specs.declared.ops.CompareOp.TheVariants.{Eq}
use Rattle.sqlite.specs.Collation.TheVariants.{Binary}
use Rattle.er_store.specs.Tables.{pairing, player, player2, read_slip, read_slip2, number_column, plain}
use Rattle.er_store.specs.inside.Queries.{SelectsWith}
use Rattle.er_store.specs.Rows.{number_value}
use Rattle.er_store.proofs.Meaning.{slip_query, score_tests}
use Rattle.sqlite_typing.specs.Types.{accepts_program}
use Rattle.std.proofs.Common.{lit≤, length, ◌≤◌}
use Rattle.sqlite.specs.Kind.TheVariants.{Text}
use Rattle.sqlite.specs.declared.types.Value.TheVariants.{Int}
use Rattle.sqlite_resolve.specs.Body.{tests, shown, outputs, outputs_from, heading, declared, is_column}
use Rattle.sqlite_draft.specs.declared.join.Step.{Step}
use Rattle.sqlite_resolve.specs.Expr.{lower}
use Rattle.sqlite_resolve.specs.Scope as scope
use Rattle.sqlite_resolve.specs.declared.scope.Found.TheVariants as found
use Rattle.sqlite_resolve.specs.declared.scope.Bound.{Bound}
use Rattle.sqlite_resolve.specs.declared.scope.Output.{Output}
use Rattle.sqlite_resolve.specs.declared.state.State.{State}
use Rattle.sqlite_resolve.specs.declared.state.Carried.{Carried}
use Rattle.sqlite_ast.specs.declared.Core.{Core, out-Core}
use Rattle.sqlite_ast.specs.declared.Origin.TheVariants as origin
use Rattle.sqlite_ast.specs.declared.Select.{Select, out-Select}
use Rattle.sqlite_ast.specs.declared.Source.{Source, out-Source}
use Rattle.sqlite_ast.specs.declared.Statement.TheVariants as written
use Rattle.sqlite_syntax.specs.declared.statement.Parsed.{Parsed}
use Rattle.sqlite_schema.specs.declared.command.Command.TheVariants as command'
use Rattle.sqlite_schema.specs.declared.program.Program.{Program}
use Rattle.sqlite_value.specs.declared.value.Value.TheVariants as value
use Rattle.sqlite_draft.specs.declared.join.Step.TheVariants.{Inner}
use Rattle.sqlite_resolve.specs.Compile.{compiled, planned, meaning, returning, command, timed, read, with_command, first}
use Rattle.sqlite_resolve.specs.Program.{query_to, query, source, sources, viewing, single}
use Rattle.sqlite_resolve.specs.Program.{alone as alone_select, whole, level, with, program}
use Rattle.sqlite_resolve.specs.Program as program_specs
use Rattle.sqlite_resolve.specs.Select.{having, parts, ungrouped, assembled, named, paging, constant_or}
use Rattle.sqlite_resolve.specs.Terms.{number}
use Rattle.sqlite.specs.Listing.{understood}
use Rattle.sqlite_resolve.specs.Body.{table_in, bound, bounds, shared, join, joins, inner_join, left_join, matching, body, result}
use Rattle.sqlite_resolve.specs.Lowering.{take_slot, fresh, max_budget}
use Rattle.sqlite_resolve.specs.Select.{outermost}
use Rattle.sqlite_resolve.specs.Order.{keys, sorts}
use Rattle.sqlite_draft.specs.declared.join.Step.TheVariants.{Left}
unfoldable use Rattle.sqlite_tied.specs.Compute.{everything}

abbrev pub st : ℕ → ℕ → Carried → State
st next n last = record { next = next; steps = []; aggregates = []; budget = n; written = None; last = last }

-- a table that is bound to a name has the column, at this place
module _ (schema : Schema) (b : Bound) (table : Table) (is : slice_get schema.tables b.table ≡ Some table) (mine : List ℕ) (k : ℕ)
    (c : Column) (name : List ℕ)
    (named : column_named table name ≡ Some k) (unshared : b.shared ≡ []) where
  pub hits : same_name b.name mine ≡ true → scope.hit schema (Some mine) name false b ≡ Some (found.Column b.slot b.table k)
  unfolding scope.hit scope.column_in scope.is_among
  hits same = rw (same, is, named)

pub misses : (schema : Schema) (b : Bound) (mine name : List ℕ) → same_name b.name mine ≡ false
    → scope.hit schema (Some mine) name false b ≡ None
unfolding scope.hit
misses schema b mine name other = rw other

abbrev pub cx : Schema → List Bound → List Output → Bool → Bool → scope.Context
cx schema bs columns may alias = record {
  schema = schema;
  levels = record { tables = bs; shown = columns }
      ∷ [];
  may_aggregate = may;
  may_alias = alias;
}

-- of three tables the first, the second or the third has the name
module _ (schema : Schema) (a b c : Bound) (mine name : List ℕ) (slot at k : ℕ) where
  abbrev three : List Bound
  three = a ∷ b ∷ c ∷ []

  pub leads : scope.hit schema (Some mine) name false a ≡ Some (found.Column slot at k) → same_name b.name mine ≡ false
      → same_name c.name mine ≡ false
      → scope.only schema (Some mine) name false three ≡ Ok (Some (found.Column slot at k))
  unfolding scope.only
  leads hit other none = rw (hit, misses schema b mine name other, misses schema c mine name none)

  pub middle : same_name a.name mine ≡ false → scope.hit schema (Some mine) name false b ≡ Some (found.Column slot at k)
      → same_name c.name mine ≡ false
      → scope.only schema (Some mine) name false three ≡ Ok (Some (found.Column slot at k))
  unfolding scope.only
  middle other hit none = rw (misses schema a mine name other, hit, misses schema c mine name none)

  pub third : same_name a.name mine ≡ false → same_name b.name mine ≡ false
      → scope.hit schema (Some mine) name false c ≡ Some (found.Column slot at k)
      → scope.only schema (Some mine) name false three ≡ Ok (Some (found.Column slot at k))
  unfolding scope.only
  third other none hit = rw (misses schema a mine name other, misses schema b mine name none, hit)

-- so it is lowered to this column
module _ (schema : Schema) (bs : List Bound) (table : Table) (mine name : List ℕ) (slot at k : ℕ) (c : Column)
    (only : scope.only schema (Some mine) name false bs ≡ Ok (Some (found.Column slot at k)))
    (is : slice_get schema.tables at ≡ Some table) (there : slice_get table.columns k ≡ Some c) (columns : List Output)
    (may alias : Bool) where
  find_at : scope.find (cx schema bs columns may alias) (Some mine) name ≡ Ok (found.Column slot at k)
  unfolding scope.find scope.in_level
  find_at = rw only

  column_at : (next n : ℕ) (l : Carried) → scope.column (cx schema bs columns may alias) (Some mine) name (st next n l)
      ≡ Ok (col slot (place_of table k), st next n (scope.declared table k c))
  unfolding scope.column scope.term_of scope.column_at
  column_at next n l = rw (find_at, is, there)

  pub lowered_at : (e : Expr) → out-Expr e ≡ Expr-F.Column (Some mine) name → (next n : ℕ) (l : Carried) → nat_lt 1 n ≡ true
      → lower (cx schema bs columns may alias) e (st next n l) ≡ Ok
      (col slot (place_of table k), st next (n - 1) (scope.declared table k c))
  unfolding everything
  lowered_at e reads next n l enough = rw (enough, reads, column_at next (n - 1) (record { collation = None; is_written = false }))

  pub heading_at : (e : Expr) (text : List ℕ) → out-Expr e ≡ Expr-F.Column (Some mine) name
      → heading (cx schema bs columns may alias) e text ≡ c.name
  unfolding heading declared
  heading_at e text reads = rw (reads, find_at, is, there)

-- ---- the slip's terms

abbrev pub slip_bounds : ℕ → ℕ → List Bound
slip_bounds p q =
    record { name = codes "p"; table = p; slot = 1; shared = [] } ∷ record { name = codes "l"; table = q; slot = 2; shared = [] }
    ∷ record { name = codes "h"; table = q; slot = 3; shared = [] } ∷ []

abbrev pub equals : Term → Term → Term
equals x y = op2 (Compare Eq Binary) x y

-- the table of players: that of version 2, or that of version 1
abbrev who : Bool → ℕ → Table
who second tree = if second then player2 tree else player tree

module _ (schema : Schema) (p q s t : ℕ) (pairings : slice_get schema.tables p ≡ Some (pairing s)) where
  on_first : (second : Bool) → slice_get schema.tables q ≡ Some (who second t) → (shown : List Output) (last : Carried) (e a b : Expr)
      → out-Expr e ≡ Expr-F.Binary binary.Eq a b
      → out-Expr a ≡ Expr-F.Column (Some (codes "l")) (codes "no") → out-Expr b ≡ Expr-F.Column (Some (codes "p")) (codes "lo")
      → tests lower (cx schema (slip_bounds p q) shown false false) [] (Some e) (st 4 99989 last)
      ≡ Ok (equals (col 2 0) (col 1 3) ∷ [], st 4 99986 nothing)
  unfolding everything
  on_first true players shown last e a b ise isa isb = simp (ise, isa, isb, pairings, players)
  on_first false players shown last e a b ise isa isb = simp (ise, isa, isb, pairings, players)

  on_second : (second : Bool) → slice_get schema.tables q ≡ Some (who second t) → (shown : List Output) (e a b : Expr)
      → out-Expr e ≡ Expr-F.Binary binary.Eq a b
      → out-Expr a ≡ Expr-F.Column (Some (codes "h")) (codes "no") → out-Expr b ≡ Expr-F.Column (Some (codes "p")) (codes "hi")
      → tests lower (cx schema (slip_bounds p q) shown false false) [] (Some e) (st 4 99986 nothing)
      ≡ Ok (equals (col 3 0) (col 1 4) ∷ [], st 4 99983 nothing)
  unfolding everything
  on_second true players shown e a b ise isa isb = simp (ise, isa, isb, pairings, players)
  on_second false players shown e a b ise isa isb = simp (ise, isa, isb, pairings, players)

  where_slip : (shown : List Output) (e a b c x d y : Expr) → out-Expr e ≡ Expr-F.Binary binary.And a b
      → out-Expr a ≡ Expr-F.Binary binary.Eq c x → out-Expr c ≡ Expr-F.Column (Some (codes "p")) (codes "round")
      → out-Expr x ≡ Expr-F.Parameter 1
      → out-Expr b ≡ Expr-F.Binary binary.Eq d y → out-Expr d ≡ Expr-F.Column (Some (codes "p")) (codes "tab")
      → out-Expr y ≡ Expr-F.Parameter 2
      → tests lower (cx schema (slip_bounds p q) shown false true) [] (Some e) (st 4 99983 nothing)
      ≡ Ok (score_tests, st 4 99976 nothing)
  unfolding everything
  where_slip shown e a b c x d y ise isa isc isx isb isd isy = simp (ise, isa, isc, isx, isb, isd, isy, pairings)

-- the name of a column, after that of its table
abbrev pub Named : Type 0
Named = List ℕ × List ℕ

-- a column is found by its name
pub record Finds (schema : Schema) (bs : List Bound) (n : Named) (o : Output) : Type 0 where
  pub table : Table
  pub slot : ℕ
  pub at : ℕ
  pub k : ℕ
  pub c : Column
  pub only : scope.only schema (Some n.0) n.1 false bs ≡ Ok (Some (found.Column slot at k))
  pub is : slice_get schema.tables at ≡ Some table
  pub there : slice_get table.columns k ≡ Some c
  pub output : o
      ≡ record { name = c.name; is_alias = false; is_column = true; term = col slot (place_of table k); carried = scope.declared table k c }

-- and shown by it
abbrev pub IsColumn : Shown → Named → Type 0
IsColumn s n =
    (e : Expr) × (text : List ℕ) × (out-Shown s ≡ Shown-F.One e None text) × (out-Expr e ≡ Expr-F.Column (Some n.0) n.1)

pub column_is : (e : Expr) (mine name : List ℕ) → out-Expr e ≡ Expr-F.Column (Some mine) name → is_column e ≡ true
unfolding is_column
column_is e mine name reads = rw reads

pub one_shown : (schema : Schema) (bs : List Bound) (s : Shown) (n : Named) (o : Output) → IsColumn s n → Finds schema bs n o
    → (done : List Output)
    (next budget : ℕ) (l : Carried) → nat_lt 1 budget ≡ true
    → shown lower (cx schema bs [] true true) bs done s (st next budget l) ≡ Ok (done ++ o ∷ [], st next (budget - 1) o.carried)
unfolding shown
one_shown schema bs s n o (e, text, shows, reads) h done next budget l enough = rw (
  h.output,
  shows,
  lowered_at schema bs h.table n.0 n.1 h.slot h.at h.k h.c h.only h.is h.there [] true true e reads next budget l enough,
  heading_at schema bs h.table n.0 n.1 h.slot h.at h.k h.c h.only h.is h.there [] true true e text reads,
  column_is e n.0 n.1 reads,
)

abbrev pub AreColumns : List Shown → List Named → Type 0
AreColumns [] [] = Unit {0}
AreColumns [] (n ∷ ns) = ⊥
AreColumns (s ∷ ss) [] = ⊥
AreColumns (s ∷ ss) (n ∷ ns) = IsColumn s n × AreColumns ss ns

abbrev pub AllFound : Schema → List Bound → List Named → List Output → Type 0
AllFound schema bs [] [] = Unit {0}
AllFound schema bs [] (o ∷ os) = ⊥
AllFound schema bs (n ∷ ns) [] = ⊥
AllFound schema bs (n ∷ ns) (o ∷ os) = Finds schema bs n o × AllFound schema bs ns os

abbrev pub Enough : ℕ → List Output → Type 0
Enough n [] = Unit {0}
Enough n (o ∷ os) = (nat_lt 1 n ≡ true) × Enough (n - 1) os

abbrev pub budget_after : ℕ → List Output → ℕ
budget_after n [] = n
budget_after n (o ∷ os) = budget_after (n - 1) os

abbrev pub last_after : Carried → List Output → Carried
last_after l [] = l
last_after l (o ∷ os) = last_after o.carried os

pub all_shown : (schema : Schema) (bs : List Bound) (ss : List Shown) (ns : List Named) (os : List Output) → AreColumns ss ns
    → AllFound schema bs ns os
    → (done : List Output) (next n : ℕ) (l : Carried) → Enough n os
    → outputs_from lower (cx schema bs [] true true) bs done ss (st next n l) ≡ Ok
    (done ++ os, st next (budget_after n os) (last_after l os))
all_shown schema bs [] [] [] are all done next n l enough = ap (λ o. Ok (o, st next n l)) (sym (append-nil done))
all_shown schema bs [] [] (o ∷ os) are all done next n l enough = absurd all
all_shown schema bs [] (x ∷ ns) os are all done next n l enough = absurd are
all_shown schema bs (s ∷ ss) [] os are all done next n l enough = absurd are
all_shown schema bs (s ∷ ss) (x ∷ ns) [] are all done next n l enough = absurd all
all_shown schema bs (s ∷ ss) (x ∷ ns) (o ∷ os) are all done next n l enough = rw (
  one_shown schema bs s x o are.0 all.0 done next n l enough.0,
  all_shown schema bs ss ns os are.1 all.1 (done ++ o ∷ []) next (n - 1) o.carried enough.1,
)
    (ap (λ x. Ok (x, st next (budget_after (n - 1) os) (last_after o.carried os))) (append_assoc done (o ∷ []) os))

pub record IsSource (s : Source) (name alias : List ℕ) (left : Bool) (on : Option Expr) : Type 0 where
  pub origin : (out-Source s).origin ≡ origin.Table name
  pub alias_is : (out-Source s).alias ≡ Some alias
  pub using : (out-Source s).using ≡ []
  pub on_is : (out-Source s).on ≡ on
  pub side : (out-Source s).is_left ≡ left

pub record IsEqual (e : Expr) (mine name other column : List ℕ) : Type 0 where
  pub a : Expr
  pub b : Expr
  pub is : out-Expr e ≡ Expr-F.Binary binary.Eq a b
  pub left : out-Expr a ≡ Expr-F.Column (Some mine) name
  pub right : out-Expr b ≡ Expr-F.Column (Some other) column

record IsGiven (e : Expr) (name : List ℕ) (n : ℕ) : Type 0 where
  a : Expr
  b : Expr
  is : out-Expr e ≡ Expr-F.Binary binary.Eq a b
  left : out-Expr a ≡ Expr-F.Column (Some (codes "p")) name
  right : out-Expr b ≡ Expr-F.Parameter n

record IsSlip (players : List ℕ) (s : Select) (wanted : List Shown) : Type 0 where
  with : (out-Select s).with ≡ []
  others : (out-Select s).others ≡ []
  order : (out-Select s).order ≡ []
  limit : (out-Select s).limit ≡ None
  offset : (out-Select s).offset ≡ None
  core : Core
  first : (out-Select s).first ≡ core
  a : Source
  b : Source
  c : Source
  from : (out-Core core).from ≡ a ∷ b ∷ c ∷ []
  shows : (out-Core core).shown ≡ wanted
  group : (out-Core core).group ≡ []
  having : (out-Core core).having ≡ None
  distinct : (out-Core core).distinct ≡ false
  e : Expr
  x : Expr
  y : Expr
  filter : (out-Core core).filter ≡ Some e
  both : out-Expr e ≡ Expr-F.Binary binary.And x y
  round : IsGiven x (codes "round") 1
  tab : IsGiven y (codes "tab") 2
  on_l : Expr
  on_h : Expr
  one : IsSource a (codes "pairing") (codes "p") false None
  two : IsSource b players (codes "l") true (Some on_l)
  three' : IsSource c players (codes "h") true (Some on_h)
  l : IsEqual on_l (codes "l") (codes "no") (codes "p") (codes "lo")
  h : IsEqual on_h (codes "h") (codes "no") (codes "p") (codes "hi")

-- its name is the same whatever its tree is
abbrev named_as : Bool → List ℕ
named_as second = if second then codes "player2" else codes "player"

who_tree : (second : Bool) (tree : ℕ) → (who second tree).tree ≡ tree
who_tree true tree = refl
who_tree false tree = refl

who_named : (second : Bool) (tree : ℕ) → (who second tree).name ≡ named_as second
who_named true tree = refl
who_named false tree = refl

module _ (schema : Schema) (p q s t : ℕ) (second : Bool) (pairings : IsThere schema p (pairing s))
    (players : IsThere schema q (who second t)) where
  players_named : table_named schema (named_as second) ≡ Some q
  players_named = subst (λ name. table_named schema name ≡ Some q) (who_named second t) players.named

  slip_bound : (sel : Select) (wanted : List Shown) (h : IsSlip (named_as second) sel wanted)
      → bounds schema (h.a ∷ h.b ∷ h.c ∷ []) (fresh 1 max_budget) ≡ Ok (slip_bounds p q, st 4 max_budget nothing)
  unfolding bounds bound table_in take_slot
  slip_bound sel wanted h = rw (
    h.one.origin,
    h.one.alias_is,
    h.one.using,
    pairings.named,
    h.two.origin,
    h.two.alias_is,
    h.two.using,
    players_named,
    h.three'.origin,
    h.three'.alias_is,
    h.three'.using,
    players_named,
  )

  abbrev slip_steps : List Step
  slip_steps = Inner s ∷ Left t (equals (col 2 0) (col 1 3) ∷ []) ∷ Left t (equals (col 3 0) (col 1 4) ∷ []) ∷ []

  slip_joined : (sel : Select) (wanted : List Shown) (h : IsSlip (named_as second) sel wanted) (columns : List Output) (last : Carried)
      → joins lower (cx schema (slip_bounds p q) columns false true) (slip_bounds p q) (h.a ∷ h.b ∷ h.c ∷ []) (st 4 99989 last)
      ≡ Ok (record { steps = slip_steps; filter = [] }, st 4 99983 nothing)
  unfolding joins join shared inner_join left_join tests
  slip_joined sel wanted h columns last = rw (
    h.one.on_is,
    h.one.using,
    h.one.side,
    pairings.is,
    h.two.side,
    h.two.on_is,
    players.is,
    who_tree second t,
    on_first schema p q s t pairings.is second players.is columns last h.on_l h.l.a h.l.b h.l.is h.l.left h.l.right,
    h.three'.side,
    h.three'.on_is,
    on_second schema p q s t pairings.is second players.is columns h.on_h h.h.a h.h.b h.h.is h.h.left h.h.right,
  )

  module _ (sel : Select) (wanted : List Shown) (h : IsSlip (named_as second) sel wanted) (names : List Named) (columns : List Output)
      (are : AreColumns wanted names) (all : AllFound schema (slip_bounds p q) names columns) (enough : Enough max_budget columns)
      (left : budget_after max_budget columns ≡ 99989) where
    shows_at : result lower (outermost schema) (record { tables = slip_bounds p q; shown = [] }) h.core (st 4 max_budget nothing)
        ≡ Ok (columns, st 4 99989 (last_after nothing columns))
    unfolding result outputs
    shows_at = rw (h.shows, all_shown schema (slip_bounds p q) wanted names columns are all [] 4 max_budget nothing enough, left)

    body_at : body lower (outermost schema) h.core (fresh 1 max_budget)
        ≡ Ok (
          record { level = record { tables = slip_bounds p q; shown = columns }; steps = slip_steps; filter = score_tests },
          st 4 99976 nothing,
        )
    unfolding body matching
    body_at = rw (
      h.from,
      slip_bound sel wanted h,
      shows_at,
      slip_joined sel wanted h columns (last_after nothing columns),
      h.filter,
      where_slip schema p q s t pairings.is columns h.e h.x h.y h.round.a h.round.b h.tab.a h.tab.b h.both h.round.is h.round.left
          h.round.right h.tab.is h.tab.left h.tab.right,
    )

    abbrev drafted : program_specs.Shown
    drafted = (
      ungrouped slip_steps score_tests columns false [] (lit (value.Int (negsuc 0))) (number 0),
      map (λ (o : Output). o.name) columns,
      map (λ (o : Output). o.carried.collation) columns,
    )

    named_at : named schema h.core [] (lit (value.Int (negsuc 0)), number 0) ≡ Ok drafted
    unfolding named parts keys having sorts assembled tests
    named_at = rw (body_at, h.group, h.having, h.distinct)

    query_at : query schema sel ≡ Ok (drafted, [])
    unfolding query query_to level with whole alone_select single sources source viewing paging constant_or
    query_at = rw (h.with, h.limit, h.offset, h.others, h.first, h.order, h.from, h.one.origin, h.two.origin, h.three'.origin, named_at)

    slip_compiled : (sql : List ℕ) (p' : Parsed) (prog : Program) → first sql ≡ Ok p' → p'.statement ≡ written.Select sel → p'.formats ≡ []
        → program schema [] drafted.0 ≡ Ok prog
        → compiled schema sql ≡ Ok (with_command p' ([], (command'.Select prog drafted.1, None)))
    unfolding compiled planned meaning returning command timed read
    slip_compiled sql p' prog reads is formats typed = rw (reads, is, formats, query_at, typed)

-- ---- the columns of the slip

abbrev pub bp : ℕ → Bound
bp p = record { name = codes "p"; table = p; slot = 1; shared = [] }

abbrev pub bl : ℕ → Bound
bl q = record { name = codes "l"; table = q; slot = 2; shared = [] }

abbrev pub bh : ℕ → Bound
bh q = record { name = codes "h"; table = q; slot = 3; shared = [] }

abbrev pub of_match : ℕ → ℕ → Column → Output
of_match s k c =
    record {
      name = c.name;
      is_alias = false;
      is_column = true;
      term = col 1 (place_of (pairing s) k);
      carried = scope.declared
          (pairing s) k c;
    }

abbrev name_column : Column
name_column = plain (codes "name") Text true

abbrev of_player : Bool → ℕ → ℕ → Output
of_player second t slot = record {
  name = codes "name";
  is_alias = false;
  is_column = true;
  term = col slot 2;
  carried = scope.declared (who second t) 1 name_column;
}

name_at : (second : Bool) (t : ℕ) → column_named (who second t) (codes "name") ≡ Some 1
unfolding everything
name_at true t = refl
name_at false t = refl

name_is : (second : Bool) (t : ℕ) → slice_get (who second t).columns 1 ≡ Some name_column
name_is true t = refl
name_is false t = refl

name_place : (second : Bool) (t : ℕ) → place_of (who second t) 1 ≡ 2
unfolding everything
name_place true t = refl
name_place false t = refl

module _ (schema : Schema) (p q s : ℕ) (pairings : slice_get schema.tables p ≡ Some (pairing s)) where
  pub match_only : (k : ℕ) (c : Column) → column_named (pairing s) c.name ≡ Some k
      → scope.only schema (Some (codes "p")) c.name false (slip_bounds p q) ≡ Ok (Some (found.Column 1 p k))
  unfolding everything
  match_only k c found_at = leads schema (bp p) (bl q) (bh q) (codes "p") c.name 1 p k
      (hits schema (bp p) (pairing s) pairings (codes "p") k c c.name found_at refl refl) refl refl

  pub in_match : (k : ℕ) (c : Column) → column_named (pairing s) c.name ≡ Some k → slice_get (pairing s).columns k ≡ Some c
      → Finds schema (slip_bounds p q) (codes "p", c.name) (of_match s k c)
  unfolding everything
  in_match k c found_at there = record {
    table = pairing s;
    slot = 1;
    at = p;
    k = k;
    c = c;
    only = match_only k c found_at;
    is = pairings;
    there = there;
    output = refl;
  }

module _ (schema : Schema) (p q s t : ℕ) (second : Bool) (players : slice_get schema.tables q ≡ Some (who second t)) where
  placed_at : (slot : ℕ) → of_player second t slot
      ≡ record {
        name = codes "name";
        is_alias = false;
        is_column = true;
        term = col slot
            (place_of (who second t) 1);
        carried = scope.declared (who second t) 1 name_column;
      }
  placed_at slot =
      ap (λ place. (let o : Output = record (of_player second t slot) { term = col slot place } in o)) (sym (name_place second t))

  in_low : Finds schema (slip_bounds p q) (codes "l", codes "name") (of_player second t 2)
  unfolding everything
  in_low = record {
    table = who second t;
    slot = 2;
    at = q;
    k = 1;
    c = name_column;
    only = middle schema (bp p) (bl q) (bh q) (codes "l") (codes "name") 2 q 1 refl
        (hits schema (bl q) (who second t) players (codes "l") 1 name_column (codes "name") (name_at second t) refl refl) refl;
    is = players;
    there = name_is second t;
    output = placed_at 2;
  }

  in_high : Finds schema (slip_bounds p q) (codes "h", codes "name") (of_player second t 3)
  unfolding everything
  in_high = record {
    table = who second t;
    slot = 3;
    at = q;
    k = 1;
    c = name_column;
    only = third schema (bp p) (bl q) (bh q) (codes "h") (codes "name") 3 q 1 refl refl
        (hits schema (bh q) (who second t) players (codes "h") 1 name_column (codes "name") (name_at second t) refl refl);
    is = players;
    there = name_is second t;
    output = placed_at 3;
  }

abbrev slip_names : List Named
slip_names =
    (codes "p", codes "round") ∷ (codes "p", codes "tab") ∷ (codes "p", codes "lo") ∷ (codes "p", codes "hi") ∷ (codes "p", codes "swapped")
    ∷ (codes "p", codes "done") ∷ (codes "p", codes "x") ∷ (codes "p", codes "y") ∷ (codes "p", codes "d") ∷ (codes "l", codes "name")
    ∷ (codes "h", codes "name") ∷ []

abbrev slip_columns : Bool → ℕ → ℕ → List Output
slip_columns second s t =
    of_match s 0 (number_column (codes "round")) ∷ of_match s 1 (number_column (codes "tab")) ∷ of_match s 2 (number_column (codes "lo"))
    ∷ of_match s 3 (number_column (codes "hi")) ∷ of_match s 4 (number_column (codes "swapped")) ∷ of_match s 5
    (number_column (codes "done"))
    ∷ of_match s 6 (number_column (codes "x")) ∷ of_match s 7 (number_column (codes "y")) ∷ of_match s 8 (number_column (codes "d"))
    ∷ of_player second t 2 ∷ of_player second t 3 ∷ []

slip_found : (schema : Schema) (p q s t : ℕ) (second : Bool) → slice_get schema.tables p ≡ Some (pairing s)
    → slice_get schema.tables q ≡ Some (who second t) → AllFound schema (slip_bounds p q) slip_names (slip_columns second s t)
unfolding everything
slip_found schema p q s t second pairings players =
    let one = in_match schema p q s pairings in (
      one 0 (number_column (codes "round")) refl refl,
      (
        one 1 (number_column (codes "tab")) refl refl,
        (
          one 2 (number_column (codes "lo")) refl refl,
          (
            one 3 (number_column (codes "hi")) refl refl,
            (
              one 4 (number_column (codes "swapped")) refl refl,
              (
                one 5 (number_column (codes "done")) refl refl,
                (
                  one 6 (number_column (codes "x")) refl refl,
                  (
                    one 7 (number_column (codes "y")) refl refl,
                    (
                      one 8 (number_column (codes "d")) refl refl,
                      (
                        in_low schema p q s t second players,
                        (in_high schema p q s t second players, tt),
                      ),
                    ),
                  ),
                ),
              ),
            ),
          ),
        ),
      ),
    )

-- ---- the statement

abbrev text_of : Bool → List ℕ
text_of second = if second then read_slip2 else read_slip

module _ (schema : Schema) (p q s t : ℕ) (second : Bool) (pairings : IsThere schema p (pairing s))
    (players : IsThere schema q (who second t)) where
  slip_typed : program schema [] (ungrouped (slip_steps schema p q s t second pairings players) score_tests
      (slip_columns second s t) false []
      (lit (value.Int (negsuc 0))) (number 0))
      ≡ Ok (record { lets = []; body = slip_query s t })
  unfolding everything
  slip_typed = by_table second players
    where
      by_table : (b : Bool) (there : IsThere schema q (who b t))
          → program schema [] (ungrouped (slip_steps schema p q s t b pairings there) score_tests (slip_columns b s t) false []
          (lit (value.Int (negsuc 0))) (number 0))
          ≡ Ok (record { lets = []; body = slip_query s t })
      by_table true there = rw (pairings.low, pairings.found, there.low, there.found)
      by_table false there = rw (pairings.low, pairings.found, there.low, there.found)

  slip_accepted : (round table : ℕ) → accepts_program schema [] (slip_query s t) (number_value round ∷ number_value table ∷ []) ≡ true
  unfolding everything
  slip_accepted round table = by_table second players
    where
      by_table : (b : Bool) → IsThere schema q (who b t)
          → accepts_program schema [] (slip_query s t) (number_value round ∷ number_value table ∷ []) ≡ true
      by_table true there = rw (pairings.low, pairings.found, there.low, there.found)
      by_table false there = rw (pairings.low, pairings.found, there.low, there.found)

  slip_is : (sql : List ℕ) (it : Parsed) (sel : Select) → first sql ≡ Ok it → it.statement ≡ written.Select sel → it.formats ≡ []
      → length sql ≤ it.tail → length it.names ≡ 2 → (wanted : List Shown) → IsSlip (named_as second) sel wanted
      → AreColumns wanted slip_names → (round table : ℕ)
      → SelectsWith (number_value round ∷ number_value table ∷ []) sql (slip_query s t) schema
  unfolding understood
  slip_is sql it sel reads is formats whole two wanted h are round table =
      let known = slip_compiled schema p q s t second pairings players sel wanted h slip_names (slip_columns second s t) are
      (slip_found schema p q s t second pairings.is players.is)
      (refl, (refl, (refl, (refl, (refl, (refl, (refl, (refl, (refl, (refl, (refl, tt))))))))))) refl sql it
      (record { lets = []; body = slip_query s t }) reads is formats slip_typed in
      record {
        names = map (λ (o : Output). o.name) (slip_columns second s t);
        is = rw known;
        plain = rw known (refl, refl);
        unlisted = rw known;
        whole = rw known (whole, two);
        typed = slip_accepted round table;
      }

pub slip_means : (second : Bool) {schema : Schema} {p q s t : ℕ} → IsThere schema p (pairing s) → IsThere schema q (who second t)
    → (round table : ℕ)
    → SelectsWith (number_value round ∷ number_value table ∷ []) (text_of second) (slip_query s t) schema
unfolding everything
slip_means true {schema} {p} {q} {s} {t} pairings players = slip_is schema p q s t true pairings players read_slip2 _ _ refl refl refl
    (lit≤ tt) refl _
    (record {
      with = refl;
      others = refl;
      order = refl;
      limit = refl;
      offset = refl;
      core = _;
      first = refl;
      a = _;
      b = _;
      c = _;
      from = refl;
      shows = refl;
      group = refl;
      having = refl;
      distinct = refl;
      e = _;
      x = _;
      y = _;
      filter = refl;
      both = refl;
      round = record { a = _; b = _; is = refl; left = refl; right = refl };
      tab = record { a = _; b = _; is = refl; left = refl; right = refl };
      on_l = _;
      on_h = _;
      one = record { origin = refl; alias_is = refl; using = refl; on_is = refl; side = refl };
      two = record { origin = refl; alias_is = refl; using = refl; on_is = refl; side = refl };
      three' = record { origin = refl; alias_is = refl; using = refl; on_is = refl; side = refl };
      l = record { a = _; b = _; is = refl; left = refl; right = refl };
      h = record { a = _; b = _; is = refl; left = refl; right = refl };
    }) (
      (_, _, refl, refl),
      (
        (_, _, refl, refl),
        (
          (_, _, refl, refl),
          (
            (_, _, refl, refl),
            (
              (_, _, refl, refl),
              (
                (_, _, refl, refl),
                ((_, _, refl, refl), ((_, _, refl, refl), ((_, _, refl, refl), ((_, _, refl, refl), ((_, _, refl, refl), tt))))),
              ),
            ),
          ),
        ),
      ),
    )
slip_means false {schema} {p} {q} {s} {t} pairings players =
    slip_is schema p q s t false pairings players read_slip _ _ refl refl refl (lit≤ tt) refl _
    (record {
      with = refl;
      others = refl;
      order = refl;
      limit = refl;
      offset = refl;
      core = _;
      first = refl;
      a = _;
      b = _;
      c = _;
      from = refl;
      shows = refl;
      group = refl;
      having = refl;
      distinct = refl;
      e = _;
      x = _;
      y = _;
      filter = refl;
      both = refl;
      round = record { a = _; b = _; is = refl; left = refl; right = refl };
      tab = record { a = _; b = _; is = refl; left = refl; right = refl };
      on_l = _;
      on_h = _;
      one = record { origin = refl; alias_is = refl; using = refl; on_is = refl; side = refl };
      two = record { origin = refl; alias_is = refl; using = refl; on_is = refl; side = refl };
      three' = record { origin = refl; alias_is = refl; using = refl; on_is = refl; side = refl };
      l = record { a = _; b = _; is = refl; left = refl; right = refl };
      h = record { a = _; b = _; is = refl; left = refl; right = refl };
    }) (
      (_, _, refl, refl),
      (
        (_, _, refl, refl),
        (
          (_, _, refl, refl),
          (
            (_, _, refl, refl),
            (
              (_, _, refl, refl),
              (
                (_, _, refl, refl),
                ((_, _, refl, refl), ((_, _, refl, refl), ((_, _, refl, refl), ((_, _, refl, refl), ((_, _, refl, refl), tt))))),
              ),
            ),
          ),
        ),
      ),
    )
