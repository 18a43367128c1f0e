-- What a text asks for.
use Rattle.std.specs.Prelude.{◌≡◌, ◌≤◌, ℕ, false, true, List, [], map, length, None, pos, negsuc, Result, Ok, Err}
use Rattle.sqlite.specs.Order.{Row}
use Rattle.sqlite.specs.Term.{Term, lit, col}
use Rattle.sqlite.specs.Query.{Query, Join, inner, end}
use Rattle.sqlite.specs.Schema.{Schema}
use Rattle.sqlite.specs.Command.TheVariants.{Select}
use Rattle.sqlite.specs.declared.types.Value.TheVariants.{Int}
use Rattle.sqlite.specs.Collation.TheVariants.{Binary}
use Rattle.sqlite.specs.Listing.{understood, reads_listing}
use Rattle.sqlite_typing.specs.Types.{accepts_program}
use Rattle.sqlite_resolve.specs.declared.compiled.Compiled.{Compiled}
use Rattle.sqlite_resolve.specs.declared.error.CompileError.{CompileError}
use Rattle.sqlite.proofs.Callers.{IsPlain, command_of}

abbrev pub plain_query : Join → List Term → List Term → Query
plain_query from filter project = record {
  from = from;
  filter = filter;
  group = None;
  project = project;
  distinct = false;
  collations = [];
  order = [];
  limit = lit (Int (negsuc 0));
  offset = lit (Int (pos 0));
}

-- these terms of each row of a table, by the columns at some places
abbrev pub table_query : ℕ → List Term → List ℕ → Query
table_query tree terms keys = record (plain_query (inner tree end) [] terms) {
  order = map (λ place. (col 1 place, record { collation = Binary; descending = false })) keys;
}

-- the text is one statement with `n` parameters
abbrev pub TakesParameters : ℕ → List ℕ → Result Compiled CompileError → Type 0
TakesParameters n sql (Ok c) = (length sql ≤ c.tail) × (length c.names ≡ n)
TakesParameters n sql (Err e) = ⊥

-- the text is one SELECT of the schema, with these parameters, by this query
pub record SelectsWith (params : Row) (sql : List ℕ) (q : Query) (schema : Schema) : Type 0 where
  pub names : List (List ℕ)
  pub is : command_of (understood schema sql) ≡ Select (record { lets = []; body = q }) names
  pub plain : IsPlain (understood schema sql)
  pub unlisted : reads_listing schema sql ≡ false
  pub whole : TakesParameters (length params) sql (understood schema sql)
  pub typed : accepts_program schema [] q params ≡ true

-- and with none
abbrev pub Selects : List ℕ → Query → Schema → Type 0
Selects = SelectsWith []
