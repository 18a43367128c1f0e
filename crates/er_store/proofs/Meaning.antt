-- What the texts mean: the terms of their queries.
use Rattle.er_store.proofs.Prelude.{◌≡◌, ◌==◌, ◌∙◌, ◌++◌, ◌∷◌, [], if◌then◌else◌, ℕ, List, pos, false, is_ok, map, refl, sym, true≢false}
use Rattle.er_store.proofs.Prelude.{Schema, Term, col, Query, Command, Null, Int, Binary, Compare, Eq, Gt, ToNumeric, IsPlain, command_of}
use Rattle.er_store.proofs.Prelude.{CanRead, player_places, player2_places, no_schema, understood, listing_schema, everything}
use Rattle.sqlite.specs.{Term.{lit, op1, op2}, Query.{Join, inner, left, end}}
use Rattle.sqlite_sql.specs.declared.ops.BinaryOp.TheVariants.{Coalesce}
use Rattle.er_store.specs.{inside.Queries.plain_query, Tables.find_event}

abbrev pub player_terms : List Term
player_terms = col 0 0 ∷ lit Null ∷ col 0 1 ∷ col 0 2 ∷ []

abbrev pub player2_terms : List Term
player2_terms = col 0 0 ∷ lit Null ∷ col 0 1 ∷ col 0 2 ∷ col 0 3 ∷ []

abbrev pub event_terms : List Term
event_terms = lit (Int (pos 1)) ∷ lit Null ∷ col 0 0 ∷ col 0 1 ∷ col 0 2 ∷ col 0 3 ∷ col 0 4 ∷ col 0 5 ∷ []

abbrev pub pairing_terms : List Term
pairing_terms = lit Null ∷ col 0 0 ∷ col 0 1 ∷ col 0 2 ∷ col 0 3 ∷ col 0 4 ∷ col 0 5 ∷ col 0 6 ∷ col 0 7 ∷ col 0 8 ∷ []

abbrev pub slot_terms : List Term
slot_terms = lit Null ∷ col 0 0 ∷ col 0 1 ∷ col 0 2 ∷ col 0 3 ∷ col 0 4 ∷ col 0 5 ∷ col 0 6 ∷ col 0 7 ∷ []

abbrev pub tally_terms : List Term
tally_terms = col 0 0 ∷ lit Null ∷ col 0 1 ∷ col 0 2 ∷ col 0 3 ∷ col 0 4 ∷ []

-- every row of a table, by these terms
abbrev pub event_query : ℕ → List Term → Query
event_query tree = plain_query (inner tree end) []

-- the old rowid, and then the row with another serial
abbrev pub serial_terms : List Term
serial_terms = col 1 0 ∷ col 1 0 ∷ lit Null ∷ col 1 2 ∷ col 0 0 ∷ col 1 4 ∷ col 1 5 ∷ col 1 6 ∷ col 1 7 ∷ []

-- the row with another version
abbrev pub version_terms : List Term
version_terms = col 1 0 ∷ col 1 0 ∷ lit Null ∷ col 0 0 ∷ col 1 3 ∷ col 1 4 ∷ col 1 5 ∷ col 1 6 ∷ col 1 7 ∷ []

-- the row with another phase
abbrev pub phase_terms : List Term
phase_terms = col 1 0 ∷ col 1 0 ∷ lit Null ∷ col 1 2 ∷ col 1 3 ∷ col 1 4 ∷ col 1 5 ∷ col 1 6 ∷ col 0 0 ∷ []

abbrev pub dropped_terms : List Term
dropped_terms = col 1 0 ∷ col 1 0 ∷ lit Null ∷ col 1 2 ∷ lit (Int (pos 1)) ∷ []

abbrev pub dropped2_terms : List Term
dropped2_terms = col 1 0 ∷ col 1 0 ∷ lit Null ∷ col 1 2 ∷ lit (Int (pos 1)) ∷ col 1 4 ∷ []

-- the rows of a table that pass these tests, by these terms
abbrev pub rows_query : ℕ → List Term → List Term → Query
rows_query tree tests = plain_query (inner tree end) tests

-- only the player whose number is given passes
abbrev pub dropped_tests : List Term
dropped_tests = op2 (Compare Eq Binary) (col 1 0) (col 0 0) ∷ []

-- the old rowid, and then the row with other totals
abbrev pub totals_terms : List Term
totals_terms = col 1 0 ∷ col 1 0 ∷ lit Null ∷ col 0 1 ∷ col 0 2 ∷ col 0 3 ∷ col 0 4 ∷ []

-- the old rowid, and then the row with another score
abbrev pub score_terms : List Term
score_terms = col 1 0 ∷ col 1 0 ∷ col 1 1 ∷ col 1 2 ∷ col 1 3 ∷ col 1 4 ∷ col 1 5 ∷ lit (Int (pos 1)) ∷ col 0 2 ∷ col 0 3 ∷ col 0 4 ∷ []

-- only the match of the round and the table that are given passes
abbrev pub score_tests : List Term
score_tests = op2 (Compare Eq Binary) (col 1 1) (op1 ToNumeric (col 0 0)) ∷ op2 (Compare Eq Binary) (col 1 2) (op1 ToNumeric (col 0 1)) ∷ []

-- the old rowid, and then the row with another score
abbrev pub slot_score_terms : List Term
slot_score_terms = col 1 0 ∷ col 1 0 ∷ col 1 1 ∷ col 1 2 ∷ col 1 3 ∷ col 1 4 ∷ lit (Int (pos 1)) ∷ col 0 2 ∷ col 0 3 ∷ col 0 4 ∷ []

abbrev equals : Term → Term → Term
equals x y = op2 (Compare Eq Binary) x y

-- the pairings of the one tree, each with the player `lo`, if there is one, and the player `hi`, out of the other
abbrev pub slip_from : ℕ → ℕ → Join
slip_from pairings players = inner pairings (left players (equals (col 2 0) (col 1 3) ∷ [])
    (left players (equals (col 3 0) (col 1 4) ∷ []) end))

abbrev pub slip_terms : List Term
slip_terms = col 1 1 ∷ col 1 2 ∷ col 1 3 ∷ col 1 4 ∷ col 1 5 ∷ col 1 6 ∷ col 1 7 ∷ col 1 8 ∷ col 1 9 ∷ col 2 2 ∷ col 3 2 ∷ []

-- only the match of the round and the table that are given passes
abbrev pub slip_query : ℕ → ℕ → Query
slip_query pairings players = plain_query (slip_from pairings players) score_tests slip_terms

-- the pairings of the one tree, each with the totals of `lo`, if there are any, and of `hi`, out of the other
abbrev pub meeting_terms : List Term
meeting_terms =
    col 1 1 ∷ col 1 2 ∷ col 1 6 ∷ col 2 0 ∷ col 2 2 ∷ col 2 3 ∷ col 2 4 ∷ col 2 5 ∷ col 3 0 ∷ col 3 2 ∷ col 3 3 ∷ col 3 4 ∷ col 3 5 ∷ []

-- no bye passes
abbrev pub meeting_tests : List Term
meeting_tests = op2 (Compare Gt Binary) (op2 Coalesce (col 1 3) (lit Null)) (lit (Int (pos 0))) ∷ []

-- by round and table
abbrev pub meeting_query : ℕ → ℕ → Query
meeting_query pairings totals = record (plain_query (slip_from pairings totals) meeting_tests meeting_terms) {
  order = map (λ place. (col 1 place, record { collation = Binary; descending = false })) (1 ∷ 2 ∷ []);
}

-- the text is this command of the schema
pub record Means (sql : List ℕ) (command : Command) (schema : Schema) : Type 0 where
  pub is : command_of (understood schema sql) ≡ command
  pub plain : IsPlain (understood schema sql)

-- the columns at these places
abbrev pub columns : List ℕ → List Term
columns places = map (col 1) places

-- what is read of a player
abbrev pub read_terms : ℕ → List Term
read_terms version = if version == 2 then columns player2_places else columns player_places ++ lit (Int (pos 0)) ∷ []

-- an empty file has none
no_event : is_ok (understood no_schema find_event) ≡ false
unfolding understood listing_schema everything
no_event = refl

pub unreadable : CanRead no_schema → ⊥
unreadable h = true≢false (sym h ∙ no_event)
