-- What each statement does to the tables.
use Rattle.er_store.proofs.Prelude.{has_rowid, ◌≡◌, ℕ, pos, List, [], ◌∷◌, map, Bool, true, false, Ok, Err, Result, is_ok}
use Rattle.er_store.proofs.Prelude.{true≢false, IsTrue, refl, ap, ◌∙◌, ◌≤◌, is_eq, IsPermutation-sym, Int, Text, Row}
use Rattle.er_store.proofs.Prelude.{value_cmp-Int, Term, eval_all, Update, next_rowid, rowid, without_rowid, put_row, State}
use Rattle.er_store.proofs.Prelude.{one_permutation, Value, EventTable, PairingTable, BracketTable}
use Rattle.er_store.proofs.Prelude.{TallyTable, Phase, PairingRow, BracketRow}
use Rattle.er_store.proofs.Prelude.{EventValue, with_phase, flag, event_row, TallyRow, event, player, pairing, bracket, tally, insert_event}
use Rattle.er_store.proofs.Prelude.{insert_player, insert_pairing, insert_slot, insert_tally, set_serial, set_phase, number_value}
use Rattle.er_store.proofs.Prelude.{event_columns, pairing_columns, bracket_columns, tally_columns}
use Rattle.er_store.proofs.Prelude.{event_places, stored_event, stored_player}
use Rattle.er_store.proofs.Prelude.{stored_pairing, stored_slot, stored_tally, at_places, HasTablesAt, RepresentsWith, Layout, Puts, Ran}
use Rattle.er_store.proofs.Prelude.{BringsToWith, value_cmp, IsPermutation, Goes, cast_row, player2, insert_player2, stored_player2}
use Rattle.er_event.specs.Rows.{phase_code}
use Rattle.er_store.specs.inside.Making.{IsFound}
use Rattle.er_store.proofs.{Layouts.{found, no_parent}, Writing.{cast_int, cast_null, puts_one, event_rows, replaces}, Together.row_set}
use Rattle.er_store.proofs.Named.{event_means, player_means, player2_means, pairing_means, slot_means, tally_means}
use Rattle.er_store.proofs.{Updates.{serial_means, phase_means}, Meaning.{Means, event_query, serial_terms, phase_terms}}

ok_is_no_err : {A E : Type 0} (a : A) (e : E) → ◌≡◌ {A = Result A E} (Ok a) (Err e) → ⊥
ok_is_no_err a e is = true≢false (ap is_ok is)

-- a call that is refused outside a transaction, and went well, was made inside one
pub inside_ok : {A E : Type 0} (b : Bool) (a : A) (e : E) → (b ≡ false → ◌≡◌ {A = Result A E} (Ok a) (Err e)) → IsTrue b
inside_ok true a e never = refl
inside_ok false a e never = absurd (ok_is_no_err a e (never refl))

-- ---- the rows that are put in

pub puts_player : (num : ℕ) (name : List ℕ) (dropped : Bool) {at tree : ℕ} {old new : State} → IsFound old.now.schema at (player tree)
    → Ran insert_player (number_value num ∷ Text name ∷ Int (flag dropped) ∷ []) old new
    → Puts tree (stored_player num name dropped) old new
puts_player num name dropped {at} {tree} there =
    puts_one (player tree) (stored_player num name dropped) (player_means at tree there) there.is refl (simp (cast_int, cast_null))

pub puts_player2 : (num : ℕ) (name : List ℕ) (dropped : Bool) (joined : ℕ) {at tree : ℕ} {old new : State}
    → IsFound old.now.schema at (player2 tree)
    → Ran insert_player2 (number_value num ∷ Text name ∷ Int (flag dropped) ∷ number_value joined ∷ []) old new
    → Puts tree (stored_player2 num name dropped joined) old new
puts_player2 num name dropped joined {at} {tree} there =
    puts_one (player2 tree) (stored_player2 num name dropped joined) (player2_means at tree there) there.is refl
    (simp (cast_int, cast_null))

abbrev pub event_parameters : ℕ → EventValue → ℕ → Row
event_parameters version e serial =
    number_value version ∷ number_value serial ∷ Text e.name ∷ number_value e.rounds ∷ number_value e.cut
    ∷ number_value (phase_code e.phase) ∷ []

pub puts_event : (version : ℕ) (e : EventValue) (serial : ℕ) {at tree : ℕ} {old new : State} → IsFound old.now.schema at (event tree)
    → Ran insert_event (event_parameters version e serial) old new → Puts tree (stored_event version e serial) old new
puts_event version e serial {at} {tree} there =
    puts_one (event tree) (stored_event version e serial) (event_means at tree there) there.is refl (simp (cast_int, cast_null))

-- a pairing's row takes the next rowid
pub puts_pairing : (r : PairingRow) {l : Layout} {old new : State} → HasTablesAt l old.now.schema
    → Ran insert_pairing (pairing_columns r) old new
    → Puts (l.tree PairingTable) (stored_pairing (next_rowid (old.now.trees (l.tree PairingTable))) r) old new
puts_pairing r {l} {old} has =
    let tree = l.tree PairingTable in
    let there = found l has PairingTable in
    puts_one (pairing tree) (stored_pairing (next_rowid (old.now.trees tree)) r) (pairing_means _ tree there) there.is refl
    (simp (cast_int, cast_null))

-- and so does one of the bracket
pub puts_slot : (r : BracketRow) {l : Layout} {old new : State} → HasTablesAt l old.now.schema → Ran insert_slot (bracket_columns r) old new
    → Puts (l.tree BracketTable) (stored_slot (next_rowid (old.now.trees (l.tree BracketTable))) r) old new
puts_slot r {l} {old} has =
    let tree = l.tree BracketTable in
    let there = found l has BracketTable in
    puts_one (bracket tree) (stored_slot (next_rowid (old.now.trees tree)) r) (slot_means _ tree there) there.is refl
    (simp (cast_int, cast_null))

pub puts_tally : (r : TallyRow) {l : Layout} {old new : State} → HasTablesAt l old.now.schema → Ran insert_tally (tally_columns r) old new
    → Puts (l.tree TallyTable) (stored_tally r) old new
puts_tally r {l} has =
    let there = found l has TallyTable in
    puts_one (tally (l.tree TallyTable)) (stored_tally r) (tally_means _ (l.tree TallyTable) there) there.is refl
    (simp (cast_int, cast_null))

-- ---- the row of the event

pub one_of : (shown : Row → Row) (rows : List Row) (row : Row) → map shown rows ≡ row ∷ []
    → (r : Row) × (rows ≡ r ∷ []) × (shown r ≡ row)
one_of shown [] row e = absurd (cc)
one_of shown (r ∷ []) row e = (r, refl, cc)
one_of shown (r ∷ x ∷ more) row e = absurd (cc)

taken_out : (r : Row) → rowid r ≡ Int (pos 1) → without_rowid (pos 1) (r ∷ []) ≡ []
taken_out r id =
    let same : has_rowid (pos 1) r ≡ true = ap (λ v. is_eq (value_cmp v (Int (pos 1)))) id ∙ ap is_eq (value_cmp-Int (pos 1) (pos 1)) in
    rw same

-- the one row of the event gives way to this one
pub record ReplacesEvent (tree : ℕ) (row : Row) (old new : State) : Type 0 where
  pub goes : Goes tree old new
  pub rows : new.now.trees tree ≡ row ∷ []

-- an UPDATE of the event's table by one value does so
pub event_replaced : (l : Layout) (terms : List Term) (x : Value) (was now : Row) {sql : List ℕ} {old new : State}
    → (has : HasTablesAt l old.now.schema) → IsPermutation (map (at_places event_places) (old.now.trees (l.tree EventTable))) (was ∷ [])
    → Means sql (Update (has.has EventTable).0 (record { lets = []; body = event_query (l.tree EventTable) terms })) old.now.schema
    → ((r : Row) → at_places event_places r ≡ was
    → (eval_all terms ((x ∷ []) ∷ r ∷ []) ≡ number_value 1 ∷ now) × (rowid r ≡ Int (pos 1)))
    → cast_row (event (l.tree EventTable)) now ≡ now → Ran sql (x ∷ []) old new → ReplacesEvent (l.tree EventTable) now old new
event_replaced l terms x was now {old = old} has shown means shows cast ran =
    let tree = l.tree EventTable in
    let it = one_of (at_places event_places) (old.now.trees tree) was (one_permutation _ _ (IsPermutation-sym _ _ shown)) in
    let both = shows it.0 it.2 in
    let set = replaces (event tree) (pos 1) now means (no_parent l has EventTable) (found l has EventTable).is
    (λ rows answer. event_rows tree terms old.now.trees (x ∷ []) it.0 rows it.1 answer ∙ ap (λ y. y ∷ []) both.0) cast ran in
    record {
      goes = set.goes;
      rows = set.rows ∙ (ap (λ rs. put_row now (without_rowid (pos 1) rs)) it.1 ∙ ap (put_row now) (taken_out it.0 both.1));
    }

sets_event : (terms : List Term) (v : Value) (phase : Phase) (t : ℕ) → t ≤ 999999
    → {sql : List ℕ} {l : Layout} {old new : State} {e : EventValue} {s : ℕ} {kept : List TallyRow}
    → (it : RepresentsWith l old.now e s kept)
    → Means sql (Update (it.has.tables.has EventTable).0 (record {
      lets = [];
      body = event_query
          (l.tree EventTable) terms;
    })) old.now.schema
    → ((r : Row) → at_places event_places r ≡ event_columns (event_row l.version e s)
    → (eval_all terms ((v ∷ []) ∷ r ∷ []) ≡ number_value 1 ∷ stored_event l.version (with_phase e phase) t) × (rowid r ≡ Int (pos 1)))
    → Ran sql (v ∷ []) old new → BringsToWith l old new (with_phase e phase) t kept
sets_event terms v phase t low {l = l} {e = e} {s} represents means shows ran =
    let set = event_replaced l terms v (event_columns (event_row l.version e s)) (stored_event l.version (with_phase e phase) t)
    represents.has.tables (represents.has.rows EventTable) means shows (simp (cast_int, cast_null)) ran in
    row_set represents phase t low set.goes set.rows

pub serial_set : (t : ℕ) → t ≤ 999999 → {l : Layout} {old new : State} {e : EventValue} {s : ℕ} {kept : List TallyRow}
    → RepresentsWith l old.now e s kept → Ran set_serial (number_value t ∷ []) old new → BringsToWith l old new e t kept
serial_set t low {e = e} {s} represents =
    sets_event serial_terms (number_value t) e.phase t low represents (serial_means (represents.has.tables.has EventTable).1)
    (λ r h. (cc, cc))

pub phase_set : (phase : Phase) {l : Layout} {old new : State} {e : EventValue} {s : ℕ} {kept : List TallyRow}
    → RepresentsWith l old.now e s kept
    → Ran set_phase (number_value (phase_code phase) ∷ []) old new → BringsToWith l old new (with_phase e phase) s kept
phase_set phase {e = e} {s} represents =
    sets_event phase_terms (number_value (phase_code phase)) phase s represents.low represents
    (phase_means (represents.has.tables.has EventTable).1) (λ r h. (cc, cc))
