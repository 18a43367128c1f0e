-- What one more match of a round or of a stage makes of the tables.
use Rattle.er_store.proofs.Prelude.{pairing_rows_from, bracket_rows_from, common_steps, ◌≡◌, ◌<◌, ◌+◌, ℕ, zero, suc, ℤ, length, List, []}
use Rattle.er_store.proofs.Prelude.{◌∷◌, ◌++◌, map, true, refl, sym, ap, ◌∙◌, arith, append-nil, not-suc-le-zero, get_or, take, ◌≤◌}
use Rattle.er_store.proofs.Prelude.{IsPermutation, map-append, take_all, take_more, Row, Int, put_row, rowid, Database, State, is_int}
use Rattle.er_store.proofs.Prelude.{Place, rows_in, rows_with, PairingTable, Match, Round, PairingRow, EventValue, with_round, pairing_row}
use Rattle.er_store.proofs.Prelude.{round_rows, pairing_rows, TallyRow, pairing_columns, stored_pairing, RepresentsWith, IsKeyed, Puts}
use Rattle.er_store.proofs.Prelude.{LeavesOthers}
use Rattle.er_store.proofs.Prelude.{BringsToWith, all_from_test, test_from_all, BracketTable, BracketRow, with_stage, bracket_row}
use Rattle.er_store.proofs.Prelude.{stage_rows, bracket_rows, bracket_columns, stored_slot, Layout}
use Rattle.sqlite_trees.proofs.TreeLemmas.{IsTable-put_row, all-put_row}
use Rattle.er_store.proofs.{Together.{keeps_as, pairings_set, leaves_then, row_put, bracket_set}}
use Rattle.er_store.proofs.{Grouped.{rows_more, pairing_rows_are, newest_more}}
use Rattle.er_store.proofs.Grouped.{bracket_rows_are}

-- ---- the rows of one more round

-- the row of the match after these
abbrev pub next_row : EventValue → List Match → Match → PairingRow
next_row e before m = pairing_row (length e.stored + 1) (length before + 1, m)

pairing_none : (e : EventValue) → pairing_rows (with_round e []) ≡ pairing_rows e
pairing_none e = grind (arith, common_steps, append-nil, pairing_rows_are, rows_more, round_rows, with_round)

-- ---- the rowids

pub keyed_put : (id : ℤ) (columns : Row) (rows : List Row) → IsKeyed rows → IsKeyed (put_row (Int id ∷ columns) rows)
keyed_put id columns rows keyed = record {
  rise = IsTable-put_row (Int id ∷ columns) rows keyed.rise;
  numbers = test_from_all (λ x. is_int (rowid x)) (put_row (Int id ∷ columns) rows)
      (all-put_row (λ x. is_int (rowid x) ≡ true) (Int id ∷ columns) rows refl (all_from_test (λ x. is_int (rowid x)) rows keyed.numbers));
}

-- ---- the tables with one match more of a round

-- The round has one match more.
pub pairing_added : (e : EventValue) (before : List Match) (m : Match) (id : ℤ) {l : Layout} {old new : State} {s : ℕ}
    {kept : List TallyRow} → RepresentsWith l old.now (with_round e before) s kept
    → Puts (l.tree PairingTable) (stored_pairing id (next_row e before m)) old new
    → BringsToWith l old new (with_round e (before ++ m ∷ [])) s kept
pairing_added e before m id {l} {old} represents put =
    let row = next_row e before m in
    let all = newest_more pairing_row (λ (r : Round). r.matches) pairing_rows_from pairing_rows_are e.stored (record { matches = before })
    (record { matches = before ++ m ∷ [] }) m refl in
    pairings_set represents (with_round e (before ++ m ∷ [])).stored put.goes
    (row_put represents PairingTable _ (pairing_columns row) _ put refl
    (ap (map pairing_columns) all ∙ map-append pairing_columns (pairing_rows (with_round e before)) (row ∷ [])))
    (rw put.rows (keyed_put id _ (old.now.trees (l.tree PairingTable)) represents.has.keyed.pairings))

-- tables that show the same rows of another event represent that one
pub represents_as : {l : Layout} {db : Database} {e f : EventValue} {s : ℕ} {kept : List TallyRow} → f.rounds ≡ e.rounds
    → f.players ≡ e.players → ((table : Place) → IsPermutation (rows_in l db table) (rows_with l.version e s kept table)
    → IsPermutation (rows_in l db table) (rows_with l.version f s kept table)) → RepresentsWith l db e s kept
    → RepresentsWith l db f s kept
represents_as rounds players same represents = record {
  low = represents.low;
  keeps = keeps_as rounds players represents.keeps;
  has = record { tables = represents.has.tables; rows = λ table. same table (represents.has.rows table); keyed = represents.has.keyed };
}

-- a round of no match has no row
pub none_added : (e : EventValue) {l : Layout} {db : Database} {s : ℕ} {kept : List TallyRow}
    → RepresentsWith l db e s kept → RepresentsWith l db (with_round e []) s kept
none_added e = represents_as refl refl (elim [ PairingTable ↦ λ rows. rw (pairing_none e) rows | _ ↦ λ rows. rows ])

-- ---- matches, one after the other

-- nothing has happened between the two
pub record Same (old new : State) : Type 0 where
  pub is_open : new.is_open ≡ old.is_open
  pub mode : new.in_transaction ≡ old.in_transaction
  pub now_is : new.now ≡ old.now
  pub committed_is : new.committed ≡ old.committed

pub same_leaves : {l : Layout} {old mid new : State} → Same old mid → LeavesOthers l mid new → LeavesOthers l old new
same_leaves {l} {old} {mid} {new} same leaves = record {
  continues = record {
    was = sym same.mode ∙ leaves.continues.was;
    shows = record {
      was_open = sym same.is_open ∙ leaves.continues.shows.was_open;
      is_open = leaves.continues.shows.is_open;
      now_is = leaves.continues.shows.now_is;
      committed_is = leaves.continues.shows.committed_is ∙ same.committed_is;
      mode = leaves.continues.shows.mode;
    };
    sound = leaves.continues.sound;
  };
  keeps = rw same.now_is at leaves.keeps;
}

-- `count` matches are stored, of a round or a stage that an event has with them
pub record Adds (l : Layout) (event : List Match → EventValue) (count : ℕ) (matches : List Match) (serial : ℕ) (totals : List TallyRow)
    (old new : State) : Type 0 where
  pub none : count ≡ 0 → Same old new
  pub some : 0 < count → LeavesOthers l old new
  pub represents : RepresentsWith l new.now (event matches) serial totals

pub adds_none : (s : State) (event : List Match → EventValue) (serial : ℕ) → {l : Layout} {totals : List TallyRow}
    → RepresentsWith l s.now (event []) serial totals → Adds l event 0 [] serial totals s s
adds_none s event serial represents =
    record {
      none = λ _. record { is_open = refl; mode = refl; now_is = refl; committed_is = refl };
      some = λ never. absurd (not-suc-le-zero never);
      represents = represents;
    }

pub adds_one : {l : Layout} {old mid new : State} {event : List Match → EventValue} {count : ℕ} {before after : List Match} {serial : ℕ}
    {totals : List TallyRow} → Adds l event count before serial totals old mid → BringsToWith l mid new (event after) serial totals
    → Adds l event (count + 1) after serial totals old new
adds_one {l} {old} {mid} {new} {event} {count} was made =
    record { none = λ never. absurd (omega (arith, never)); some = λ _. leaves count was.none was.some; represents = made.represents }
  where
    leaves : (n : ℕ) → (n ≡ 0 → Same old mid) → (0 < n → LeavesOthers l old mid) → LeavesOthers l old new
    leaves zero none some = same_leaves (none refl) made.leaves
    leaves (suc n) none some = leaves_then (some (omega arith)) made.leaves

-- the next match of a list is stored
pub adds_next : {l : Layout} {old mid new : State} {event : List Match → EventValue} {serial : ℕ} {totals : List TallyRow} (at : ℕ)
    (matches : List Match) (m : Match)
    → at < length matches → m ≡ get_or matches at m → Adds l event at (take at matches) serial totals old mid
    → BringsToWith l mid new (event (take at matches ++ m ∷ [])) serial totals
    → Adds l event (at + 1) (take (at + 1) matches) serial totals old new
adds_next at matches m below is was made = adds_one was (rw (take_more matches at m below, ← is) made)

-- and all are
pub adds_all : {l : Layout} {old new : State} {event : List Match → EventValue} {serial : ℕ} {totals : List TallyRow}
    (at : ℕ) (matches : List Match) → 0 < length matches → length matches ≤ at → Adds l event at (take at matches) serial totals old new
    → BringsToWith l old new (event matches) serial totals
adds_all at matches some past adds =
    record { leaves = adds.some (omega arith); represents = rw (take_all at matches past) at adds.represents }

-- ---- the rows of one more stage

-- the row of the match after these
abbrev pub next_slot : EventValue → List Match → Match → BracketRow
next_slot e before m = bracket_row (length e.bracket.stages + 1) (length before + 1, m)

slots_none : (e : EventValue) → bracket_rows (with_stage e []) ≡ bracket_rows e
slots_none e = grind (arith, common_steps, append-nil, bracket_rows_are, rows_more, stage_rows, with_stage)

-- ---- the tables with one match more of a stage

-- The stage has one match more.
pub slot_added : (e : EventValue) (before : List Match) (m : Match) (id : ℤ) {l : Layout} {old new : State} {s : ℕ} {kept : List TallyRow}
    → RepresentsWith l old.now (with_stage e before) s kept → Puts (l.tree BracketTable) (stored_slot id (next_slot e before m)) old new
    → BringsToWith l old new (with_stage e (before ++ m ∷ [])) s kept
slot_added e before m id {l} {old} represents put =
    let all = newest_more bracket_row (λ ms. ms) bracket_rows_from bracket_rows_are e.bracket.stages before (before ++ m ∷ []) m refl in
    bracket_set represents (with_stage e (before ++ m ∷ [])).bracket.stages put.goes (row_put represents BracketTable _
    (bracket_columns (next_slot e before m)) _ put refl (ap (map bracket_columns) all
    ∙ map-append bracket_columns (bracket_rows (with_stage e before)) (next_slot e before m ∷ [])))
    (rw put.rows (keyed_put id _ (old.now.trees (l.tree BracketTable)) represents.has.keyed.bracket))

-- a stage of no match has no row
pub no_slot_added : (e : EventValue) {l : Layout} {db : Database} {s : ℕ} {kept : List TallyRow}
    → RepresentsWith l db e s kept → RepresentsWith l db (with_stage e []) s kept
no_slot_added e = represents_as refl refl (elim [ BracketTable ↦ λ rows. rw (slots_none e) rows | _ ↦ λ rows. rows ])
