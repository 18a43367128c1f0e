-- The steps of a change, put together.
use Rattle.er_store.proofs.Prelude.{◌≡◌, ◌≢◌, ◌≤◌, ◌+◌, ◌||◌, ℕ, length, List, [], ◌∷◌, ◌++◌, map, Bool, false, refl}
use Rattle.er_store.proofs.Prelude.{sym, subst, ◌∙◌, arith, Ordering, Less, Equal, Greater, is_eq, AllByRecursion, IsPermutation}
use Rattle.er_store.proofs.Prelude.{IsPermutation-refl, IsPermutation-sym, IsPermutation-trans, IsPermutation-map, map-append, Row, Table}
use Rattle.er_store.proofs.Prelude.{Trees, put_row, rowid, is_taken, Database, State, Place, EventTable, PlayerTable, PairingTable}
use Rattle.er_store.proofs.Prelude.{BracketTable, TallyTable, EventValue, Phase, new_player, with_player, with_phase, player_row}
use Rattle.er_store.proofs.Prelude.{pairing_rows_from, bracket_rows_from, Player, Round, Match, TallyRow, player_columns}
use Rattle.er_store.proofs.Prelude.{pairing_columns, bracket_columns, tally_columns, stored_event, stored_player, stored_tally, rows_in}
use Rattle.er_store.proofs.Prelude.{rows_with, HasTablesAt, HasRows, RepresentsWith, IsKeyed, IsOther, KeepsRest, Goes, Puts}
use Rattle.er_store.proofs.Prelude.{LeavesOthers, player_shown, Layout, RepresentsIn, tally_rows, shown_of}
use Rattle.er_store.proofs.Prelude.{stored_player2, BringsToWith, all_weaker, value_cmp, All-cons, All-nil}
use Rattle.er_event.specs.Version.{Keeps, KeepsPlayers}
use Rattle.std.proofs.lemmas.List.Elements.{All-append}
use Rattle.std.proofs.lemmas.List.Sorted.{IsPermutation-to_front, IsPermutation-middle, IsPermutation-cons}
use Rattle.std.specs.Ordering.{match_ordering}
use Rattle.er_store.specs.{Representing.IsNew, inside.Making.LieEmpty}
use Rattle.er_store.proofs.{Behind.goes_then, Layouts.{apart, tree_is, of_ours}}

-- ---- a row with a free rowid is one more row

put_apart : (r new : Row) (rs put : List Row) (o : Ordering) (taken : Bool) → (is_eq o || taken) ≡ false
    → (taken ≡ false → IsPermutation (new ∷ rs) put) → IsPermutation (new ∷ r ∷ rs) (match_ordering o (r ∷ put) (new ∷ rs) (new ∷ r ∷ rs))
put_apart r new rs put Less taken free more =
    IsPermutation-trans _ _ _ (IsPermutation-sym _ _ (IsPermutation-middle (r ∷ []) new rs))
    (IsPermutation-cons r (new ∷ rs) put (more free))
put_apart r new rs put Equal taken free more = absurd (cc)
put_apart r new rs put Greater taken free more = IsPermutation-refl (new ∷ r ∷ rs)

pub put_permutes : (new : Row) (rows : List Row) → is_taken rows new ≡ false → IsPermutation (new ∷ rows) (put_row new rows)
put_permutes new [] free = IsPermutation-refl (new ∷ [])
put_permutes new (r ∷ rs) free =
    put_apart r new rs (put_row new rs) (value_cmp (rowid r) (rowid new)) (is_taken rs new) free (put_permutes new rs)

-- the table shows the row and those before it
pub shows_more : (shown : Row → Row) (new : Row) (rows : List Row) (shows : Row) (before : List Row) → is_taken rows new ≡ false
    → shown new ≡ shows → IsPermutation (map shown rows) before → IsPermutation (map shown (put_row new rows)) (before ++ shows ∷ [])
shows_more shown new rows shows before free is was =
    let put = IsPermutation-map shown (new ∷ rows) (put_row new rows) (put_permutes new rows free) in
    let front : IsPermutation (shown new ∷ map shown rows) (shows ∷ before) = rw is (IsPermutation-cons _ _ _ was) in
    IsPermutation-trans _ _ _ (IsPermutation-sym _ _ put)
    (IsPermutation-trans _ _ _ front (IsPermutation-sym _ _ (IsPermutation-to_front before shows)))

-- ---- what a statement on one table leaves of the others

pub kept : (l : Layout) (tree : ℕ) (old new : State) → HasTablesAt l old.now.schema → Goes tree old new → (table : Place)
    → l.tree table ≢ tree → new.now.trees (l.tree table) ≡ old.now.trees (l.tree table)
kept l tree old new has goes table =
    subst (λ k. k ≢ tree → new.now.trees k ≡ old.now.trees k) (tree_is l table)
    (of_ours l has (λ (t : Table). t.tree ≢ tree → new.now.trees t.tree ≡ old.now.trees t.tree) goes.others table)

-- the other tables show what they did
stay : (l : Layout) (tree : ℕ) (old new : State) (wanted : Place → List Row) → HasRows l old.now wanted → Goes tree old new
    → (table : Place) → l.tree table ≢ tree → IsPermutation (rows_in l new.now table) (wanted table)
stay l tree old new wanted has goes table apart = rw (kept l tree old new has.tables goes table apart) (has.rows table)

-- the other tables of these have the same rows
abbrev SameOthers : Layout → Trees → Trees → List Table → Type 0
SameOthers l old new = AllByRecursion (λ (t : Table). IsOther l t.tree → new t.tree ≡ old t.tree)

pub goes_keeps : (l : Layout) (tree : ℕ) (old new : State) → ((t : ℕ) → IsOther l t → t ≢ tree) → Goes tree old new
    → KeepsRest l old.now new.now
goes_keeps l tree old new apart goes = record {
  schema = goes.schema;
  rows = all_weaker _ (λ (t : Table). IsOther l t.tree → new.now.trees t.tree ≡ old.now.trees t.tree)
      (λ t all other. all (apart t.tree other)) old.now.schema.tables goes.others;
}

both_kept : (l : Layout) (a b c : Trees) (tables : List Table) → SameOthers l a b tables → SameOthers l b c tables
    → SameOthers l a c tables
both_kept l a b c [] p q = tt
both_kept l a b c (t ∷ more) p q = (λ other. q.0 other ∙ p.0 other, both_kept l a b c more p.1 q.1)

pub keeps_then : (l : Layout) (a b c : Database) → KeepsRest l a b → KeepsRest l b c → KeepsRest l a c
keeps_then l a b c p q = record {
  schema = q.schema ∙ p.schema;
  rows = both_kept l a.trees b.trees c.trees a.schema.tables p.rows (rw p.schema at q.rows);
}

pub goes_leave : (l : Layout) (tree : ℕ) (old new : State) → ((t : ℕ) → IsOther l t → t ≢ tree) → Goes tree old new → LeavesOthers l old new
goes_leave l tree old new apart goes = record { continues = goes.continues; keeps = goes_keeps l tree old new apart goes }

pub leaves_then : {l : Layout} {a b c : State} → LeavesOthers l a b → LeavesOthers l b c → LeavesOthers l a c
leaves_then {l} {a} {b} {c} p q = record {
  continues = goes_then p.continues q.continues;
  keeps = keeps_then l a.now b.now c.now p.keeps q.keeps;
}

pub makes_then : {l : Layout} {a b c : State} {e f : EventValue} {s : ℕ} {kept new : List TallyRow} → BringsToWith l a b e s kept
    → BringsToWith l b c f s new → BringsToWith l a c f s new
makes_then p q = record { leaves = leaves_then p.leaves q.leaves; represents = q.represents }

-- ---- the changes

-- one table shows other rows, if each that is not this one shows what it did
abbrev Follows : Layout → ℕ → Database → (Place → List Row) → (Place → List Row) → Type 0
Follows l tree db before after =
    (table : Place) → (l.tree table ≢ tree → IsPermutation (rows_in l db table) (before table))
    → IsPermutation (rows_in l db table) (after table)

-- a statement on one table leaves tables that have other rows there
pub rows_set : (l : Layout) (tree : ℕ) {old new : State} {before after : Place → List Row} → HasRows l old.now before → Goes tree old new
    → Follows l tree new.now before after
    → ((l.tree PairingTable ≢ tree → IsKeyed (new.now.trees (l.tree PairingTable))) → IsKeyed (new.now.trees (l.tree PairingTable)))
    → ((l.tree BracketTable ≢ tree → IsKeyed (new.now.trees (l.tree BracketTable))) → IsKeyed (new.now.trees (l.tree BracketTable)))
    → HasRows l new.now after
rows_set l tree {old} {new} {before} has goes follows pairings bracket =
    let at = kept l tree old new has.tables goes in
    record {
      tables = subst (HasTablesAt l) (sym goes.schema) has.tables;
      rows = λ table. follows table (stay l tree old new before has goes table);
      keyed = record {
        pairings = pairings (λ other. rw (at PairingTable other) has.keyed.pairings);
        bracket = bracket (λ other. rw (at BracketTable other) has.keyed.bracket);
      };
    }

-- and makes of the tables those of an event that has these
table_set : (l : Layout) (tree : ℕ) {old new : State} {e f : EventValue} {s t : ℕ} {before after : List TallyRow}
    → ((x : ℕ) → IsOther l x → x ≢ tree) → RepresentsWith l old.now e s before → Goes tree old new → t ≤ 999999 → Keeps l.version f
    → Follows l tree new.now (rows_with l.version e s before) (rows_with l.version f t after)
    → ((l.tree PairingTable ≢ tree → IsKeyed (new.now.trees (l.tree PairingTable))) → IsKeyed (new.now.trees (l.tree PairingTable)))
    → ((l.tree BracketTable ≢ tree → IsKeyed (new.now.trees (l.tree BracketTable))) → IsKeyed (new.now.trees (l.tree BracketTable)))
    → BringsToWith l old new f t after
table_set l tree {old} {new} apart represents goes low keeps follows pairings bracket = record {
  leaves = goes_leave l tree old new apart goes;
  represents = record { low = low; keeps = keeps; has = rows_set l tree represents.has goes follows pairings bracket };
}

-- an event of the same rounds and players can be kept, too
pub keeps_as : {v : ℕ} {e f : EventValue} → f.rounds ≡ e.rounds → f.players ≡ e.players → Keeps v e → Keeps v f
keeps_as rounds players it = record { rounds = λ is. rw rounds (it.rounds is); players = λ is. rw players (it.players is) }

module _ {l : Layout} {old new : State} {e : EventValue} {s : ℕ} {kept : List TallyRow}
    (represents : RepresentsWith l old.now e s kept) where
  -- only the players' rows change
  pub players_set : (players : List Player) → KeepsPlayers l.version players → Goes (l.tree PlayerTable) old new
      → IsPermutation (rows_in l new.now PlayerTable) (map player_columns (map player_row players))
      → BringsToWith l old new (record e { players = players }) s kept
  players_set players fit goes set = table_set l (l.tree PlayerTable) (λ t other. other PlayerTable) represents goes represents.low
      (record { rounds = represents.keeps.rounds; players = fit }) (elim [
        | EventTable ↦ λ same. same (apart l represents.has.tables EventTable PlayerTable refl)
        | PlayerTable ↦ λ same. set
        | PairingTable ↦ λ same. same (apart l represents.has.tables PairingTable PlayerTable refl)
        | BracketTable ↦ λ same. same (apart l represents.has.tables BracketTable PlayerTable refl)
        | TallyTable ↦ λ same. same (apart l represents.has.tables TallyTable PlayerTable refl)
      ]) (λ keyed. keyed (apart l represents.has.tables PairingTable PlayerTable refl))
      (λ keyed. keyed (apart l represents.has.tables BracketTable PlayerTable refl))

  -- only the pairings' rows change
  pub pairings_set : (stored : List Round) → Goes (l.tree PairingTable) old new
      → IsPermutation (rows_in l new.now PairingTable) (map pairing_columns (pairing_rows_from 1 stored))
      → IsKeyed (new.now.trees (l.tree PairingTable))
      → BringsToWith l old new (record e { stored = stored }) s kept
  pairings_set stored goes set keyed = table_set l (l.tree PairingTable) (λ t other. other PairingTable) represents goes represents.low
      (keeps_as refl refl represents.keeps) (elim [
        | EventTable ↦ λ same. same (apart l represents.has.tables EventTable PairingTable refl)
        | PlayerTable ↦ λ same. same (apart l represents.has.tables PlayerTable PairingTable refl)
        | PairingTable ↦ λ same. set
        | BracketTable ↦ λ same. same (apart l represents.has.tables BracketTable PairingTable refl)
        | TallyTable ↦ λ same. same (apart l represents.has.tables TallyTable PairingTable refl)
      ]) (λ _. keyed) (λ keyed. keyed (apart l represents.has.tables BracketTable PairingTable refl))

  -- only the bracket's rows change
  pub bracket_set : (stages : List (List Match)) → Goes (l.tree BracketTable) old new
      → IsPermutation (rows_in l new.now BracketTable) (map bracket_columns (bracket_rows_from 1 stages))
      → IsKeyed (new.now.trees (l.tree BracketTable))
      → BringsToWith l old new (record e { bracket = record { stages = stages } }) s kept
  bracket_set stages goes set keyed = table_set l (l.tree BracketTable) (λ t other. other BracketTable) represents goes represents.low
      (keeps_as refl refl represents.keeps) (elim [
        | EventTable ↦ λ same. same (apart l represents.has.tables EventTable BracketTable refl)
        | PlayerTable ↦ λ same. same (apart l represents.has.tables PlayerTable BracketTable refl)
        | PairingTable ↦ λ same. same (apart l represents.has.tables PairingTable BracketTable refl)
        | BracketTable ↦ λ same. set
        | TallyTable ↦ λ same. same (apart l represents.has.tables TallyTable BracketTable refl)
      ]) (λ keyed. keyed (apart l represents.has.tables PairingTable BracketTable refl)) (λ _. keyed)

  -- only the rows of totals change
  pub tallies_set : (after : List TallyRow) → Goes (l.tree TallyTable) old new
      → IsPermutation (rows_in l new.now TallyTable) (map tally_columns after) → BringsToWith l old new e s after
  tallies_set after goes set = table_set l (l.tree TallyTable) (λ t other. other TallyTable) represents goes represents.low represents.keeps
      (elim [
        | EventTable ↦ λ same. same (apart l represents.has.tables EventTable TallyTable refl)
        | PlayerTable ↦ λ same. same (apart l represents.has.tables PlayerTable TallyTable refl)
        | PairingTable ↦ λ same. same (apart l represents.has.tables PairingTable TallyTable refl)
        | BracketTable ↦ λ same. same (apart l represents.has.tables BracketTable TallyTable refl)
        | TallyTable ↦ λ same. set
      ]) (λ keyed. keyed (apart l represents.has.tables PairingTable TallyTable refl))
      (λ keyed. keyed (apart l represents.has.tables BracketTable TallyTable refl))

  -- only the event's row changes
  pub row_set : (phase : Phase) (t : ℕ) → t ≤ 999999 → Goes (l.tree EventTable) old new
      → new.now.trees (l.tree EventTable) ≡ stored_event l.version (with_phase e phase) t ∷ []
      → BringsToWith l old new (with_phase e phase) t kept
  row_set phase t low goes set = table_set l (l.tree EventTable) (λ t other. other EventTable) represents goes low
      (keeps_as refl refl represents.keeps) (elim [
        | EventTable ↦ λ same. rw set (IsPermutation-refl _)
        | PlayerTable ↦ λ same. same (apart l represents.has.tables PlayerTable EventTable refl)
        | PairingTable ↦ λ same. same (apart l represents.has.tables PairingTable EventTable refl)
        | BracketTable ↦ λ same. same (apart l represents.has.tables BracketTable EventTable refl)
        | TallyTable ↦ λ same. same (apart l represents.has.tables TallyTable EventTable refl)
      ]) (λ keyed. keyed (apart l represents.has.tables PairingTable EventTable refl))
      (λ keyed. keyed (apart l represents.has.tables BracketTable EventTable refl))

  -- a table into which a row was put shows that row and those before it
  pub row_put : (at : Place) (row shows : Row) (all : List Row) → Puts (l.tree at) row old new → shown_of l.version at row ≡ shows
      → all ≡ rows_with l.version e s kept at ++ shows ∷ [] → IsPermutation (rows_in l new.now at) all
  row_put at row shows all put is more = rw (put.rows, more) (shows_more _ row _ shows _ put.free is (represents.has.rows at))

  pub tally_added : (row : TallyRow) → Puts (l.tree TallyTable) (stored_tally row) old new → BringsToWith l old new e s (kept ++ row ∷ [])
  tally_added row put = tallies_set (kept ++ row ∷ []) put.goes
      (row_put TallyTable _ (tally_columns row) _ put refl (map-append tally_columns kept (row ∷ [])))

-- one more player, in a row of either version; version 1 takes nobody who missed a round
player_added : {l : Layout} {old new : State} {e : EventValue} {s : ℕ} {kept : List TallyRow} → RepresentsWith l old.now e s kept
    → (name : List ℕ) (row : Row) → player_shown l.version row ≡ player_columns (player_row (new_player e name))
    → (l.version ≡ 1 → length e.stored ≡ 0) → Puts (l.tree PlayerTable) row old new → BringsToWith l old new (with_player e name) s kept
player_added {e = e} represents name row shows early put =
    let p = new_player e name in
    let IsEarly : Player → Type 0 = λ q. q.joined ≡ 0 in
    players_set represents (e.players ++ p ∷ [])
    (λ first. All-append IsEarly e.players (p ∷ []) (represents.keeps.players first)
    (All-cons IsEarly p [] (early first) (All-nil IsEarly)))
    put.goes (row_put represents PlayerTable row (player_columns (player_row p)) _ put shows (simp map-append))

pub old_player_added : (l : Layout) → l.version ≡ 1 → {old new : State} {e : EventValue} {s : ℕ} {kept : List TallyRow}
    → RepresentsWith l old.now e s kept → (name : List ℕ) → length e.stored ≡ 0
    → Puts (l.tree PlayerTable) (stored_player (length e.players + 1) name false) old new
    → BringsToWith l old new (with_player e name) s kept
old_player_added l is represents name early = player_added represents name _ (rw (is, early) refl) (λ first. early)

pub second_player_added : (l : Layout) → l.version ≡ 2 → {old new : State} {e : EventValue} {s : ℕ} {kept : List TallyRow}
    → RepresentsWith l old.now e s kept → (name : List ℕ)
    → Puts (l.tree PlayerTable) (stored_player2 (length e.players + 1) name false (length e.stored)) old new
    → BringsToWith l old new (with_player e name) s kept
second_player_added l is represents name = player_added represents name _ (rw is refl) (λ first. absurd (cc))

-- ---- creation

-- the event's row is put into the five tables, which have no rows
new_rows : {version : ℕ} {tree : Place → ℕ} {mid new : State} {e : EventValue} → IsNew e
    → LieEmpty (record { version = version; tree = tree }) mid.now → Puts (tree EventTable) (stored_event version e 0) mid new
    → HasRows (record { version = version; tree = tree }) new.now (rows_with version e 0 (tally_rows e))
new_rows {version} {tree} {mid} {new} fresh none put =
    let l : Layout = record { version = version; tree = tree } in
    let at : (p : Place) → l.tree p ≢ tree EventTable → new.now.trees (tree p) ≡ [] =
    λ p other. kept l (tree EventTable) mid new none.stand put.goes p other ∙ none.empty p in
    let far = apart l none.stand in
    record {
      tables = subst (HasTablesAt l) (sym put.goes.schema) none.stand;
      rows = elim [
        | EventTable ↦ rw (put.rows, none.empty EventTable) (IsPermutation-refl _)
        | PlayerTable ↦ rw (at PlayerTable (far PlayerTable EventTable refl), fresh.players) (IsPermutation-refl [])
        | PairingTable ↦ rw (at PairingTable (far PairingTable EventTable refl), fresh.stored) (IsPermutation-refl [])
        | BracketTable ↦ rw (at BracketTable (far BracketTable EventTable refl), fresh.bracket) (IsPermutation-refl [])
        | TallyTable ↦ rw (at TallyTable (far TallyTable EventTable refl), fresh.players) (IsPermutation-refl [])
      ];
      keyed = record {
        pairings = rw (at PairingTable (far PairingTable EventTable refl)) (record { rise = tt; numbers = refl });
        bracket = rw (at BracketTable (far BracketTable EventTable refl)) (record { rise = tt; numbers = refl });
      };
    }

pub event_put : {version : ℕ} {tree : Place → ℕ} {mid new : State} {e : EventValue} → IsNew e → Keeps version e
    → LieEmpty (record { version = version; tree = tree }) mid.now → Puts (tree EventTable) (stored_event version e 0) mid new
    → RepresentsIn version new.now e 0
event_put {version} {tree} fresh keeps none put = record {
  layout = record { version = version; tree = tree };
  is = refl;
  represents = record { low = omega arith; keeps = keeps; has = new_rows fresh none put };
}
