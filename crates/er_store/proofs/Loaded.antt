-- What the rows of a sound event tell, and a crash leaves of it.
use Rattle.er_store.proofs.Prelude.{common_steps, ◌≡◌, ℕ, List, [], ◌∷◌, refl, ap, ap₂, arith, Row, Trees, Table, Schema}
use Rattle.er_store.proofs.Prelude.{Database, EventValue, Layout, RepresentsIn, IsStoredIn, ◌≤◌, inl, inr, subst}
use Rattle.er_store.proofs.Prelude.{IsPermutation-sym}
use Rattle.er_store.proofs.Prelude.{IsPermutation-trans, Parts, Place, EventTable, PlayerTable, PairingTable, BracketTable, TallyTable}
use Rattle.er_store.proofs.Prelude.{TallyRow, tally_rows, IsSoundButForSeeds, IsRowFault}
use Rattle.std.specs.List.{AllZip}
use Rattle.sqlite_catalog.specs.Listing.{IsSound, IsTableRow}
use Rattle.er_event.specs.Parts.{parts_of, HasRoundRows, IsFirstFault, IsOf}
use Rattle.er_event.specs.Version.{Keeps}
use Rattle.er_store.specs.Loading.{HoldsEventAt, ListsParts, ListsTallies}
use Rattle.er_store.proofs.{Keyed.keyed_permutes, Layouts.has_again}

-- ---- what a crash leaves represents the event again when it is opened

same_table : (row : Row) (a b : Table) → IsTableRow row a → IsTableRow row b → a ≡ b
same_table row a b p q = grind (arith, common_steps)

same_tables : (rows : List Row) (xs ys : List Table) → AllZip IsTableRow rows xs → AllZip IsTableRow rows ys → xs ≡ ys
same_tables [] [] [] p q = refl
same_tables [] [] (y ∷ ys) p q = absurd q
same_tables [] (x ∷ xs) ys p q = absurd p
same_tables (r ∷ rows) [] ys p q = absurd p
same_tables (r ∷ rows) (x ∷ xs) [] p q = absurd q
same_tables (r ∷ rows) (x ∷ xs) (y ∷ ys) p q = ap₂ ◌∷◌ (same_table r x y p.0 q.0) (same_tables rows xs ys p.1 q.1)

-- trees list one list of tables
pub schemas_agree : (a b : Schema) (db : Trees) → IsSound a db → IsSound b db → a.tables ≡ b.tables
schemas_agree a b db p q = same_tables _ a.tables b.tables p.lists.listed.tables q.lists.listed.tables

-- a database whose trees are stored represents the event, whatever schema was read of them
pub represents_again : (v : ℕ) (db : Database) (e : EventValue) (s : ℕ) → IsSound db.schema db.trees → IsStoredIn v e s db.trees
    → RepresentsIn v db e s
represents_again v db e s sound it =
    let here = it.represents in
    let represents = here.represents in
    let tables = schemas_agree it.schema db.schema db.trees it.sound sound in
    record {
      layout = here.layout;
      is = here.is;
      represents = record {
        low = represents.low;
        keeps = represents.keeps;
        has = record {
          tables = has_again here.layout it.schema db.schema tables represents.has.tables;
          rows = represents.has.rows;
          keyed = record { pairings = represents.has.keyed.pairings; bracket = represents.has.keyed.bracket };
        };
      };
    }

-- ---- what the rows of a sound event tell

-- rows of an event are at fault nowhere
pub no_fault : (parts : Parts) (e : EventValue) → IsOf parts e → IsSoundButForSeeds e → (place : Place) → IsFirstFault parts place → ⊥
no_fault parts e it sound =
    let are = it.are in
    let rounds : HasRoundRows parts e = record {
      players = record {
        event = record {
          version = it.version;
          known = it.known;
          keeps = it.keeps.rounds;
          serial = it.serial;
          low = it.low;
          set_up = sound.set_up;
          row = ap (λ (p : Parts). p.event) are;
        };
        rows = ap (λ (p : Parts). p.players) are;
        players = sound.players;
        keeps = it.keeps.players;
      };
      rows = ap (λ (p : Parts). p.pairings) are;
      rounds = sound.rounds;
      missed = sound.missed;
    } in
    elim [
      | EventTable ↦ λ h. h e rounds.players.event
      | PlayerTable ↦ λ h. h.1 e rounds.players
      | PairingTable ↦ λ h. h.1 e rounds
      | BracketTable ↦ λ h. h.1 e (record { rounds = rounds; rows = ap (λ (p : Parts). p.bracket) are; bracket = sound.bracket })
      | TallyTable ↦ λ h. h
    ]

-- nor are the totals of another
pub no_row_fault : (parts : Parts) (e : EventValue) → IsOf parts e → IsSoundButForSeeds e
    → (rows : List TallyRow) → rows ≡ tally_rows e → (place : Place) → IsRowFault parts rows place → ⊥
no_row_fault parts e it sound rows counted place (inl fault) = no_fault parts e it sound place fault
no_row_fault parts e it sound rows counted place (inr totals) = totals.1.other e it sound counted

-- in any order, they are the rows that the tables show
pub shows_event : (l : Layout) (db : Database) (parts : Parts) (e : EventValue) (s : ℕ) → s ≤ 999999 → Keeps l.version e
    → IsSoundButForSeeds e → parts ≡ parts_of l.version e s → ListsParts l db parts
    → (rows : List TallyRow) → rows ≡ tally_rows e → ListsTallies l db rows → HoldsEventAt l db e s
shows_event l db parts e s low keeps sound are lists rows counted totals =
    let whole = subst (ListsParts l db) are lists in
    record {
      low = low;
      keeps = keeps;
      sound = sound;
      rows = elim [
        | EventTable ↦ whole.event.same
        | PlayerTable ↦ whole.players.same
        | PairingTable ↦ IsPermutation-trans _ _ _ whole.pairings.same (IsPermutation-sym _ _ (keyed_permutes e))
        | BracketTable ↦ whole.bracket.same
        | TallyTable ↦ (subst (ListsTallies l db) counted totals).same
      ];
    }
