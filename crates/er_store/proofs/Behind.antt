-- The five tables after those that stand.
use Rattle.er_store.proofs.Prelude.{◌≡◌, ◌≢◌, ◌+◌, ℕ, Bool, true, false, List, [], ◌∷◌, ◌++◌, length, cond, ◌==◌, arith}
use Rattle.er_store.proofs.Prelude.{Some, None, refl, sym, ap, subst, ◌∙◌, true≢false, AllByRecursion, Table, Database}
use Rattle.er_store.proofs.Prelude.{State, Row, player, player2, ne_eqb, if◌then◌else◌, slice_get}
use Rattle.std.proofs.lemmas.Bool.{lt-leb, eq-eqb}
use Rattle.std.proofs.lemmas.Option.{slice_get-get_or}
use Rattle.std.proofs.Math.Seq.{get_or-append_seam}
use Rattle.std.proofs.lemmas.List.{length-append}
use Rattle.std.specs.{List.position_from, Prelude.{find, is_some}}
use Rattle.sqlite_catalog.proofs.LayoutLemmas.{zipped_left}
use Rattle.sqlite_catalog.proofs.StepLemmas.{table_below}
use Rattle.sqlite_catalog.specs.{Listing.IsTableRow, Change.{is_used, next_tree}}
use Rattle.sqlite_rules.proofs.ListLemmas.{all_has, all_from, has_left}
use Rattle.sqlite_rules.specs.Lists.{Has}
use Rattle.sqlite_schema.specs.Names.{same_name}
use Rattle.sqlite.specs.Effect.{IsDatabase}
use Rattle.er_store.proofs.Made.{IsAnywhere, grown, is_free}
use Rattle.er_store.proofs.Named.{IsRead}
use Rattle.er_store.specs.Beside.{KeepsFirst, HasTable}
use Rattle.er_store.specs.inside.Making.{Grows, ContinuesTransaction, MakesTable, IsEmptyAfter, IsFound}
use Rattle.er_store.specs.Tables.{players_of}

-- ---- a table after others is found

module _ {X : Type 0} (test : X → Bool) where
  none_past : (i : ℕ) (xs : List X) → position_from test i xs ≡ None → AllByRecursion (λ x. test x ≡ false) xs
  none_past i [] none = tt
  none_past i (x ∷ xs) none = by_test (test x) refl (none_past (i + 1) xs) none
    where
      by_test : (b : Bool) → test x ≡ b → (position_from test (i + 1) xs ≡ None → AllByRecursion (λ x. test x ≡ false) xs)
          → cond b (Some i) (position_from test (i + 1) xs) ≡ None → (test x ≡ false) × AllByRecursion (λ x. test x ≡ false) xs
      by_test true is rest none = absurd (true≢false (ap is_some none))
      by_test false is rest none = (is, rest none)

  position_past : (i : ℕ) (front rest : List X) (x : X) → AllByRecursion (λ y. test y ≡ false) front → test x ≡ true
      → position_from test i (front ++ x ∷ rest) ≡ Some (i + length front)
  position_past i [] rest x none is = rw is (ap Some (omega arith))
  position_past i (y ∷ front) rest x none is =
      rw none.0 (position_past (i + 1) front rest x none.1 is ∙ ap Some (omega arith))

  find_past : (front rest : List X) (x : X) → AllByRecursion (λ y. test y ≡ false) front → test x ≡ true
      → find test (front ++ x ∷ rest) ≡ Some x
  find_past [] rest x none is = rw is
  find_past (y ∷ front) rest x none is = rw none.0 (find_past front rest x none.1 is)

nth_past : {X : Type 0} (front rest : List X) (x : X) → slice_get (front ++ x ∷ rest) (length front) ≡ Some x
nth_past front rest x =
    slice_get-get_or (front ++ x ∷ rest) (length front) x (omega (arith, length-append front (x ∷ rest)))
    ∙ ap Some (get_or-append_seam front x rest x)

module _ {a b : Database} {table : ℕ → Table} (g : Grows table a b) where
  abbrev tree : ℕ
  tree = next_tree a.schema

  lies : b.schema.tables ≡ a.schema.tables ++ table tree ∷ g.rest
  lies = g.keeps.first.tables ∙ ap (λ ts. a.schema.tables ++ ts) g.behind

  pub found_behind : is_used a.schema (table tree).name ≡ false → same_name (table tree).name (table tree).name ≡ true
      → IsFound b.schema (length a.schema.tables) (table tree)
  found_behind free same =
      let named = none_past (λ t. same_name t.name (table tree).name) 0 a.schema.tables (is_free a.schema (table tree).name free).table in
      record {
        named = ap (position_from (λ t. same_name t.name (table tree).name) 0) lies
            ∙ position_past (λ t. same_name t.name (table tree).name) 0 a.schema.tables g.rest (table tree) named same
            ∙ ap Some (omega arith);
        is = ap (λ ts. slice_get ts (length a.schema.tables)) lies ∙ nth_past a.schema.tables g.rest (table tree);
      }

  pub read_behind : IsAnywhere table → IsDatabase b → IsRead b.schema (table tree)
  read_behind anywhere sound =
      let own : (table tree).tree ≡ tree = ap (λ (t : Table). t.tree) (sym (anywhere tree)) in
      let listed = zipped_left IsTableRow _ b.schema.tables (table tree) sound.lists.listed.tables (grown g) in
      let other : (t : Table) → Has a.schema.tables t → (t.tree == (table tree).tree) ≡ false =
      λ t h. ne_eqb t.tree (table tree).tree (λ same. let low = table_below a.schema t h in omega (arith, same, own, low)) in
      record {
        low = lt-leb _ _ (let low = listed.2.described.low in omega (arith, low));
        found = ap (find (λ t. t.tree == (table tree).tree)) lies
            ∙ find_past (λ t. t.tree == (table tree).tree) a.schema.tables g.rest (table tree) (all_from _ a.schema.tables other)
            (eq-eqb _ _ refl);
      }

-- ---- what is kept

pub has_then : {a b : Database} {table : Table} {rows : List Row} → KeepsFirst a b → HasTable a table rows → HasTable b table rows
has_then {a} {b} {table} keeps has = record {
  listed = subst (λ ts. Has ts table) (sym keeps.first.tables) (has_left a.schema.tables keeps.first.more table has.listed);
  holds = all_has (λ t. b.trees t.tree ≡ a.trees t.tree) a.schema.tables table keeps.rows has.listed ∙ has.holds;
}

pub empty_then : {tree : ℕ} {table : ℕ → Table} {a b : Database} → KeepsFirst a b → IsEmptyAfter tree table a → IsEmptyAfter tree table b
empty_then keeps it = record { at = it.at; later = it.later; has = has_then keeps it.has }

-- a table that is made after another has a later tree
pub made_after : (first : Table) {table : ℕ → Table} {a b : Database} → IsAnywhere table → Has a.schema.tables first → Grows table a b
    → IsEmptyAfter first.tree table b
made_after first {table} {a} {b} anywhere listed g =
    let own : (table (next_tree a.schema)).tree ≡ next_tree a.schema = ap (λ (t : Table). t.tree) (sym (anywhere (next_tree a.schema))) in
    record {
      at = next_tree a.schema;
      later = table_below a.schema first listed;
      has = record { listed = grown g; holds = ap b.trees own ∙ g.empty };
    }

-- ---- the players, and one step after another

pub players_anywhere : (version : ℕ) → IsAnywhere (players_of version)
players_anywhere version tree = by_version (version == 2)
  where
    by_version : (b : Bool) → record (if b then player2 0 else player 0) { tree = tree } ≡ (if b then player2 tree else player tree)
    by_version true = refl
    by_version false = refl

-- if the version is not 2, it is the table of version 1 that was made
pub first_players : (version : ℕ) → version ≢ 2 → {old new : State} → MakesTable player old new → MakesTable (players_of version) old new
first_players version other {old} {new} =
    subst (λ b. MakesTable (λ tree. if b then player2 tree else player tree) old new) (sym (ne_eqb version 2 other))

pub goes_then : {a b c : State} → ContinuesTransaction a b → ContinuesTransaction b c → ContinuesTransaction a c
goes_then p q = record {
  was = p.was;
  shows = record {
    was_open = p.shows.was_open;
    is_open = q.shows.is_open;
    now_is = refl;
    committed_is = q.shows.committed_is ∙ p.shows.committed_is;
    mode = q.shows.mode;
  };
  sound = q.sound;
}
