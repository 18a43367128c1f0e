-- Where the tables of a layout stand.
use Rattle.er_store.proofs.Prelude.{◌≡◌, ◌≢◌, ◌+◌, ◌==◌, ◌∙◌, ℕ, Bool, true, false, true≢false}
use Rattle.er_store.proofs.Prelude.{if◌then◌else◌, List, get_or, find, refl, sym, ap, subst}
use Rattle.er_store.proofs.Prelude.{inl, inr, same_Some, all_weaker, AllByRecursion, slice_get, Some, Table, Schema, EventValue}
use Rattle.er_store.proofs.Prelude.{Layout, IsThere, table_at, HasTables, HasTablesAt, IsOther, CanRead}
use Rattle.er_store.proofs.Prelude.{Place, EventTable, PlayerTable, PairingTable, BracketTable, TallyTable, event_row, player, player2}
use Rattle.er_store.proofs.Prelude.{◌∷◌, []}
use Rattle.sqlite_schema.specs.Rules.{ParentKey, parent_key}
use Rattle.sqlite_trees.proofs.ListLemmas.{all-slice_get}
use Rattle.std.proofs.lemmas.Bool.{eq-eqb}
use Rattle.er_event.specs.Version.{IsVersion}
use Rattle.er_store.specs.{Representing.LeadsElsewhere, Damage.said_version, Tables.players_of, inside.Making.IsFound}
use Rattle.er_store.proofs.Named.{event_read}

-- ---- one of the five

tree_by : (second : Bool) (tree : ℕ) → (if second then player2 tree else player tree).tree ≡ tree
tree_by true tree = refl
tree_by false tree = refl

pub players_tree : (version tree : ℕ) → (players_of version tree).tree ≡ tree
players_tree version tree = tree_by (version == 2) tree

pub tree_is : (l : Layout) (p : Place) → (table_at l p).tree ≡ l.tree p
tree_is l EventTable = refl
tree_is l PlayerTable = players_tree l.version (l.tree PlayerTable)
tree_is l PairingTable = refl
tree_is l BracketTable = refl
tree_is l TallyTable = refl

-- a number that tells the names of the five apart: the sum of the first two codes, in either version
abbrev pub mark : Place → ℕ
mark EventTable = 219
mark PlayerTable = 220
mark PairingTable = 209
mark BracketTable = 212
mark TallyTable = 213

abbrev first_two : List ℕ → ℕ
first_two name = get_or name 0 0 + get_or name 1 0

mark_by : (second : Bool) (tree : ℕ) → first_two (if second then player2 tree else player tree).name ≡ mark PlayerTable
mark_by true tree = refl
mark_by false tree = refl

marked : (l : Layout) (p : Place) → first_two (table_at l p).name ≡ mark p
marked l EventTable = refl
marked l PlayerTable = mark_by (l.version == 2) (l.tree PlayerTable)
marked l PairingTable = refl
marked l BracketTable = refl
marked l TallyTable = refl

module _ (l : Layout) {schema : Schema} (has : HasTablesAt l schema) where
  pub found : (p : Place) → IsFound schema (has.has p).0 (table_at l p)
  found p = record { named = (has.has p).1.named; is = (has.has p).1.is }

  -- two of them have trees of their own
  pub apart : (p q : Place) → (mark p == mark q) ≡ false → l.tree p ≢ l.tree q
  apart p q differ same =
      let trees : (table_at l p).tree ≡ (table_at l q).tree = tree_is l p ∙ (same ∙ sym (tree_is l q)) in
      let tables : table_at l p ≡ table_at l q = same_Some _ _ (sym (has.has p).1.found
      ∙ (ap (λ tree. find (λ (t : Table). t.tree == tree) schema.tables) trees ∙ (has.has q).1.found)) in
      let marks : mark p ≡ mark q = sym (marked l p) ∙ (ap (λ (t : Table). first_two t.name) tables ∙ marked l q) in
      true≢false (sym (eq-eqb (mark p) (mark q) marks) ∙ differ)

  -- what is true of each table is true of it
  pub of_ours : (P : Table → Type 0) → AllByRecursion P schema.tables → (p : Place) → P (table_at l p)
  of_ours P all p = all-slice_get P schema.tables (has.has p).0 (table_at l p) (has.has p).1.is all

  -- no foreign key leads to it
  pub no_parent : (p : Place) → AllByRecursion
      (λ (t : Table). AllByRecursion (λ ref. (key : ParentKey) → parent_key schema.tables ref ≡ Some key → key.0 ≢ l.tree p) t.references)
      schema.tables
  no_parent p =
      all_weaker _ _ (λ t leads. all_weaker _ _ (λ ref other key is. other key is p) t.references leads) schema.tables has.apart

-- if the tables are, the event's can be read
pub can_read : {version : ℕ} (schema : Schema) → HasTables version schema → CanRead schema
can_read schema (l, is, has) =
    let there = (has.has EventTable).1 in
    event_read (has.has EventTable).0 (l.tree EventTable) (found l has EventTable) (record { low = there.low; found = there.found })

-- ---- the players, of either version

pub player_there : (l : Layout) → l.version ≡ 1 → {schema : Schema} → HasTablesAt l schema
    → (at : ℕ) × IsThere schema at (player (l.tree PlayerTable))
player_there l is has = rw is at has.has PlayerTable

pub player2_there : (l : Layout) → l.version ≡ 2 → {schema : Schema} → HasTablesAt l schema
    → (at : ℕ) × IsThere schema at (player2 (l.tree PlayerTable))
player2_there l is has = rw is at has.has PlayerTable

-- ---- a schema of the same tables

there_again : {a b : Schema} {at : ℕ} (table : Table) → a.tables ≡ b.tables → IsThere a at table → IsThere b at table
there_again table same there = record {
  named = rw same at there.named;
  is = rw same at there.is;
  low = there.low;
  found = rw same at there.found;
}

pub has_again : (l : Layout) (a b : Schema) → a.tables ≡ b.tables → HasTablesAt l a → HasTablesAt l b
has_again l a b same has = record {
  known = has.known;
  has = λ p. ((has.has p).0, there_again (table_at l p) same (has.has p).1);
  apart = subst (λ (ts : List Table). AllByRecursion (λ t. AllByRecursion (LeadsElsewhere l ts) t.references) ts) same has.apart;
}

-- ---- the versions

-- any but version 1 is the second
pub is_second : (l : Layout) {schema : Schema} → HasTablesAt l schema → (version : ℕ) → l.version ≡ version → (version ≡ 1 → ⊥)
    → l.version ≡ 2
is_second l has version is other = by_version has.known
  where
    by_version : IsVersion l.version → l.version ≡ 2
    by_version (inl one) = absurd (other (sym is ∙ one))
    by_version (inr two) = two

-- if the event's row has a version, the players are read by its statement
pub said_is : (version : ℕ) → IsVersion version → (e : EventValue) (s : ℕ) → said_version (event_row version e s ∷ []) ≡ version
said_is version (inl one) e s = rw one refl
said_is version (inr two) e s = rw two refl

-- ---- a schema has one layout of a version

name_by : (second : Bool) (s t : ℕ) → (if second then player2 s else player s).name ≡ (if second then player2 t else player t).name
name_by true s t = refl
name_by false s t = refl

-- a table's name is that of the version
same_name : (l m : Layout) → l.version ≡ m.version → (p : Place) → (table_at l p).name ≡ (table_at m p).name
same_name l m is EventTable = refl
same_name l m is PlayerTable = rw is (name_by (m.version == 2) (l.tree PlayerTable) (m.tree PlayerTable))
same_name l m is PairingTable = refl
same_name l m is BracketTable = refl
same_name l m is TallyTable = refl

pub same_trees : (l m : Layout) {schema : Schema} → l.version ≡ m.version → HasTablesAt l schema → HasTablesAt m schema → (p : Place)
    → l.tree p ≡ m.tree p
same_trees l m {schema} is has more p =
    let one = (has.has p).1 in
    let two = (more.has p).1 in
    let places : (has.has p).0 ≡ (more.has p).0 =
    same_Some _ _ (sym one.named ∙ (ap (Rattle.sqlite_schema.specs.Names.table_named schema) (same_name l m is p) ∙ two.named)) in
    let tables : table_at l p ≡ table_at m p = same_Some _ _ (sym one.is ∙ (ap (slice_get schema.tables) places ∙ two.is)) in
    sym (tree_is l p) ∙ (ap (λ (t : Table). t.tree) tables ∙ tree_is m p)

pub same_others : (l m : Layout) → ((p : Place) → l.tree p ≡ m.tree p) → (tree : ℕ) → IsOther m tree → IsOther l tree
same_others l m same tree other p is = other p (is ∙ same p)
