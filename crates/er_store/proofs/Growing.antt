-- Tables that stand go on standing if others come after them.
use Rattle.er_store.proofs.Prelude.{◌≡◌, ◌⊎◌, ℕ, zero, suc, ◌+◌, ◌==◌, Bool, true, false}
use Rattle.er_store.proofs.Prelude.{List, [], ◌∷◌, ◌++◌, cond, Some, None, Option}
use Rattle.er_store.proofs.Prelude.{find, slice_get, refl, sym, ap, subst, ◌∙◌, inl, inr, true≢false, AllByRecursion, Table, Schema}
use Rattle.er_store.proofs.Prelude.{Layout, IsThere, HasTablesAt, table_at}
use Rattle.std.proofs.lemmas.List.Folds.{find-append}
use Rattle.std.specs.{List.position_from, Option.{option_or, option_and_then, option_map}}
use Rattle.sqlite_rules.proofs.ListLemmas.{all_has, all_from, has_either, has_found}
use Rattle.sqlite_rules.specs.Lists.{Has}
use Rattle.sqlite_schema.specs.Names.{same_name}
use Rattle.sqlite_schema.specs.Rules.{ParentKey, parent_key, key_in, key_places, declared_order}
use Rattle.sqlite_schema.specs.declared.schema.Reference.{Reference}
use Rattle.er_store.specs.Representing.{LeadsElsewhere}

-- ---- lists

module _ {X : Type 0} (test : X → Bool) where
  position_front : (i : ℕ) (xs ys : List X) (k : ℕ) → position_from test i xs ≡ Some k → position_from test i (xs ++ ys) ≡ Some k
  position_front i [] ys k is = absurd (cc)
  position_front i (x ∷ xs) ys k is = by_test (test x) is (position_front (i + 1) xs ys k)
    where
      by_test : (b : Bool) → cond b (Some i) (position_from test (i + 1) xs) ≡ Some k
          → (position_from test (i + 1) xs ≡ Some k → position_from test (i + 1) (xs ++ ys) ≡ Some k)
          → cond b (Some i) (position_from test (i + 1) (xs ++ ys)) ≡ Some k
      by_test true is rest = is
      by_test false is rest = rest is

  find_front : (xs ys : List X) (x : X) → find test xs ≡ Some x → find test (xs ++ ys) ≡ Some x
  find_front xs ys x is = find-append test xs ys ∙ rw is refl

nth_front : {X : Type 0} (xs ys : List X) (k : ℕ) (x : X) → slice_get xs k ≡ Some x → slice_get (xs ++ ys) k ≡ Some x
nth_front [] ys k x is = absurd (cc)
nth_front (y ∷ xs) ys zero x is = is
nth_front (y ∷ xs) ys (suc k) x is = nth_front xs ys k x is

-- ---- the parent of a foreign key

-- the tree of the table that it is of
key_of : (x : Table) (places : Option (List ℕ)) (key : ParentKey) → option_and_then (key_in x) places ≡ Some key → key.0 ≡ x.tree
key_of x None key is = absurd (cc)
key_of x (Some places) key is = by_order (declared_order x places) is
  where
    by_order : (o : Option _) → option_map (λ o. (x.tree, places, o)) o ≡ Some key → key.0 ≡ x.tree
    by_order None is = absurd (cc)
    by_order (Some o) is = cc

abbrev key_from : Reference → Option Table → Option ParentKey
key_from ref found = option_and_then (λ t. option_and_then (key_in t) (key_places t ref.parent_columns)) found

-- a key leads to a table that is listed, and named so
pub key_listed : (tables : List Table) (ref : Reference) (key : ParentKey) → parent_key tables ref ≡ Some key
    → (t : Table) × Has tables t × (same_name t.name ref.parent ≡ true) × (key.0 ≡ t.tree)
key_listed tables ref key is = by_found (find (λ t. same_name t.name ref.parent) tables) refl is
  where
    by_found : (o : Option Table) → find (λ t. same_name t.name ref.parent) tables ≡ o → key_from ref o ≡ Some key
        → (t : Table) × Has tables t × (same_name t.name ref.parent ≡ true) × (key.0 ≡ t.tree)
    by_found None found is = absurd (cc)
    by_found (Some t) found is =
        let h = has_found (λ (t : Table). same_name t.name ref.parent) tables t found in
        (t, h.0, h.1, key_of t (key_places t ref.parent_columns) key is)

-- if no table after the others is named by a key of theirs or has a forbidden tree, keys lead where they may
module _ (Free : ℕ → Type 0) (front more : List Table) where
  abbrev pub MayLead : List Table → Reference → Type 0
  MayLead tables ref = (key : ParentKey) → parent_key tables ref ≡ Some key → Free key.0

  key_leads : (ref : Reference) → MayLead front ref → AllByRecursion
      (λ (m : Table). (same_name m.name ref.parent ≡ false) ⊎ Free m.tree) more
      → MayLead (front ++ more) ref
  key_leads ref before others key is = by_found (find test front) refl
      (subst (λ o. key_from ref o ≡ Some key) (find-append test front more) is)
    where
      test : Table → Bool
      test t = same_name t.name ref.parent

      by_more : (o : Option Table) → find test more ≡ o → key_from ref o ≡ Some key → Free key.0
      by_more None found is = absurd (cc)
      by_more (Some x) found is =
          let h = has_found test more x found in
          let own : key.0 ≡ x.tree = key_of x (key_places x ref.parent_columns) key is in
          elim (all_has _ more x others h.0) [
            | inl differs ↦ absurd (true≢false (sym h.1 ∙ differs))
            | inr free ↦ subst Free (sym own) free
          ]

      by_found : (o : Option Table) → find test front ≡ o → key_from ref (option_or o (find test more)) ≡ Some key → Free key.0
      by_found None none is = by_more (find test more) refl is
      by_found (Some x) found is = before key (rw found is)

  pub all_lead : AllByRecursion (λ (t : Table). AllByRecursion (MayLead front) t.references) front
      → AllByRecursion (λ (t : Table). AllByRecursion
      (λ ref. AllByRecursion (λ (m : Table). (same_name m.name ref.parent ≡ false) ⊎ Free m.tree) more) t.references) front
      → AllByRecursion (λ (t : Table). t.references ≡ []) more
      → AllByRecursion (λ (t : Table). AllByRecursion (MayLead (front ++ more)) t.references) (front ++ more)
  all_lead before others bare = all_from _ (front ++ more) (λ t has. elim (has_either front more t has) [
    | inl old ↦ all_from _ t.references (λ ref own. key_leads ref (all_has _ t.references ref (all_has _ front t before old) own)
        (all_has _ t.references ref (all_has _ front t others old) own))
    | inr new ↦ subst (AllByRecursion (MayLead (front ++ more))) (sym (all_has _ more t bare new)) tt
  ])

-- ---- a table, and a layout

module _ {a b : Schema} (more : List Table) (lies : b.tables ≡ a.tables ++ more) where
  pub still_there : {at : ℕ} (table : Table) → IsThere a at table → IsThere b at table
  still_there {at} table there = record {
    named = ap (position_from (λ (t : Table). same_name t.name table.name) 0) lies
        ∙ position_front (λ (t : Table). same_name t.name table.name) 0 a.tables more at there.named;
    is = ap (λ ts. slice_get ts at) lies ∙ nth_front a.tables more at table there.is;
    low = there.low;
    found = ap (find (λ (t : Table). t.tree == table.tree)) lies
        ∙ find_front (λ (t : Table). t.tree == table.tree) a.tables more table there.found;
  }

  pub still_has : (l : Layout) → HasTablesAt l a
      → AllByRecursion (λ (t : Table). AllByRecursion (LeadsElsewhere l b.tables) t.references) b.tables → HasTablesAt l b
  still_has l has apart =
      record { known = has.known; has = λ p. ((has.has p).0, still_there (table_at l p) (has.has p).1); apart = apart }
