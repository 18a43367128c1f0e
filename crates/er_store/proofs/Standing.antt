-- Tables that are made one after the other are there, and no foreign key leads to one of them, if none waited for it.
use Rattle.er_store.proofs.Prelude.{◌≡◌, ◌≢◌, ◌<◌, ◌⊎◌, ℕ, true, false, List, [], ◌∷◌, ◌++◌, length, Some, refl, sym, ap, subst, ◌∙◌}
use Rattle.er_store.proofs.Prelude.{inl, inr, arith, ◌==◌, all_weaker, AllByRecursion, Table, Schema, State, IsThere, Layout}
use Rattle.er_store.proofs.Prelude.{IsOther, Place, EventTable, PlayerTable, PairingTable, BracketTable, TallyTable}
use Rattle.er_store.proofs.Prelude.{event, player, player2, pairing, bracket, tally, Bool, if◌then◌else◌, everything}
use Rattle.er_event.specs.Version.{IsVersion}
use Rattle.sqlite_catalog.proofs.StepLemmas.{table_below}
use Rattle.sqlite_catalog.specs.Change.{is_used, next_tree}
use Rattle.sqlite_rules.proofs.ListLemmas.{all_has, all_from, has_either, has_found}
use Rattle.sqlite_rules.specs.Lists.{Has}
use Rattle.sqlite_schema.specs.Names.{same_name}
use Rattle.sqlite_schema.specs.Rules.{ParentKey, parent_key}
use Rattle.sqlite_schema.specs.declared.schema.Reference.{Reference}
use Rattle.er_store.specs.{Beside.{HasTable, NoneAwaits, NoneAwaitsFive, names_taken}, Representing.LeadsElsewhere}
use Rattle.er_store.specs.inside.Making.{MakesTable, MakesFive, LieEmpty}
use Rattle.er_store.specs.Tables.{players_of}
use Rattle.er_store.proofs.{Growing.{key_listed, all_lead, still_there}, Layouts.players_tree}
use Rattle.er_store.proofs.Made.{IsAnywhere, grown, grows_then, keeps_then, stands_then}
use Rattle.er_store.proofs.Behind.{found_behind, read_behind, has_then, empty_then, made_after, players_anywhere, goes_then}

-- it is the tree of none of these
abbrev IsOff : List Table → ℕ → Type 0
IsOff tables tree = AllByRecursion (λ (t : Table). tree ≢ t.tree) tables

abbrev LeadsOff : List Table → List Table → Reference → Type 0
LeadsOff off tables ref = (key : ParentKey) → parent_key tables ref ≡ Some key → IsOff off key.0

-- these tables are there, and no foreign key leads to one of them
record Stand (tables : List Table) (schema : Schema) : Type 0 where
  there : AllByRecursion (λ (t : Table). (at : ℕ) × IsThere schema at t) tables
  apart : AllByRecursion (λ (t : Table). AllByRecursion (LeadsOff tables schema.tables) t.references) schema.tables

none_stand : (schema : Schema) → Stand [] schema
none_stand schema = record {
  there = tt;
  apart = all_from _ schema.tables (λ t has. all_from _ t.references (λ ref own key is. tt));
}

listed : {schema : Schema} {at : ℕ} (t : Table) → IsThere schema at t → Has schema.tables t
listed {schema} t there = (has_found (λ (u : Table). u.tree == t.tree) schema.tables t there.found).0

module _ {table : ℕ → Table} {old new : State} (made : MakesTable table old new) (anywhere : IsAnywhere table)
    (bare : (table 0).references ≡ []) where
  abbrev next : ℕ
  next = next_tree old.now.schema

  abbrev front : List Table
  front = old.now.schema.tables

  abbrev behind : List Table
  behind = table next ∷ made.grows.rest

  lies : new.now.schema.tables ≡ front ++ behind
  lies = made.grows.keeps.first.tables ∙ ap (λ ts. front ++ ts) made.grows.behind

  own_tree : (table next).tree ≡ next
  own_tree = ap (λ (t : Table). t.tree) (sym (anywhere next))

  own_name : (table next).name ≡ (table 0).name
  own_name = ap (λ (t : Table). t.name) (sym (anywhere next))

  all_bare : AllByRecursion (λ (t : Table). t.references ≡ []) behind
  all_bare = (
    ap (λ (t : Table). t.references) (sym (anywhere next)) ∙ bare,
    all_weaker _ (λ (t : Table). t.references ≡ []) (λ t b. b.bare) made.grows.rest made.others,
  )

  -- what is made has no foreign key, and so none waits for another name
  none_awaits : (name : List ℕ) → NoneAwaits name old.now.schema → NoneAwaits name new.now.schema
  none_awaits name before = subst (λ ts. AllByRecursion (λ (t : Table). AllByRecursion (λ ref. same_name name ref.parent ≡ false) t.references) ts)
      (sym lies) (all_from _ (front ++ behind) (λ t has. elim (has_either front behind t has) [
        | inl stood ↦ all_has (λ (t : Table). AllByRecursion (λ ref. same_name name ref.parent ≡ false) t.references) front t before stood
        | inr came ↦ subst (AllByRecursion (λ ref. same_name name ref.parent ≡ false)) (sym (all_has _ behind t all_bare came)) tt
      ]))

  module _ (tables : List Table) (stand : Stand tables old.now.schema) where
    -- a tree after the one that was made is of none of them
    off_later : (tree : ℕ) → next < tree → IsOff (table next ∷ tables) tree
    off_later tree later = (
      λ same. let own = own_tree in omega (arith, same, own, later),
      all_weaker _ (λ (t : Table). tree ≢ t.tree) (λ t it same.
          let low = table_below old.now.schema t (listed t it.1) in omega (arith, same, low, later)) tables stand.there,
    )

    -- one table more
    one_stands : same_name (table 0).name (table 0).name ≡ true → NoneAwaits (table 0).name old.now.schema
        → Stand (table next ∷ tables) new.now.schema
    one_stands same awaits =
        let found = found_behind made.grows (subst (λ name. is_used old.now.schema name ≡ false) (sym own_name) made.free)
        (subst (λ name. same_name name name ≡ true) (sym own_name) same) in
        let read = read_behind made.grows anywhere made.goes.sound in
        let before : AllByRecursion (λ (t : Table). AllByRecursion (LeadsOff (table next ∷ tables) front) t.references) front =
        all_weaker _ _ (λ t all. all_weaker _ _ (λ ref leads key is.
        let it = key_listed front ref key is in (
          λ same. let low = table_below old.now.schema it.0 it.1 in let own = own_tree in let tree = it.3 in omega (arith, same, low, own, tree),
          leads key is,
        )) t.references all) front stand.apart in
        let others : AllByRecursion (λ (t : Table). AllByRecursion (λ ref. AllByRecursion
        (λ (m : Table). (same_name m.name ref.parent ≡ false) ⊎ IsOff (table next ∷ tables) m.tree) behind) t.references) front =
        all_weaker _ _ (λ t all. all_weaker _ _ (λ ref no. (
          inl (subst (λ name. same_name name ref.parent ≡ false) (sym own_name) no),
          all_weaker _ (λ (m : Table). (same_name m.name ref.parent ≡ false) ⊎ IsOff (table next ∷ tables) m.tree)
              (λ m b. inr (off_later m.tree b.later)) made.grows.rest made.others,
        )) t.references all) front awaits in
        record {
          there = (
            (length front, record { named = found.named; is = found.is; low = read.low; found = read.found }),
            all_weaker _ (λ (t : Table). (at : ℕ) × IsThere new.now.schema at t) (λ t it. (it.0, still_there behind lies t it.1)) tables stand.there,
          );
          apart = subst (λ ts. AllByRecursion (λ (t : Table). AllByRecursion (LeadsOff (table next ∷ tables) ts) t.references) ts) (sym lies)
              (all_lead (IsOff (table next ∷ tables)) front behind before others all_bare);
        }

-- ---- the five

abbrev trees_by : (event players pairing bracket tally : ℕ) → Place → ℕ
trees_by event players pairing bracket tally EventTable = event
trees_by event players pairing bracket tally PlayerTable = players
trees_by event players pairing bracket tally PairingTable = pairing
trees_by event players pairing bracket tally BracketTable = bracket
trees_by event players pairing bracket tally TallyTable = tally

by_second : (second : Bool) → (if second then player2 0 else player 0).references ≡ []
by_second true = refl
by_second false = refl

players_bare : (version : ℕ) → (players_of version 0).references ≡ []
players_bare version = by_second (version == 2)

named_by : (second : Bool) → same_name (if second then player2 0 else player 0).name (if second then player2 0 else player 0).name ≡ true
unfolding everything
named_by true = refl
named_by false = refl

-- each name is its own
others_named : AllByRecursion (λ (table : ℕ → Table). same_name (table 0).name (table 0).name ≡ true) (event ∷ pairing ∷ bracket ∷ tally ∷ [])
unfolding everything
others_named = (refl, (refl, (refl, (refl, tt))))

players_named : (version : ℕ) → same_name (players_of version 0).name (players_of version 0).name ≡ true
players_named version = named_by (version == 2)

module _ (version : ℕ) {a b c d e f : State} (one : MakesTable event a b) (two : MakesTable (players_of version) b c)
    (three : MakesTable pairing c d) (four : MakesTable bracket d e) (five : MakesTable tally e f) where
  abbrev tree : Place → ℕ
  tree = trees_by (next_tree a.now.schema) (next_tree b.now.schema) (next_tree c.now.schema) (next_tree d.now.schema) (next_tree e.now.schema)

  abbrev layout : Layout
  layout = record { version = version; tree = tree }

  abbrev all_five : List Table
  all_five = tally (tree TallyTable) ∷ bracket (tree BracketTable) ∷ pairing (tree PairingTable)
      ∷ players_of version (tree PlayerTable) ∷ event (tree EventTable) ∷ []

  five_stand : NoneAwaitsFive version a.now.schema → Stand all_five f.now.schema
  five_stand awaits =
      let bare = players_bare version in
      let players = players_anywhere version in
      let to_b = none_awaits one (λ n. refl) refl in
      let to_c : (name : List ℕ) → NoneAwaits name a.now.schema → NoneAwaits name c.now.schema =
      λ name none. none_awaits two players bare name (to_b name none) in
      let to_d : (name : List ℕ) → NoneAwaits name a.now.schema → NoneAwaits name d.now.schema =
      λ name none. none_awaits three (λ n. refl) refl name (to_c name none) in
      let to_e : (name : List ℕ) → NoneAwaits name a.now.schema → NoneAwaits name e.now.schema =
      λ name none. none_awaits four (λ n. refl) refl name (to_d name none) in
      let s = one_stands one (λ n. refl) refl [] (none_stand a.now.schema) others_named.0 awaits.0 in
      let t = one_stands two players bare _ s (players_named version) (to_b _ awaits.1.0) in
      let u = one_stands three (λ n. refl) refl _ t others_named.1.0 (to_c _ awaits.1.1.0) in
      let v = one_stands four (λ n. refl) refl _ u others_named.1.1.0 (to_d _ awaits.1.1.1.0) in
      one_stands five (λ n. refl) refl _ v others_named.1.1.1.0 (to_e _ awaits.1.1.1.1.0)

  off_other : (tree : ℕ) → IsOff all_five tree → IsOther layout tree
  off_other t off = elim [
    | EventTable ↦ off.1.1.1.1.0
    | PlayerTable ↦ subst (λ n. t ≢ n) (players_tree version (tree PlayerTable)) off.1.1.1.0
    | PairingTable ↦ off.1.1.0
    | BracketTable ↦ off.1.0
    | TallyTable ↦ off.0
  ]

  pub five_lie : IsVersion version → NoneAwaitsFive version a.now.schema
      → (tree : Place → ℕ) × (tree EventTable ≡ next_tree a.now.schema) × LieEmpty (record { version = version; tree = tree }) f.now
  five_lie known awaits =
      let s = five_stand awaits in
      let from_d = keeps_then four.grows.keeps five.grows.keeps in
      let from_c = keeps_then three.grows.keeps from_d in
      let from_b = keeps_then two.grows.keeps from_c in (
        tree,
        refl,
        record {
          stand = record {
            known = known;
            has = elim [
              | EventTable ↦ s.there.1.1.1.1.0
              | PlayerTable ↦ s.there.1.1.1.0
              | PairingTable ↦ s.there.1.1.0
              | BracketTable ↦ s.there.1.0
              | TallyTable ↦ s.there.0
            ];
            apart = all_weaker _ (λ (t : Table). AllByRecursion (LeadsElsewhere layout f.now.schema.tables) t.references) (λ t all.
                all_weaker _ (LeadsElsewhere layout f.now.schema.tables) (λ ref leads key is. off_other key.0 (leads key is)) t.references all)
                f.now.schema.tables s.apart;
          };
          empty = elim [
            | EventTable ↦ (grows_then (λ n. refl) one.grows from_b).empty
            | PlayerTable ↦ (grows_then (players_anywhere version) two.grows from_c).empty
            | PairingTable ↦ (grows_then (λ n. refl) three.grows from_d).empty
            | BracketTable ↦ (grows_then (λ n. refl) four.grows five.grows.keeps).empty
            | TallyTable ↦ five.grows.empty
          ];
        },
      )

-- no name but those of the five, and that of SQLite's own table of counts
just_five : (version : ℕ) {a b c d e f : State} (one : MakesTable event a b) (two : MakesTable (players_of version) b c)
    (three : MakesTable pairing c d) (four : MakesTable bracket d e) (five : MakesTable tally e f) (made : Table)
    → Has (one.grows.keeps.first.more
    ++ (((two.grows.keeps.first.more ++ three.grows.keeps.first.more) ++ four.grows.keeps.first.more) ++ five.grows.keeps.first.more)) made
    → Has (names_taken version) made.name
just_five version one two three four five made has = elim (has_either one.grows.keeps.first.more _ made has) [
  | inl it ↦ elim (one.just made it) [ inl is ↦ inl is | inr own ↦ inr (inr (inr (inr (inr own)))) ]
  | inr later ↦ elim (has_either ((two.grows.keeps.first.more ++ three.grows.keeps.first.more) ++ four.grows.keeps.first.more) _ made later) [
    | inr it ↦ elim (five.just made it) [ inl is ↦ inr (inr (inr (inr (inl is)))) | inr own ↦ inr (inr (inr (inr (inr own)))) ]
    | inl before ↦ elim (has_either (two.grows.keeps.first.more ++ three.grows.keeps.first.more) _ made before) [
      | inr it ↦ elim (four.just made it) [ inl is ↦ inr (inr (inr (inl is))) | inr own ↦ inr (inr (inr (inr (inr own)))) ]
      | inl first ↦ elim (has_either two.grows.keeps.first.more _ made first) [
        | inr it ↦ elim (three.just made it) [ inl is ↦ inr (inr (inl is)) | inr own ↦ inr (inr (inr (inr (inr own)))) ]
        | inl it ↦ elim (two.just made it) [ inl is ↦ inr (inl is) | inr own ↦ inr (inr (inr (inr (inr own)))) ]
      ]
    ]
  ]
]

pub five_made : (version : ℕ) {a b c d e f : State} → MakesTable event a b → MakesTable (players_of version) b c → MakesTable pairing c d
    → MakesTable bracket d e → MakesTable tally e f → MakesFive version a f
unfolding grows_then keeps_then stands_then
five_made version {a} {b} {c} {d} {e} {f} one two three four five =
    let to_c = two.grows.keeps in
    let to_d = keeps_then to_c three.grows.keeps in
    let to_e = keeps_then to_d four.grows.keeps in
    let from_c = keeps_then three.grows.keeps (keeps_then four.grows.keeps five.grows.keeps) in
    let from_d = keeps_then four.grows.keeps five.grows.keeps in
    let first : HasTable b.now (event (next_tree a.now.schema)) [] = record { listed = grown one.grows; holds = one.grows.empty } in
    record {
      goes = goes_then one.goes (goes_then two.goes (goes_then three.goes (goes_then four.goes five.goes)));
      free = one.free;
      just = just_five version one two three four five;
      event = grows_then (λ tree. refl) one.grows (keeps_then to_e five.grows.keeps);
      players = empty_then from_c (made_after (event (next_tree a.now.schema)) (players_anywhere version) first.listed two.grows);
      pairing = empty_then from_d (made_after (event (next_tree a.now.schema)) (λ tree. refl) (has_then to_c first).listed three.grows);
      bracket = empty_then five.grows.keeps (made_after (event (next_tree a.now.schema)) (λ tree. refl) (has_then to_d first).listed
          four.grows);
      tally = made_after (event (next_tree a.now.schema)) (λ tree. refl) (has_then to_e first).listed five.grows;
      lie = five_lie version one two three four five;
    }
