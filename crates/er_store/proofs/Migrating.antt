-- The steps of a migration.
use Rattle.er_store.proofs.Prelude.{◌≡◌, ◌≢◌, ◌⊎◌, ◌<◌, ◌≤◌, ◌==◌, ℕ, ℤ, List, [], ◌∷◌, ◌++◌, map, false, refl, sym, ap, subst, ◌∙◌, pos}
use Rattle.er_store.proofs.Prelude.{length, find, inl, inr, same_Some, arith, AllByRecursion, all_weaker}
use Rattle.er_store.proofs.Prelude.{All, All-from_recursion, IsPermutation-refl, IsPermutation-sym, length-map, map-append}
use Rattle.er_store.proofs.Prelude.{Row, Int, column, number_value, Table, Schema, Database}
use Rattle.er_store.proofs.Prelude.{State, Place, EventTable, PlayerTable, PairingTable}
use Rattle.er_store.proofs.Prelude.{BracketTable, TallyTable, Player, EventValue, event_row, player_row, player_columns, event_columns}
use Rattle.er_store.proofs.Prelude.{player_shown, stored_event, stored_player2, event, player, player2, pairing, bracket, tally, Goes, Puts}
use Rattle.er_store.proofs.Prelude.{Ran, Layout, IsOther, HasTablesAt, HasRows, rows_with, tally_rows, RepresentsIn, everything}
use Rattle.std.proofs.{lemmas.List.Sorted.All-permutation, Math.ListN.get_or-map}
use Rattle.sqlite_catalog.proofs.StepLemmas.{table_below}
use Rattle.sqlite_catalog.specs.Change.{next_tree}
use Rattle.sqlite_rules.proofs.ListLemmas.{all_has, all_from, has_left}
use Rattle.sqlite_rules.specs.Lists.{Has}
use Rattle.sqlite_schema.specs.Names.{same_name}
use Rattle.er_store.specs.{Tables.{create_player2, clear_players, set_version}}
use Rattle.er_store.specs.{Migrated.NoneAwaitsPlayer2, Representing.LeadsElsewhere, inside.Making.MakesTable}
use Rattle.er_store.specs.{inside.Moving.{Move, IsMoving, IsMoveBegun, IsMoved, MayMove, HasNumber, moved_layout, layout_after}}
use Rattle.er_store.proofs.{Clearing.clears, Writing.{cast_int, cast_null, no_works_elsewhere}, Meaning.version_terms}
use Rattle.er_store.proofs.Layouts.{apart, tree_is, of_ours, no_parent, player_there, player2_there, same_trees, same_others}
use Rattle.er_store.proofs.{Behind.{found_behind, read_behind, goes_then}, Made.player2_beside, Updates.{clear_means, version_means}}
use Rattle.er_store.proofs.Growing.{key_listed, all_lead, still_there, still_has}
use Rattle.er_store.proofs.{Effects.event_replaced, Together.{kept, rows_set, shows_more}}

-- ---- `player2` after what stands

-- a tree of none of the event's tables, and not of `player2`, is of none of them after the move
other_after : (l : Layout) (players tree : ℕ) → IsOther l tree → tree ≢ players → IsOther (moved_layout l players) tree
other_after l players tree other apart = elim [
  | EventTable ↦ other EventTable
  | PlayerTable ↦ apart
  | PairingTable ↦ other PairingTable
  | BracketTable ↦ other BracketTable
  | TallyTable ↦ other TallyTable
]

module _ {old new : State} (made : MakesTable player2 old new) where
  abbrev next : ℕ
  next = next_tree old.now.schema

  abbrev front : List Table
  front = old.now.schema.tables

  abbrev behind : List Table
  behind = player2 next ∷ made.grows.rest

  lies : new.now.schema.tables ≡ front ++ behind
  lies = made.grows.keeps.first.tables ∙ ap (λ ts. front ++ ts) made.grows.behind

  bare : AllByRecursion (λ (t : Table). t.references ≡ []) behind
  bare = (refl, all_weaker _ (λ (t : Table). t.references ≡ []) (λ t b. b.bare) made.grows.rest made.others)

  module _ (l : Layout) (has : HasTablesAt l old.now.schema) (unawaited : NoneAwaitsPlayer2 old.now.schema) where
    abbrev after : Layout
    after = moved_layout l next

    below : (p : Place) → l.tree p < next
    below p = subst (λ n. n < next) (tree_is l p) (of_ours l has (λ (t : Table). t.tree < next)
        (all_from (λ (t : Table). t.tree < next) front (λ t h. table_below old.now.schema t h)) p)

    -- what comes after is named by no foreign key, or isn't one of the five
    named_by_none : (Free : ℕ → Type 0) → ((tree : ℕ) → next < tree → Free tree) → AllByRecursion (λ (t : Table). AllByRecursion
        (λ ref. AllByRecursion (λ (m : Table). (same_name m.name ref.parent ≡ false) ⊎ Free m.tree) behind) t.references) front
    named_by_none Free later = all_weaker _ _ (λ t all. all_weaker _ _ (λ ref no. (
      inl no,
      all_weaker _ (λ (m : Table). (same_name m.name ref.parent ≡ false) ⊎ Free m.tree) (λ m b. inr (later m.tree b.later))
          made.grows.rest made.others,
    )) t.references all) front unawaited

    later_other : (tree : ℕ) → next < tree → IsOther l tree
    later_other tree later p same = let low = below p in omega (arith, same, low, later)

    -- the five of version 1 still stand
    pub still : HasTablesAt l new.now.schema
    still = still_has behind lies l has
        (subst (λ ts. AllByRecursion (λ (t : Table). AllByRecursion (LeadsElsewhere l ts) t.references) ts) (sym lies)
        (all_lead (IsOther l) front behind has.apart (named_by_none (IsOther l) later_other) bare))

    -- a foreign key of a table that stood leads to none of version 2
    led_before : AllByRecursion (λ (t : Table). AllByRecursion (LeadsElsewhere after front) t.references) front
    led_before = all_weaker _ _ (λ t all. all_weaker _ _ (λ ref leads key is.
        let it = key_listed front ref key is in
        other_after l next key.0 (leads key is)
        (λ same. let low = table_below old.now.schema it.0 it.1 in let own = it.3 in omega (arith, same, low, own)))
        t.references all) front has.apart

    -- and those of version 2 are there
    pub come : HasTablesAt after new.now.schema
    unfolding everything
    come =
        let found = found_behind made.grows made.free refl in
        let read = read_behind made.grows (λ n. refl) made.goes.sound in
        record {
          known = inr refl;
          has = elim [
            | EventTable ↦ ((has.has EventTable).0, still_there behind lies (event (l.tree EventTable)) (has.has EventTable).1)
            | PlayerTable ↦ (length front, record { named = found.named; is = found.is; low = read.low; found = read.found })
            | PairingTable ↦ ((has.has PairingTable).0, still_there behind lies (pairing (l.tree PairingTable)) (has.has PairingTable).1)
            | BracketTable ↦ ((has.has BracketTable).0, still_there behind lies (bracket (l.tree BracketTable)) (has.has BracketTable).1)
            | TallyTable ↦ ((has.has TallyTable).0, still_there behind lies (tally (l.tree TallyTable)) (has.has TallyTable).1)
          ];
          apart = subst (λ ts. AllByRecursion (λ (t : Table). AllByRecursion (LeadsElsewhere after ts) t.references) ts) (sym lies)
              (all_lead (IsOther after) front behind led_before
              (named_by_none (IsOther after) (λ tree later. other_after l next tree (later_other tree later)
              (λ same. omega (arith, same, later))))
              bare);
        }

    -- the rows of the five are those that they had
    pub rows_kept : (p : Place) → new.now.trees (l.tree p) ≡ old.now.trees (l.tree p)
    rows_kept p = subst (λ n. new.now.trees n ≡ old.now.trees n) (tree_is l p)
        (of_ours l has (λ (t : Table). new.now.trees t.tree ≡ old.now.trees t.tree) made.grows.keeps.rows p)

-- ---- the table is made

pub player2_created : {old new : State} {e : EventValue} {s : ℕ} → (may : MayMove old e s) → Ran create_player2 [] old new
    → IsMoveBegun may.represents.layout e s old new
player2_created {old} {new} {e} {s} may ran =
    let made = player2_beside ran in
    let l = may.represents.layout in
    let was = may.represents.represents.has in
    let shown = rw may.represents.is at was.rows in
    let kept = rows_kept made l was.tables may.unawaited in
    record {
      goes = made.goes;
      first = may.represents.is;
      stand = still made l was.tables may.unawaited;
      has = record {
        tables = come made l was.tables may.unawaited;
        rows = elim [
          | EventTable ↦ rw (kept EventTable) (shown EventTable)
          | PlayerTable ↦ rw made.grows.empty (IsPermutation-refl [])
          | PairingTable ↦ rw (kept PairingTable) (shown PairingTable)
          | BracketTable ↦ rw (kept BracketTable) (shown BracketTable)
          | TallyTable ↦ rw (kept TallyTable) (shown TallyTable)
        ];
        keyed = record { pairings = rw (kept PairingTable) was.keyed.pairings; bracket = rw (kept BracketTable) was.keyed.bracket };
      };
      former = kept PlayerTable;
      keeps = record {
        first = made.grows.keeps.first;
        just = made.just;
        next = refl;
        stood = was.tables;
        rows = all_weaker _ _ (λ t same other. same) old.now.schema.tables made.grows.keeps.rows;
      };
    }

-- ---- one step after another

pub moving_then : {m : Move} {a b c : State} {v w : ℕ} {ps qs : List Player} {f g : List Row} → IsMoving m a b v ps f
    → IsMoving m b c w qs g → IsMoving m a c w qs g
moving_then p q = record {
  goes = goes_then p.goes q.goes;
  first = q.first;
  stand = q.stand;
  has = q.has;
  former = q.former;
  keeps = q.keeps;
}

-- where a step ended, it may go on
pub moving_here : {m : Move} {a b : State} {v : ℕ} {ps : List Player} {f : List Row} → IsMoving m a b v ps f → IsMoving m b b v ps f
moving_here {b = b} p = record {
  goes = record {
    was = p.goes.shows.mode;
    shows = record { was_open = p.goes.shows.is_open; is_open = p.goes.shows.is_open; now_is = refl; committed_is = refl; mode = p.goes.shows.mode };
    sound = p.goes.sound;
  };
  first = p.first;
  stand = p.stand;
  has = p.has;
  former = p.former;
  keeps = p.keeps;
}

-- `player` and `player2` have trees of their own
players_apart : {m : Move} {a b : State} {v : ℕ} {ps : List Player} {f : List Row} → IsMoving m a b v ps f
    → m.from.tree PlayerTable ≢ m.players
unfolding everything
players_apart {m} {b = b} here same =
    let one = (player_there m.from here.first here.stand).1 in
    let two = (player2_there (layout_after m) refl here.has.tables).1 in
    let tables : player (m.from.tree PlayerTable) ≡ player2 m.players = same_Some _ _ (sym one.found
    ∙ (ap (λ tree. find (λ (t : Table). t.tree == tree) b.now.schema.tables) same ∙ two.found)) in
    let long : length (player (m.from.tree PlayerTable)).name ≡ length (player2 m.players).name = ap
    (λ (t : Table). length t.name) tables in
    cc

module _ {m : Move} {old new : State} {v : ℕ} {ps : List Player} {f : List Row} (here : IsMoving m old old v ps f) where
  -- a statement on one table leaves `player`, and what stood before
  step : (tree : ℕ) (w : ℕ) (qs : List Player) (g : List Row) → Goes tree old new
      → HasRows (layout_after m) new.now (rows_with w (record m.event { players = qs }) m.serial (tally_rows m.event))
      → new.now.trees (m.from.tree PlayerTable) ≡ g
      → ((t : Table) → Has m.before.schema.tables t → IsOther m.from t.tree → t.tree ≢ tree) → IsMoving m old new w qs g
  step tree w qs g goes has former elsewhere =
      let k = here.keeps in
      record {
        goes = goes.continues;
        first = here.first;
        stand = subst (HasTablesAt m.from) (sym goes.schema) here.stand;
        has = has;
        former = former;
        keeps = record {
          first = record {
            more = k.first.more;
            tables = ap (λ (s : Schema). s.tables) goes.schema ∙ k.first.tables;
            keys = k.first.keys;
            indexes = ap (λ (s : Schema). s.indexes) goes.schema ∙ k.first.indexes;
            views = ap (λ (s : Schema). s.views) goes.schema ∙ k.first.views;
          };
          just = k.just;
          next = k.next;
          stood = k.stood;
          rows = all_from _ m.before.schema.tables (λ t h other.
              all_has (λ (t : Table). t.tree ≢ tree → new.now.trees t.tree ≡ old.now.trees t.tree) old.now.schema.tables t goes.others
              (subst (λ ts. Has ts t) (sym k.first.tables) (has_left m.before.schema.tables k.first.more t h)) (elsewhere t h other)
              ∙ all_has (λ (t : Table). IsOther m.from t.tree → old.now.trees t.tree ≡ m.before.trees t.tree) m.before.schema.tables t
              k.rows h other);
        };
      }

  -- ---- the players are put in

  -- one more
  pub player2_added : (p : Player) → Puts m.players (stored_player2 p.no p.name p.dropped p.joined) old new
      → IsMoving m old new v (ps ++ p ∷ []) f
  player2_added p put =
      let shown : Row = player_columns (player_row p) in
      let more = shows_more (player_shown 2) _ _ shown _ put.free refl (here.has.rows PlayerTable) in
      let five = apart (layout_after m) here.has.tables in
      step m.players v (ps ++ p ∷ []) f put.goes (rows_set (layout_after m) m.players here.has put.goes (elim [
        | EventTable ↦ λ same. same (five EventTable PlayerTable refl)
        | PlayerTable ↦ λ same. rw (
          put.rows,
          map-append player_row ps (p ∷ []),
          map-append player_columns (map player_row ps) (player_row p ∷ []),
        ) more
        | PairingTable ↦ λ same. same (five PairingTable PlayerTable refl)
        | BracketTable ↦ λ same. same (five BracketTable PlayerTable refl)
        | TallyTable ↦ λ same. same (five TallyTable PlayerTable refl)
      ]) (λ keyed. keyed (five PairingTable PlayerTable refl)) (λ keyed. keyed (five BracketTable PlayerTable refl)))
      (kept m.from m.players old new here.stand put.goes PlayerTable (players_apart here) ∙ here.former)
      (λ t h other same. let low = table_below m.before.schema t h in let is = here.keeps.next in omega (arith, same, low, is))

  -- ---- the former rows are deleted

  pub players_cleared : All HasNumber f → Ran clear_players [] old new → IsMoving m old new v ps []
  players_cleared numbered ran =
      let tree = m.from.tree PlayerTable in
      let there = (player_there m.from here.first here.stand).1 in
      let c = clears (player tree) (clear_means there) there.is
      (λ keys olds. no_works_elsewhere old.now.schema keys tree olds [] (no_parent m.from here.stand PlayerTable))
      (subst (All HasNumber) (sym here.former) numbered) ran in
      let five = apart m.from here.stand in
      step tree v ps [] c.goes (rows_set (layout_after m) tree here.has c.goes (elim [
        | EventTable ↦ λ same. same (five EventTable PlayerTable refl)
        | PlayerTable ↦ λ same. same (λ x. players_apart here (sym x))
        | PairingTable ↦ λ same. same (five PairingTable PlayerTable refl)
        | BracketTable ↦ λ same. same (five BracketTable PlayerTable refl)
        | TallyTable ↦ λ same. same (five TallyTable PlayerTable refl)
      ]) (λ keyed. keyed (five PairingTable PlayerTable refl)) (λ keyed. keyed (five BracketTable PlayerTable refl)))
      c.empty
      (λ t h other. other PlayerTable)

  -- ---- the version is set

  pub version_set : (w : ℕ) → Ran set_version (number_value w ∷ []) old new → IsMoving m old new w ps f
  version_set w ran =
      let tree = m.from.tree EventTable in
      let e = m.event in
      let set = event_replaced (layout_after m) version_terms (number_value w) (event_columns (event_row v e m.serial))
      (stored_event w e m.serial) here.has.tables
      (here.has.rows EventTable) (version_means (here.has.tables.has EventTable).1) (λ r h. (cc, cc)) (simp (cast_int, cast_null)) ran in
      let five = apart (layout_after m) here.has.tables in
      step tree w ps f set.goes (rows_set (layout_after m) tree here.has set.goes (elim [
        | EventTable ↦ λ same. rw set.rows (IsPermutation-refl _)
        | PlayerTable ↦ λ same. same (five PlayerTable EventTable refl)
        | PairingTable ↦ λ same. same (five PairingTable EventTable refl)
        | BracketTable ↦ λ same. same (five BracketTable EventTable refl)
        | TallyTable ↦ λ same. same (five TallyTable EventTable refl)
      ]) (λ keyed. keyed (five PairingTable EventTable refl)) (λ keyed. keyed (five BracketTable EventTable refl)))
      (kept m.from tree old new here.stand set.goes PlayerTable (apart m.from here.stand PlayerTable EventTable refl) ∙ here.former)
      (λ t h other. other EventTable)

-- ---- the whole

abbrev LeadsByNumber : Row → Type 0
LeadsByNumber row = (id : ℤ) × (column row 0 ≡ Int id)

lead_by_number : (ps : List Player) → AllByRecursion LeadsByNumber (map player_columns (map player_row ps))
lead_by_number [] = tt
lead_by_number (p ∷ ps) = ((pos p.no, refl), lead_by_number ps)

-- the rows of version 1's players are told by numbers
pub former_numbered : {db : Database} {e : EventValue} {s : ℕ} → (it : RepresentsIn 1 db e s)
    → All HasNumber (db.trees (it.layout.tree PlayerTable))
former_numbered {db} {e} it k d below =
    let rows = db.trees (it.layout.tree PlayerTable) in
    let shown = rw it.is at it.represents.has.rows in
    let all = All-permutation LeadsByNumber _ (map (player_shown 1) rows) (IsPermutation-sym _ _ (shown PlayerTable))
    (All-from_recursion LeadsByNumber _ (lead_by_number e.players)) in
    let long : k < length (map (player_shown 1) rows) = subst (λ n. k < n) (sym (length-map rows (player_shown 1))) below in
    subst LeadsByNumber (get_or-map (player_shown 1) rows k d) (all k (player_shown 1 d) long)

pub is_moved : {m : Move} {old new : State} → m.serial ≤ 999999 → IsMoving m old new 2 m.event.players []
    → IsMoved m.before new m.event m.serial
is_moved {m} {new = new} low end = record {
  sound = end.goes.sound;
  represents = record {
    layout = layout_after m;
    is = refl;
    represents = record { low = low; keeps = record { rounds = λ is. absurd (cc); players = λ is. absurd (cc) }; has = end.has };
  };
  emptied = λ l is has. ap new.now.trees (same_trees l m.from (is ∙ sym end.first) has end.stand PlayerTable) ∙ end.former;
  beside = record {
    first = end.keeps.first;
    just = end.keeps.just;
    rows = λ l is has. all_weaker _ _ (λ t kept other.
        kept (same_others m.from l (λ p. sym (same_trees l m.from (is ∙ sym end.first) has end.keeps.stood p)) t.tree other))
        m.before.schema.tables end.keeps.rows;
  };
}
