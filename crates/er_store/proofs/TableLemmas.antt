-- The five shapes are tables, which are looked at one after another.
use Rattle.er_store.proofs.Prelude.{arith, ℕ, List, [], ◌∷◌, refl, ap, map, subst, sym, ◌≡◌, ◌∙◌, Row, State, Error, Form, event_places}
use Rattle.er_store.proofs.Prelude.{pairing_places, bracket_places, tally_places}
use Rattle.er_store.proofs.Prelude.{Shape, Lists, IsReadRefused, first_columns, HasTablesAt, RepresentsAt, Represents, Layout, ◌++◌}
use Rattle.er_store.proofs.Prelude.{EventTable, PlayerTable, PairingTable, BracketTable, TallyTable, IsThere, Schema, Int, pos, at_places}
use Rattle.er_store.proofs.Prelude.{player_places, player2_places, number_value, player, player2}
use Rattle.er_store.proofs.Prelude.{player_shown, shown_of, EventValue, IsSoundButForSeeds, Shown}
use Rattle.er_store.proofs.Prelude.{FailsToQuery, Result, Ok, Err, IsErrAnd, IfOk-weaker, IfErr-weaker, Database, Refusal, Held, Ghosts}
use Rattle.er_store.proofs.Prelude.{state}
use Rattle.er_store.proofs.Prelude.{Damaged, Place, IsFault}
use Rattle.er_store.proofs.Prelude.{Bool, true, false, ◌==◌, if◌then◌else◌, Selects, table_query, begins_select, first}
use Rattle.er_store.proofs.Prelude.{read_players, read_players2}
use Rattle.sqlite.specs.Term.{lit}
use Rattle.er_store.proofs.{Selecting.selects, Listing.{event_listed, players_listed, players2_listed, pairings_listed, bracket_listed}}
use Rattle.er_store.proofs.{Listing.tallies_listed, Meaning.{columns, read_terms}}
use Rattle.er_store.proofs.{Exact.{answer_lists, sorted_by_one, sorted_by_two, sorted_players, listed_whole, event_exact}}
use Rattle.er_store.proofs.{Exact.{players_exact, bracket_exact, tallies_exact, map-same}, Refusals.read_refused}
use Rattle.er_store.proofs.{Refusals.{answers, may_read}, Keyed.pairings_exact, Lending.{looks_on, looks_as, looks_fail}}
use Rattle.er_store.specs.{inside.Lookup.{FindsRows, IsOurs, LooksUp, MissesTables}, Shape.{event_form, player_form, pairing_form}}
use Rattle.er_store.specs.Shape.{bracket_form, tally_form, event_table, player_table, pairing_table, bracket_table, tally_table}
use Rattle.er_store.specs.{Loading.IsListed, Damage.IsFirstMisread, Fault.IsLoadFault}

-- ---- what the statement of a table reads

module _ {R : Type 0} (form : Form R) (table : Shape R) (it : IsOurs form table) (version : ℕ) (old new : State) where
  abbrev sql : List ℕ
  sql = table.read version

  -- the statement is the one of how the tables lie
  abbrev Serves : Layout → Type 0
  Serves l = table.read l.version ≡ sql

  chosen : (l : Layout) → Serves l → HasTablesAt l old.now.schema
      → Selects sql (table_query (l.tree table.place) (it.terms l.version) it.keys) old.now.schema
  chosen l serves has =
      subst (λ text. Selects text (table_query (l.tree table.place) (it.terms l.version) it.keys) old.now.schema) serves
      (it.selects l old.now.schema has)

  listed : (l : Layout) → Serves l → {rows : List Row} → HasTablesAt l old.now.schema → Shown sql [] old new rows
      → Lists table.order (map (shown_of l.version table.place) (old.now.trees (l.tree table.place))) rows
  listed l serves {rows} has h = it.lists l old.now.trees rows (answers old new (chosen l serves has) h)

  pub refused : (l : Layout) → Serves l → (e : Error) → HasTablesAt l old.now.schema → FailsToQuery sql [] old new e
      → IsReadRefused old new e
  refused l serves e has = read_refused (l.tree table.place) (it.terms l.version) it.keys old new e (chosen l serves has)

  -- the rows are those of the event, if the tables represent one
  pub are_rows : (l : Layout) → Serves l → {rows : List Row} → Shown sql [] old new rows → (e : EventValue) (s : ℕ)
      → RepresentsAt l old.now e s → IsSoundButForSeeds e → rows ≡ map form.columns (table.rows l.version e s)
  are_rows l serves {rows} shows e s represents sound = it.exact l old.now e s rows represents sound
      (listed l serves represents.has.tables shows)

  -- what typed rows with their columns are
  pub finds_rows : {rows given : List Row} → Shown sql [] old new rows → given ≡ rows
      → (typed : List R) → map form.columns typed ≡ map (first_columns form.width) given → FindsRows form table sql old.now typed
  finds_rows {rows} {given} shows same typed are = record {
    reads = may_read form sql old new rows given (it.begins version) same shows typed are;
    lists = lists;
    exact = λ l serves e s represents sound.
        map-same form.columns it.same typed (table.rows l.version e s)
        (it.exact l old.now e s (map form.columns typed) represents sound (lists l serves represents.has.tables));
  }
    where
      lists : (l : Layout) → Serves l → HasTablesAt l old.now.schema → IsListed form table l old.now typed
      lists l serves has =
          let all = listed l serves has shows in
          let width = listed_whole table.order form.width (shown_of l.version table.place) (old.now.trees (l.tree table.place)) rows
          (it.whole l) all in
          subst (Lists table.order (map (shown_of l.version table.place) (old.now.trees (l.tree table.place))))
          (sym (are ∙ (ap (map (first_columns form.width)) same ∙ width))) all

-- ---- the five

pub event_is_ours : IsOurs event_form event_table
event_is_ours = record {
  begins = λ version. selects.event;
  keys = 0 ∷ [];
  terms = λ version. columns event_places;
  selects = λ l schema has. event_listed (has.has EventTable).1;
  lists = λ l. answer_lists _ _ _ _ _ (sorted_by_one (l.tree EventTable) 0 (2 ∷ 3 ∷ 4 ∷ 5 ∷ 6 ∷ 7 ∷ []));
  whole = λ l r. refl;
  exact = λ l db e s rows represents sound. event_exact l db e s rows represents;
  same = λ r s h. grind arith;
}

four_shown : (version : ℕ) (r : Row) → first_columns 4 (player_shown version r) ≡ player_shown version r
four_shown version r = by_version (version == 2)
  where
    by_version : (second : Bool)
        → first_columns 4 (if second then at_places player2_places r else at_places player_places r ++ number_value 0 ∷ [])
        ≡ (if second then at_places player2_places r else at_places player_places r ++ number_value 0 ∷ [])
    by_version true = refl
    by_version false = refl

both_select : (b : Bool) → begins_select (first (if b then read_players2 else read_players)) ≡ true
both_select true = selects.players2
both_select false = selects.players

players_selected : (l : Layout) (schema : Schema) → HasTablesAt l schema
    → Selects (player_table.read l.version) (table_query (l.tree PlayerTable) (read_terms l.version) (0 ∷ [])) schema
players_selected l schema has = by_version (l.version == 2) (has.has PlayerTable).1
  where
    by_version : (second : Bool) {at : ℕ} → IsThere schema at (if second then player2 (l.tree PlayerTable) else player (l.tree PlayerTable))
        → Selects (if second then read_players2 else read_players) (table_query (l.tree PlayerTable)
        (if second then columns player2_places else columns player_places ++ lit (Int (pos 0)) ∷ []) (0 ∷ [])) schema
    by_version true there = players2_listed there
    by_version false there = players_listed there

pub player_is_ours : IsOurs player_form player_table
player_is_ours = record {
  begins = λ version. both_select (version == 2);
  keys = 0 ∷ [];
  terms = read_terms;
  selects = players_selected;
  lists = λ l. answer_lists _ _ _ _ _ (sorted_players (l.tree PlayerTable) l.version);
  whole = λ l. four_shown l.version;
  exact = λ l db e s rows represents sound. players_exact l db e s rows represents sound.players.numbered;
  same = λ r s h. grind arith;
}

pub pairing_is_ours : IsOurs pairing_form pairing_table
pairing_is_ours = record {
  begins = λ version. selects.pairings;
  keys = 1 ∷ 2 ∷ [];
  terms = λ version. columns pairing_places;
  selects = λ l schema has. pairings_listed (has.has PairingTable).1;
  lists = λ l. answer_lists _ _ _ _ _ (sorted_by_two (l.tree PairingTable) 1 2 (3 ∷ 4 ∷ 5 ∷ 6 ∷ 7 ∷ 8 ∷ 9 ∷ []));
  whole = λ l r. refl;
  exact = pairings_exact;
  same = λ r s h. grind arith;
}

pub bracket_is_ours : IsOurs bracket_form bracket_table
bracket_is_ours = record {
  begins = λ version. selects.bracket;
  keys = 1 ∷ 2 ∷ [];
  terms = λ version. columns bracket_places;
  selects = λ l schema has. bracket_listed (has.has BracketTable).1;
  lists = λ l. answer_lists _ _ _ _ _ (sorted_by_two (l.tree BracketTable) 1 2 (3 ∷ 4 ∷ 5 ∷ 6 ∷ 7 ∷ 8 ∷ []));
  whole = λ l r. refl;
  exact = λ l db e s rows represents sound. bracket_exact l db e s rows represents;
  same = λ r s h. grind arith;
}

pub tally_is_ours : IsOurs tally_form tally_table
tally_is_ours = record {
  begins = λ version. selects.tallies;
  keys = 0 ∷ [];
  terms = λ version. columns tally_places;
  selects = λ l schema has. tallies_listed (has.has TallyTable).1;
  lists = λ l. answer_lists _ _ _ _ _ (sorted_by_one (l.tree TallyTable) 0 (2 ∷ 3 ∷ 4 ∷ 5 ∷ []));
  whole = λ l r. refl;
  exact = λ l db e s rows represents sound. tallies_exact l db e s rows represents sound.players.numbered;
  same = λ r s h. grind arith;
}

-- ---- one look after another

module _ {A B : Type 0} {F : Database → A → Type 0} {M : Database → Refusal → Type 0} {G : Database → B → Type 0}
    {N : Database → Refusal → Type 0} where
  -- if the first has found something, both are a look, and what both say is of the database before
  pub looks_then : {S : Type 0} {g : Ghosts S} {old mid new : Held S} {a : A} {r : Result B Refusal}
      → LooksUp g F M old (Ok a) mid → LooksUp g G N mid r new
      → LooksUp g (λ db b. F db a × G db b) (λ db why. F db a × N db why) old r new
  looks_then {g = g} {old} {mid} {new} {r = r} first second = record {
    looks = looks_on first.looks second.looks;
    finds = λ clean.
        let early = second.looks.clean clean in
        IfOk-weaker r _ _ (λ b it. (first.finds early, subst (λ (db : Database). G db b) (first.looks.same early).0.now_is it))
        (second.finds clean);
    misses = λ clean.
        let early = second.looks.clean clean in
        IfErr-weaker r _ _ (λ why it. (first.finds early, subst (λ (db : Database). N db why) (first.looks.same early).0.now_is it))
        (second.misses clean);
    fault = second.fault;
  }

  -- what is found, put together
  pub found_as : {S : Type 0} {g : Ghosts S} {old new : Held S} {a : A} {b : B} → ((db : Database) → F db a → G db b)
      → LooksUp g F M old (Ok a) new → LooksUp g G N old (Ok b) new
  found_as {g = g} {old} {b = b} make look = record {
    looks = looks_as (Ok b) look.looks;
    finds = λ clean. make (state g old).now (look.finds clean);
    misses = λ clean. tt;
    fault = tt;
  }

  -- and a refusal, passed on
  pub missed_as : {S : Type 0} {g : Ghosts S} {old new : Held S} {why : Refusal} {r : Result B Refusal} → IsErrAnd r (λ x. x ≡ why)
      → ((db : Database) → M db why → N db why) → LooksUp g F M old (Err why) new → LooksUp g G N old r new
  missed_as {r = Ok b} is make look = absurd is
  missed_as {g = g} {old} {why = why} {r = Err x} is make look = record {
    looks = looks_fail (Err x) why is look.looks;
    finds = λ clean. tt;
    misses = λ clean. subst (N (state g old).now) (sym is) (make (state g old).now (look.misses clean));
    fault = subst IsLoadFault (sym is) look.fault;
  }

-- the tables before this one were read, and it was not
pub first_misread : (table : Place) {Bad : Type 0} (db : Database) (why : Refusal) → (Bad → IsFirstMisread db table)
    → ((at : Place) → why ≡ Damaged at → (at ≡ table) × Bad)
    → ((e : EventValue) (s : ℕ) → Represents db e s → IsSoundButForSeeds e → IsFault why) → MissesTables db why
first_misread table db why before misread refused = record {
  misread = λ place h. let it = misread place h in subst (IsFirstMisread db) (sym it.0) (before it.1);
  refused = refused;
}
