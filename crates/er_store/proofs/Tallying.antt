-- The rows of totals, beside those of players, and while a change is written.
use Rattle.er_store.proofs.Prelude.{tallies, common_steps, ◌≡◌, ℕ, ◌+◌, ◌<◌, ◌≤◌, List, [], ◌∷◌, ◌++◌, map, take, length, get_or, false}
use Rattle.er_store.proofs.Prelude.{inl, Result, Ok, Err, MatchResult, sym, ap, ◌∙◌, arith, length-map, take_more, get_or-range_with_len}
use Rattle.er_store.proofs.Prelude.{Player, Refusal, Memory, PlayerRow, TallyRow, EventValue, player_row, player_rows, tally_row}
use Rattle.er_store.proofs.Prelude.{tally_rows, IsSoundButForSeeds, tally_by, totals, IsFault, Tally, Round}
use Rattle.er_store.proofs.Prelude.{Contains, refl, ap₂, subst, AllByRecursion, range_with_len, nat_tests, map-append}
use Rattle.er_store.proofs.Prelude.{Table, Trees, State, SetDropped, Totals, after, new_player, with_player}
use Rattle.er_store.proofs.Prelude.{tally_rows_by, numbers, Layout, IsOther, LeavesOthers, set_for, set_up_to, map-map, ◌-◌}
use Rattle.std.proofs.lemmas.List.{get_or-map}
use Rattle.er_event.specs.{declared.changes.Change.Change, declared.changes.Change.TheVariants.AddPlayer}
use Rattle.er_event.specs.declared.{players.TheConstants.MAX_PLAYERS, events.Phase.TheVariants.Enrolling}
use Rattle.er_event.specs.Totals.{AreTotals, Gathered, gathered_of}
use Rattle.er_store.proofs.Picking.{within, numbers-dropped_at}

-- ---- the rows of players and of totals, one beside the other

nobody : Player
nobody = record { no = 0; name = []; dropped = false; joined = 0 }

-- the player of this place, and what is read of them
pub record IsPlayerAt (e : EventValue) (k : ℕ) (player : PlayerRow) (row : TallyRow) : Type 0 where
  pub it : Player
  pub low : 1 ≤ it.no
  pub high : it.no ≤ 512
  pub player_is : player ≡ player_row it
  pub row_is : row ≡ tally_row it.no (totals e it.no)
  pub more : take (k + 1) (tallies e) ≡ take k (tallies e) ++ tally_by (totals e) it ∷ []

pub number-at : (e : EventValue) → IsSoundButForSeeds e → (k : ℕ) (d : Player) → k < length e.players → (get_or e.players k d).no ≡ 1 + k
number-at e sound k d below =
    sym (get_or-map (λ (p : Player). p.no) e.players k d 0 below)
    ∙ (ap (λ (ns : List ℕ). get_or ns k 0) sound.players.numbered ∙ get_or-range_with_len 1 (length e.players) k 0 below)

pub player-at : (e : EventValue) → IsSoundButForSeeds e
    → (players : List PlayerRow) (rows : List TallyRow) (k : ℕ) (pd : PlayerRow) (rd : TallyRow) → players ≡ player_rows e
    → rows ≡ tally_rows e → k < length players → IsPlayerAt e k (get_or players k pd) (get_or rows k rd)
player-at e sound players rows k pd rd players_are rows_are within =
    let p = get_or e.players k nobody in
    let below : k < length e.players = omega (arith, ap length players_are, length-map e.players player_row, within) in
    let few = sound.players.few in
    let no : p.no ≡ 1 + k = number-at e sound k nobody below in
    let many : k < length (tallies e) = omega (arith, length-map e.players (tally_by (totals e)), below) in
    record {
      it = p;
      low = omega (arith, no);
      high = omega (arith, no, few, below);
      player_is = ap (λ (all : List PlayerRow). get_or all k pd) players_are ∙ get_or-map player_row e.players k nobody pd below;
      row_is = ap (λ (all : List TallyRow). get_or all k rd) rows_are
          ∙ get_or-map (λ (q : Player). tally_row q.no (totals e q.no)) e.players k nobody rd below;
      more = take_more (tallies e) k (tally_by (totals e) nobody) many ∙ ap (λ (t : Tally). take k (tallies e) ++ t ∷ [])
          (get_or-map (tally_by (totals e)) e.players k nobody (tally_by (totals e) nobody) below);
    }

-- one tally more
pub rows-more : (list : List Tally) (rows : List TallyRow) (k : ℕ) (rd : TallyRow) (tally : Tally) → k < length rows
    → get_or rows k rd ≡ tally_row tally.no tally.totals → map (λ (t : Tally). tally_row t.no t.totals) list ≡ take k rows
    → map (λ (t : Tally). tally_row t.no t.totals) (list ++ tally ∷ []) ≡ take (k + 1) rows
rows-more list rows k rd tally below is before = grind (arith, common_steps)

-- running out of memory is a fault
pub memory-fault : {A : Type 0} (r : Result A Refusal) (P : A → Type 0) → MatchResult r P (λ why. why ≡ Memory) → MatchResult r P IsFault
memory-fault (Ok a) P h = h
memory-fault (Err why) P h = inl h

-- ---- a transaction in which nothing was done

same_rows : (l : Layout) (trees : Trees) (tables : List Table)
    → AllByRecursion (λ (t : Table). IsOther l t.tree → trees t.tree ≡ trees t.tree) tables
same_rows l trees [] = tt
same_rows l trees (t ∷ more) = (λ _. refl, same_rows l trees more)

pub leaves_self : {l : Layout} {a b : State} → LeavesOthers l a b → LeavesOthers l b b
leaves_self leaves = grind (arith, common_steps, same_rows)

-- ---- players by number

by_numbers : (f : ℕ → Totals) (ps : List Player) → tally_rows_by f ps ≡ map (λ n. tally_row n (f n)) (numbers ps)
by_numbers f ps = sym (map-map (λ n. tally_row n (f n)) (λ (p : Player). p.no) ps)

-- the numbers are enough to tell the rows
pub same_players : (f : ℕ → Totals) (ps qs : List Player) → numbers ps ≡ numbers qs → tally_rows_by f ps ≡ tally_rows_by f qs
same_players f ps qs same = by_numbers f ps ∙ (ap (map (λ n. tally_row n (f n))) same ∙ sym (by_numbers f qs))

pub length-numbers : (ps qs : List Player) → numbers ps ≡ numbers qs → length ps ≡ length qs
length-numbers ps qs same = sym (length-map ps (λ (p : Player). p.no)) ∙ (ap length same ∙ length-map qs (λ (p : Player). p.no))

pub numbered_too : (ps qs : List Player) → numbers ps ≡ numbers qs → numbers qs ≡ range_with_len 1 (length qs)
    → numbers ps ≡ range_with_len 1 (length ps)
numbered_too ps qs same numbered = same ∙ (numbered ∙ ap (range_with_len 1) (sym (length-numbers ps qs same)))

agree_from : (f g : ℕ → Totals) (ps : List Player) (k : ℕ) → numbers ps ≡ range_with_len k (length ps)
    → ((q : ℕ) → k ≤ q → q < k + length ps → f q ≡ g q) → tally_rows_by f ps ≡ tally_rows_by g ps
agree_from f g [] k numbered same = refl
agree_from f g (p ∷ ps) k numbered same =
    let number : p.no ≡ k = ap (λ (ns : List ℕ). get_or ns 0 0) numbered in
    let later : numbers ps ≡ range_with_len (k + 1) (length ps) = ap (Rattle.std.specs.Prelude.drop 1) numbered in
    let rest = agree_from f g ps (k + 1) later (λ q low high. same q (omega arith) (omega arith)) in
    let here = same p.no (omega arith) (omega arith) in
    ap₂ (λ (t : Totals) (rows : List TallyRow). tally_row p.no t ∷ rows) here rest

-- rows of totals that agree for the numbers of the players
pub rows_agree : (f g : ℕ → Totals) (ps : List Player) → numbers ps ≡ range_with_len 1 (length ps)
    → ((q : ℕ) → 1 ≤ q → q ≤ length ps → f q ≡ g q) → tally_rows_by f ps ≡ tally_rows_by g ps
rows_agree f g ps numbered same = agree_from f g ps 1 numbered (λ q low high. same q low (omega arith))

pub contains_numbered : (ps : List Player) (q : ℕ) → numbers ps ≡ range_with_len 1 (length ps) → 1 ≤ q → q ≤ length ps
    → Contains (numbers ps) q
contains_numbered ps q numbered low high = (
  q - 1,
  omega (arith, length-map ps (λ (p : Player). p.no)),
  rw numbered (grind (arith, get_or-range_with_len 1 (length ps) (q - 1))),
)

pub in_range : (ps : List Player) (q : ℕ) → numbers ps ≡ range_with_len 1 (length ps) → length ps ≤ MAX_PLAYERS → Contains (numbers ps) q
    → (1 ≤ q) × (q ≤ MAX_PLAYERS)
in_range ps q numbered few known =
    let it = within (length ps) q (subst (λ (ns : List ℕ). Contains ns q) numbered known) in
    (it.0, omega (arith, it.1, few))

-- ---- one player after the other

module _ (now before : ℕ → Totals) where
  -- who keeps their totals may be set too
  pub set_same : (player q : ℕ) → before player ≡ now player → before q ≡ set_for player (now player) before q
  set_same player q same = grind (arith, nat_tests)

  pub none_set : (q : ℕ) → 1 ≤ q → before q ≡ set_up_to 0 now before q
  none_set q low = grind (arith, nat_tests)

  pub not_yet : (k player : ℕ) → player ≡ k + 1 → set_up_to k now before player ≡ before player
  not_yet k player is = grind (arith, nat_tests)

  pub set_more : (k player q : ℕ) → player ≡ k + 1
      → set_for player (now player) (set_up_to k now before) q ≡ set_up_to (k + 1) now before q
  set_more k player q is = grind (arith, nat_tests)

  pub all_set : (n q : ℕ) → q ≤ n → set_up_to n now before q ≡ now q
  all_set n q high = grind (arith, nat_tests)

-- ---- the players whose totals stay

pub totals-at : (e : EventValue) (ps : List Player) (all : Gathered) → AreTotals e ps all → (k : ℕ) (p : Player) → k < length ps
    → p ≡ get_or ps k p
    → gathered_of all p ≡ totals e p.no
totals-at e ps all are k p below is = subst (λ (q : Player). gathered_of all q ≡ totals e q.no) (sym is) (are k p below)

-- ---- the players after a change

pub same_numbers : (e : EventValue) (c : Change) → ((name : List ℕ) → c ≡ AddPlayer name → ⊥)
    → numbers (after e c).players ≡ numbers e.players
same_numbers e (AddPlayer name) never = absurd (never name refl)
same_numbers e (SetDropped player) never = numbers-dropped_at player e.players
same_numbers e _ never = refl

-- the others keep their totals
pub one_more_player : (e : EventValue) (name : List ℕ) → numbers e.players ≡ range_with_len 1 (length e.players)
    → ((q : ℕ) → Contains (numbers e.players) q → totals (with_player e name) q ≡ totals e q)
    → tally_rows e ++ tally_row (length e.players + 1) (totals (with_player e name) (length e.players + 1)) ∷ []
    ≡ tally_rows (with_player e name)
one_more_player e name numbered same =
    ap (λ (rows : List TallyRow). rows ++ tally_row (length e.players + 1) (totals (with_player e name) (length e.players + 1)) ∷ [])
    (rows_agree (totals e) (totals (with_player e name)) e.players numbered
    (λ q low high. sym (same q (contains_numbered e.players q numbered low high))))
    ∙ sym (map-append (λ (p : Player). tally_row p.no (totals (with_player e name) p.no)) e.players (new_player e name ∷ []))

-- before the start no round is stored
pub none_stored : (e : EventValue) → IsSoundButForSeeds e → e.phase ≡ Enrolling → length e.stored ≡ 0
none_stored e sound enrolling = ap (λ (rounds : List Round). length rounds) (sound.rounds.enrolling enrolling)
