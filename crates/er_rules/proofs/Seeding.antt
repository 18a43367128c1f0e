-- The first players of the standings: they are the event's, once each, and as many as are asked for if that many are active.
use Rattle.std.proofs.{lemmas.Grind.common_steps, Common.{◌≡◌, ◌≢◌, ℕ, zero, suc, ◌+◌, ◌<◌, ◌≤◌, not, Bool, true, false, List, [], ◌∷◌}}
use Rattle.std.proofs.Common.{length, map, filter, take, All, AllPairs, inr, ◌++◌, ◌/◌, None, refl, Contains, get_or, sym, ap, ◌∙◌, arith}
use Rattle.std.proofs.{lemmas.Bool.cond_both, lemmas.Bool.Decides.Decides-eqb, lemmas.List.{get_or-map, get_or_default, length-map}}
use Rattle.std.proofs.{lemmas.List.length-take-le, lemmas.List.Elements.{All-contains, All-contains_itself, All-filter, All-map, All-take}}
use Rattle.std.proofs.{lemmas.List.Elements.{All-weaker, filter_passes}, lemmas.List.FromFn.get_or-range_with_len}
use Rattle.std.proofs.{lemmas.List.Kept.AllPairs-filter, lemmas.List.Sorted.{All-permutation, Contains-permutation}}
use Rattle.std.proofs.lemmas.Map.Made.{IsDistinct-from_AllPairs, is_member-Decides, length-le_from_is_member}
use Rattle.std.specs.Cmp.{nat_eq_equiv}
use Rattle.er_event.specs.{declared.players.Player.Player, declared.matches.Match.Match, declared.changes.Change.TheVariants.AddBracket}
use Rattle.er_event.specs.{declared.events.Phase.TheVariants.{Swiss, Playoff}, Change.{after, IsOpening}, Event.EventValue, Sound.numbers}
use Rattle.er_event.specs.{Sound.IsSoundButForSeeds, Bracket.open_match}
use Rattle.er_rank.specs.{declared.rows.Row.Row, Standings.{IsRowOf, AreStandings, IsTop}}
use Rattle.er_bracket.specs.Seeds.{seeds_by_slot, player_of_seed, first_stage}
use Rattle.er_rules.specs.Commands.{active, all_rounds_done}
use Rattle.er_rules.proofs.{Rounds.apart_moved, Opening.{is_cut, seated, opens, rounds_done}}

-- ---- lists

contains_map : {X Y : Type 0} (f : X → Y) (xs : List X) (x : X) → Contains xs x → Contains (map f xs) (f x)
contains_map f xs x has = grind (arith, common_steps)

contains_later : {X : Type 0} (y : X) (xs : List X) (x : X) → Contains xs x → Contains (y ∷ xs) x
contains_later y xs x has = (suc has.0, omega (arith, has.1), has.2)

contains_filter : {X : Type 0} (p : X → Bool) (xs : List X) (x : X) (i : ℕ) → i < length xs → get_or xs i x ≡ x → p x ≡ true
    → Contains (filter p xs) x
contains_filter p [] x i below is passes = absurd (omega arith)
contains_filter p (y ∷ xs) x zero below is passes = rw (ap p is ∙ passes) (0, omega arith, is)
contains_filter {X} p (y ∷ xs) x (suc i) below is passes =
    let has = contains_filter p xs x i (omega arith) is passes in
    cond_both (p y) (y ∷ filter p xs) (filter p xs) (λ (l : List X). Contains l x) (λ _. contains_later y (filter p xs) x has) (λ _. has)

pairs_take : {X : Type 0} (R : X → X → Type 0) (k : ℕ) (xs : List X) → AllPairs R xs → AllPairs R (take k xs)
pairs_take R k xs all i j d before within = grind (arith, common_steps)

pairs_map : {X Y : Type 0} (R : Y → Y → Type 0) (f : X → Y) (xs : List X) → AllPairs (λ a b. R (f a) (f b)) xs → AllPairs R (map f xs)
pairs_map R f [] all i j d before within = absurd (omega arith)
pairs_map R f (x ∷ xs) all i j d before within =
    let long = length-map (x ∷ xs) f in
    rw (get_or-map f (x ∷ xs) i x d (omega arith), get_or-map f (x ∷ xs) j x d (omega arith)) (all i j x before (omega arith))

pairs_unmap : {X Y : Type 0} (R : Y → Y → Type 0) (f : X → Y) (xs : List X) → AllPairs R (map f xs)
    → AllPairs (λ a b. R (f a) (f b)) xs
pairs_unmap R f xs all i j d before within =
    let long = length-map xs f in
    rw (← get_or-map f xs i d (f d) (omega arith), ← get_or-map f xs j d (f d) (omega arith)) (all i j (f d) before (omega arith))

-- ---- the players

abbrev Apart : List ℕ → Type 0
Apart ns = AllPairs (λ p q. p ≢ q) ns

-- if some elements are left out, the numbers of the others are as far apart as they were
apart_filter : {X : Type 0} (f : X → ℕ) (p : X → Bool) (xs : List X) → Apart (map f xs) → Apart (map f (filter p xs))
apart_filter f p xs all =
    pairs_map (λ a b. a ≢ b) f (filter p xs) (AllPairs-filter (λ a b. f a ≢ f b) p xs (pairs_unmap (λ a b. a ≢ b) f xs all))

module _ (e : EventValue) (sound : IsSoundButForSeeds e) where
  number_at : (k : ℕ) (d : Player) → k < length e.players → (get_or e.players k d).no ≡ 1 + k
  number_at k d below =
      let at = get_or-map (λ (p : Player). p.no) e.players k d 0 below in
      let is = get_or-range_with_len 1 (length e.players) k 0 below in
      let numbered = sound.players.numbered in
      cc

  apart : Apart (numbers e.players)
  apart = pairs_map (λ p q. p ≢ q) (λ (p : Player). p.no) e.players (λ i j d before within same.
      omega (arith, same, number_at i d (omega arith), number_at j d within))

  -- a number is of one player
  same_drop : (p q : Player) → Contains e.players p → Contains e.players q → p.no ≡ q.no → p.dropped ≡ q.dropped
  same_drop p q (i, i_below, p_is) (j, j_below, q_is) number = grind (arith, common_steps, get_or_default, number_at)

  module _ (rows : List Row) (are : AreStandings e rows) where
    abbrev kept : List Row
    kept = filter (λ r. not r.dropped) rows

    abbrev listed : List ℕ
    listed = map (λ r. r.player) kept

    listed_known : All (Contains (numbers e.players)) listed
    listed_known =
        let known : Row → Type 0 = λ r. Contains (numbers e.players) r.player in
        All-map (Contains (numbers e.players)) (λ (r : Row). r.player) kept
        (All-filter (λ (r : Row). not r.dropped) known rows (All-weaker (IsRowOf e) known
        (λ r is. rw is.player (contains_map (λ (p : Player). p.no) e.players is.listed is.is_player)) rows are.each))

    listed_apart : Apart listed
    listed_apart = apart_filter (λ (r : Row). r.player) (λ r. not r.dropped) rows
        (apart_moved (numbers e.players) (map (λ (r : Row). r.player) rows) are.everyone apart)

    abbrev actives : List ℕ
    actives = map (λ (p : Player). p.no) (active e)

    actives_apart : Apart actives
    actives_apart = apart_filter (λ (p : Player). p.no) (λ p. not p.dropped) e.players apart

    -- the row of an active player is kept
    row_kept : (p : Player) → Contains e.players p → not p.dropped ≡ true → Contains listed p.no
    row_kept p has stays =
        let own = contains_map (λ (q : Player). q.no) e.players p has in
        let at = Contains-permutation (numbers e.players) (map (λ (r : Row). r.player) rows) p.no are.everyone own in
        let none : Row = record { rank = 0; player = 0; points = 0; omw = 0; gwp = 0; ogw = 0; dropped = false } in
        let below : at.0 < length rows = omega (arith, at.1, length-map rows (λ (r : Row). r.player)) in
        let r = get_or rows at.0 none in
        let row = are.each at.0 none below in
        let number : r.player ≡ p.no = sym (get_or-map (λ (q : Row). q.player) rows at.0 none p.no below) ∙ at.2 in
        let dropped = row.dropped ∙ same_drop row.listed p row.is_player has (sym row.player ∙ number) in
        let same = get_or_default rows at.0 r none below in
        rw (← number) (contains_map (λ (q : Row). q.player) kept r
        (contains_filter (λ (q : Row). not q.dropped) rows r at.0 below same (ap not dropped ∙ stays)))

    enough : length actives ≤ length listed
    enough =
        let stays = λ (p : Player). not p.dropped in
        let stands : Player → Type 0 = λ p. stays p ≡ true → Contains listed p.no in
        let all = All-weaker (Contains e.players) stands (λ p here passes. row_kept p here passes) e.players
        (All-contains_itself e.players) in
        let has = All-filter stays stands e.players all in
        let each = All-map (Contains listed) (λ (p : Player). p.no) (active e)
        (λ i d below. has i d below (filter_passes stays e.players i d below)) in
        length-le_from_is_member nat_eq_equiv actives listed (IsDistinct-from_AllPairs Decides-eqb actives actives_apart) (λ q is.
        let found = (is_member-Decides Decides-eqb actives q).0 is in
        (is_member-Decides Decides-eqb listed q).1 (All-contains (Contains listed) actives q each found))

-- ---- the seeds

-- the event with which the playoff of these seeds begins
abbrev Begun : EventValue → List ℕ → List (List Match) → EventValue
Begun e seeds stages = record e { phase = Playoff; bracket = record { stages = stages ++ first_stage seeds ∷ [] } }

module _ (e : EventValue) (sound : IsSoundButForSeeds e) (seeds : List ℕ) where
  pub begins : e.phase ≡ Swiss → after e (AddBracket (first_stage seeds)) ≡ Begun e seeds []
  begins swiss = ap (Begun e seeds) (sound.bracket.none (inr swiss))

  module _ (top : IsTop e e.cut seeds) (few : e.cut ≤ length (active e)) where
    abbrev all : List ℕ
    all = listed e sound top.rows top.standings

    pub top_length : length seeds ≡ e.cut
    top_length =
        let many = enough e sound top.rows top.standings in
        ap length top.top ∙ length-take-le e.cut all (omega (arith, few, many, length-map (active e) (λ (p : Player). p.no)))

    -- their first stage is one that the playoff may begin with
    pub top_opens : e.phase ≡ Swiss → all_rounds_done e ≡ true → 0 < e.cut → IsOpening e (first_stage seeds)
    top_opens swiss done low =
        let it = opens seeds (rw top_length (is_cut e.cut sound.set_up.cut low)) in
        let known = All-take (Contains (numbers e.players)) e.cut all (listed_known e sound top.rows top.standings) in
        let apart = pairs_take (λ p q. p ≢ q) e.cut all (listed_apart e sound top.rows top.standings) in
        record {
          swiss = swiss;
          done = rounds_done e done;
          cut = low;
          slots = it.slots ∙ ap (λ n. n / 2) top_length;
          known = All-permutation (Contains (numbers e.players)) seeds (seated seeds) it.same (rw (← top.top) at known);
          seated_once = apart_moved seeds (seated seeds) it.same (rw (← top.top) at apart);
          unplayed =
              All-map (λ (m : Match). m.score ≡ None) (λ (s : ℕ × ℕ). open_match (player_of_seed seeds s.0) (player_of_seed seeds s.1))
              (seeds_by_slot (length seeds)) (λ k d below. refl);
        }
