-- A player who drops keeps number and name, so the event stays sound once it has started.
use Rattle.er_event.proofs.Prelude.{Fits, dropped_at, with_dropped, with_phase, EventValue, ArePlayers, IsSoundButForSeeds, names, numbers}
use Rattle.er_event.proofs.Prelude.{SetDropped, Enrolling, Swiss, Player, All, Bool, Bor, Contains, IfSome, IsFalse, List, None, Option}
use Rattle.er_event.proofs.Prelude.{Some, [], ap, arith, cond, drop, false, find, get_or, length, map, not, not-suc-le-zero, option_map}
use Rattle.er_event.proofs.Prelude.{refl, suc, sym, true, zero, ℕ, ◌+◌, ◌-◌, ◌<◌, ◌==◌, ◌∷◌, ◌≡◌, ◌≢◌, ◌≤◌, length-map, set, common_steps}
use Rattle.er_event.proofs.Prelude.{get_or-range_with_len, length-range_with_len, AllPass-from_list_all, list_all-from_AllPass, none-some}
use Rattle.er_event.proofs.Prelude.{ap₂, slice_get_past, slice_get_read, list_all, ◌∙◌, range_with_len, slice_get, nat_tests}
use Rattle.std.proofs.{Common.unwrap_or, lemmas.List.Elements.All-map}
use Rattle.std.specs.Slice.{IsItemAt}
use Rattle.er_event.proofs.{Absent.{joined-dropped, missed-dropped}, Prelude.HasMissed}

pub numbers-dropped : (k : ℕ) (ps : List Player) → numbers (map (dropped_at k) ps) ≡ numbers ps
numbers-dropped k [] = refl
numbers-dropped k (p ∷ ps) = grind (arith, common_steps, numbers-dropped k ps)

names-dropped : (k : ℕ) (ps : List Player) → names (map (dropped_at k) ps) ≡ names ps
names-dropped k [] = refl
names-dropped k (p ∷ ps) = grind (arith, common_steps, names-dropped k ps)

-- if the players are numbered, the numbers are those from 1 to their count
pub Contains-numbered : (ps : List Player) (k : ℕ) → numbers ps ≡ range_with_len 1 (length ps) → 1 ≤ k → k ≤ length ps
    → Contains (numbers ps) k
Contains-numbered ps k numbered low high =
    (k - 1, grind (arith, common_steps, length-range_with_len), grind (arith, common_steps, length-range_with_len, get_or-range_with_len))

pub numbered-within : (ps : List Player) (k : ℕ) → numbers ps ≡ range_with_len 1 (length ps) → Contains (numbers ps) k
    → (1 ≤ k) × (k ≤ length ps)
numbered-within ps k numbered has = grind (arith, common_steps, length-range_with_len, get_or-range_with_len)

players-dropped : (e : EventValue) (k : ℕ) → ArePlayers e.phase e.rounds e.players → e.phase ≢ Enrolling
    → ArePlayers e.phase e.rounds (map (dropped_at k) e.players)
players-dropped e k h started =
    let low : Player → Type 0 = λ p. p.joined ≤ e.rounds in
    let joined = All-map low (dropped_at k) e.players (λ i d below. rw (joined-dropped k (get_or e.players i d)) (h.joined i d below)) in
    record {
      few = rw (length-map e.players (dropped_at k)) h.few;
      numbered = rw (length-map e.players (dropped_at k), numbers-dropped k e.players) h.numbered;
      lawful = rw (names-dropped k e.players) h.lawful;
      distinct = rw (names-dropped k e.players) h.distinct;
      enrolling = λ is. absurd (started is);
      early = λ is. absurd (started is);
      joined = joined;
      started = λ other. rw (length-map e.players (dropped_at k)) (h.started other);
    }

pub IsSound-dropped : (e : EventValue) (k : ℕ) → IsSoundButForSeeds e → e.phase ≢ Enrolling → IsSoundButForSeeds (with_dropped e k)
IsSound-dropped e k h started = record {
  set_up = h.set_up;
  players = players-dropped e k h.players started;
  rounds = rw numbers-dropped h.rounds;
  missed = All-map (HasMissed e.stored) (dropped_at k) e.players
      (λ i d below. missed-dropped e.stored k (get_or e.players i d) (h.missed i d below));
  bracket = rw numbers-dropped h.bracket;
}

-- a dropped player is one of them
pub some-dropped : (k : ℕ) (ps : List Player) → Contains (numbers ps) k
    → All (λ (p : Player). IsFalse p.dropped) (map (dropped_at k) ps) → ⊥
some-dropped k [] (i, below, is) all = not-suc-le-zero below
some-dropped k (p ∷ ps) (zero, below, is) all = grind (arith, common_steps, all 0 (dropped_at k p))
some-dropped k (p ∷ ps) (suc i, below, is) all = some-dropped k ps (i, omega arith, is) (λ j d under. all (suc j) d (omega arith))

-- ---- the write to the one player is the map over all

pub first_number : (p : Player) (ps : List Player) (a : ℕ) → numbers (p ∷ ps) ≡ range_with_len a (length (p ∷ ps))
    → (p.no ≡ a) × (numbers ps ≡ range_with_len (a + 1) (length ps))
first_number p ps a e = (ap (λ (ns : List ℕ). get_or ns 0 0) e, ap (Rattle.std.specs.Prelude.drop 1) e)

later_kept : (ps : List Player) (a k : ℕ) → k < a → numbers ps ≡ range_with_len a (length ps) → map (dropped_at k) ps ≡ ps
later_kept [] a k low numbered = refl
later_kept (p ∷ ps) a k low numbered =
    grind (arith, common_steps, first_number p ps a numbered, later_kept ps (a + 1) k (omega arith) (first_number p ps a numbered).1)

dropped-here : (k : ℕ) (p : Player) → p.no ≡ k → dropped_at k p ≡ record p { dropped = true }
dropped-here k p same = grind (arith, common_steps)

kept-here : (k : ℕ) (p : Player) → p.no ≢ k → dropped_at k p ≡ p
kept-here k p other = grind (arith, common_steps)

pub set-dropped : (ps : List Player) (a i : ℕ) (d : Player) → i < length ps → numbers ps ≡ range_with_len a (length ps)
    → set ps i (record (get_or ps i d) { dropped = true }) ≡ map (dropped_at (a + i)) ps
set-dropped [] a i d below numbered = absurd (not-suc-le-zero below)
set-dropped (p ∷ ps) a zero d below numbered =
    let both = first_number p ps a numbered in
    let at : a ≡ a + 0 = omega arith in
    sym (ap₂ ◌∷◌ (dropped-here (a + 0) p (both.0 ∙ at)) (later_kept ps (a + 1) (a + 0) (omega arith) both.1))
set-dropped (p ∷ ps) a (suc i) d below numbered =
    let both = first_number p ps a numbered in
    let at : a + 1 + i ≡ a + suc i = omega arith in
    ap₂ ◌∷◌ (sym (kept-here (a + suc i) p (λ same. omega (arith, both.0))))
    (set-dropped ps (a + 1) i d (omega arith) both.1 ∙ ap (λ k. map (dropped_at k) ps) at)

-- ---- nobody is dropped, by the test

pub All-undropped : (ps : List Player) → list_all (λ (p : Player). not p.dropped) ps ≡ true → All (λ (p : Player). IsFalse p.dropped) ps
All-undropped ps all k d below = grind (arith, common_steps, AllPass-from_list_all (λ (p : Player). not p.dropped) ps all k d below)

pub undropped-All : (ps : List Player) → All (λ (p : Player). IsFalse p.dropped) ps → list_all (λ (p : Player). not p.dropped) ps ≡ true
undropped-All ps all = list_all-from_AllPass (λ (p : Player). not p.dropped) ps (λ k d below. ap not (all k d below))

-- ---- nobody is late, by the test

pub All-early : (ps : List Player) → list_all (λ (p : Player). p.joined == 0) ps ≡ true → All (λ (p : Player). p.joined ≡ 0) ps
All-early ps is = λ k d below.
    let here = AllPass-from_list_all (λ (p : Player). p.joined == 0) ps is k d below in grind (arith, nat_tests)

pub early-All : (ps : List Player) → All (λ (p : Player). p.joined ≡ 0) ps → list_all (λ (p : Player). p.joined == 0) ps ≡ true
early-All ps h = list_all-from_AllPass (λ (p : Player). p.joined == 0) ps
    (λ k d below. let here = h k d below in grind (arith, nat_tests))

-- an event whose rounds are not paired goes back to enrolling if nobody is dropped
pub IsSound-enrolling : (e : EventValue) → IsSoundButForSeeds e → e.phase ≡ Swiss → e.stored ≡ []
    → All (λ (p : Player). IsFalse p.dropped) e.players → IsSoundButForSeeds (with_phase e Enrolling)
IsSound-enrolling e h swiss none undropped = record {
  set_up = h.set_up;
  players = record {
    few = h.players.few;
    numbered = h.players.numbered;
    lawful = h.players.lawful;
    distinct = h.players.distinct;
    enrolling = λ _. undropped;
    early = λ _ i d below. (let low = (h.missed i d below).stored in omega (arith, ap length none));
    joined = h.players.joined;
    started = λ other. absurd (other refl);
  };
  rounds = grind (arith, h.rounds);
  missed = h.missed;
  bracket = grind (arith, h.bracket);
}

found-step : (b : Bool) (q p : Player) (ps : List Player) (found : Option Player) → (found ≡ Some p → Contains (numbers ps) p.no)
    → cond b (Some q) found ≡ Some p → Contains (numbers (q ∷ ps)) p.no
found-step true q p ps found rest is = let same : q.no ≡ p.no = ap (λ (o : Option Player). (unwrap_or o q).no) is in (0, omega arith, same)
found-step false q p ps found rest is = let has = rest is in (suc has.0, omega (arith, has.1), has.2)

-- if players are numbered from k, the one of a number stands at its place
pub find-numbered : (k : ℕ) (ps : List Player) (n : ℕ) → numbers ps ≡ range_with_len k (length ps) → k ≤ n
    → find (λ (p : Player). p.no == n) ps ≡ slice_get ps (n - k)
find-numbered k [] n numbered low = sym (slice_get_past [] (n - k) (omega arith))
find-numbered k (q ∷ qs) n numbered low =
    grind (arith, common_steps, first_number q qs k numbered, find-numbered (k + 1) qs n (first_number q qs k numbered).1)

-- what `get` lends
pub item-got : (ps : List Player) (i : ℕ) (r : Option (Bor Player)) → IsItemAt ps i r
    → option_map (λ (p : Bor Player). p.now) r ≡ slice_get ps i
item-got ps i r h = grind (arith, common_steps, slice_get_past, slice_get_read)

-- and nobody has a lower number
pub find-below : (k : ℕ) (ps : List Player) (n : ℕ) → numbers ps ≡ range_with_len k (length ps) → n < k
    → find (λ (p : Player). p.no == n) ps ≡ None
find-below k [] n numbered low = refl
find-below k (q ∷ qs) n numbered low =
    grind (arith, common_steps, first_number q qs k numbered, find-below (k + 1) qs n (first_number q qs k numbered).1 (omega arith))

-- who is found is listed
pub found-listed : (k : ℕ) (ps : List Player) (p : Player) → find (λ (q : Player). q.no == k) ps ≡ Some p → Contains (numbers ps) p.no
found-listed k [] p is = absurd (none-some p is)
found-listed k (q ∷ ps) p is =
    found-step (q.no == k) q p ps (find (λ (q : Player). q.no == k) ps) (found-listed k ps p) is

-- who is found can drop, once the event has started
pub found-drops : (e : EventValue) (k : ℕ) (found : Option (Bor Player)) → IsSoundButForSeeds e
    → option_map (λ (p : Bor Player). p.now) found ≡ find (λ (q : Player). q.no == k) e.players
    → IfSome found (λ p. e.phase ≢ Enrolling → Fits e (SetDropped p.now.no))
found-drops e k None sound is = tt
found-drops e k (Some p) sound is =
    λ started. record { named = found-listed k e.players p.now (sym is); sound = IsSound-dropped e p.now.no sound started }

found-is : (k : ℕ) (ps : List Player) (p : Player) → find (λ (q : Player). q.no == k) ps ≡ Some p → p.no ≡ k
found-is k [] p is = absurd (none-some p is)
found-is k (q ∷ ps) p is = grind (arith, common_steps, found-is k ps p)

pub found-has : (k : ℕ) (ps : List Player) (found : Option (Bor Player)) → option_map (λ (p : Bor Player). p.now) found ≡ find
    (λ (q : Player). q.no == k) ps → IfSome found (λ p. p.now.no ≡ k)
found-has k ps None is = tt
found-has k ps (Some p) is = found-is k ps p.now (sym is)
