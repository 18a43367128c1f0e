-- An event with one score set anew is sound exactly if the score is lawful.
use Rattle.er_event.proofs.Prelude.{Fits, score_table, match_with_score, with_score, EventValue, is_bye, is_complete, match_at, match_in}
use Rattle.er_event.proofs.Prelude.{matches_of}
use Rattle.er_event.proofs.Prelude.{enumerate_from, seats, bye_score, is_swiss_score, AreRounds, IsRound, IsSoundButForSeeds, numbers}
use Rattle.er_event.proofs.Prelude.{HasMissed, IsAbsent, Player, SetScore, Match, Round, Games, All, AllPairs, Bor, Contains, IfSome}
use Rattle.er_event.proofs.Prelude.{IsFalse, IsTrue, List, None}
use Rattle.er_event.proofs.Prelude.{Option, Some, ap, arith, false, flat_map, get_or, length, option_map, subst, sym, take, true}
use Rattle.er_event.proofs.Prelude.{true≢false, ℕ, ◌-◌, ◌<◌, ◌∙◌, ◌≡◌, ◌≢◌, ◌≤◌, set, nat_tests, common_steps, length-set}
use Rattle.er_event.proofs.Prelude.{get_or_from_slice_get, slice_get_past, slice_get_read, slice_get_within, slice_get}
use Rattle.er_event.proofs.{RoundLemmas.{All-of, of-All}, SeatLemmas.{pairings-same, seats-rounds, seats-set}, TableLemmas.at-place}
use Rattle.er_event.proofs.TableLemmas.{score-place}

-- ---- one element set anew

module _ {X : Type 0} (P : X → Type 0) (a : X) where
  First-set : (k i : ℕ) (xs : List X) → (P (get_or xs i a) → P a) → All P (take k xs) → All P (take k (set xs i a))
  First-set k i xs here h j d below = grind (arith, common_steps, h j d, h i a, here)

  pub All-set : (i : ℕ) (xs : List X) → (P (get_or xs i a) → P a) → All P xs → All P (set xs i a)
  All-set i xs here h k d below = grind (arith, common_steps, h k d, h i a, here)

  pub set-All : (i : ℕ) (xs : List X) → i < length xs → All P (set xs i a) → P a
  set-All i xs within h = grind (arith, common_steps, h i a)

-- ---- the round, and the event, whose match has a new score

module _ (s : Games) (m : Match) (i : ℕ) (ms : List Match) (there : get_or ms i (match_with_score s m) ≡ m) (seat : is_bye m ≡ false) where
  abbrev new : List Match
  new = set ms i (match_with_score s m)

  kept : (P : Match → Type 0) → (P m → P (match_with_score s m)) → All P ms → All P new
  kept P here h = All-set P (match_with_score s m) i ms (λ p. here (subst P there p)) h

  seats-new : flat_map seats ms ≡ flat_map seats new
  seats-new = seats-set (match_with_score s m) i ms (ap (λ (k : Match). k.a) there) (ap (λ (k : Match). k.b) there)

  round-scored : (known : List ℕ) → is_swiss_score s ≡ true → IsRound known ms → IsRound known new
  round-scored known swiss h =
      let count : length new ≡ length ms = length-set ms i (match_with_score s m) in
      record {
        some = let some = h.some in omega arith;
        first_known = kept (λ (k : Match). Contains known k.a) (λ p. p) h.first_known;
        second_known = kept (λ (k : Match). IsFalse (is_bye k) → Contains known k.b) (λ p. p) h.second_known;
        seated_once = subst (λ (ps : List ℕ). AllPairs (λ p q. (p ≡ q) → ⊥) ps) seats-new h.seated_once;
        byes_won = kept (λ (k : Match). IsTrue (is_bye k) → k.score ≡ Some bye_score)
            (λ _ bye. absurd (true≢false (sym bye ∙ seat))) h.byes_won;
        scores = kept (λ (k : Match). IfSome k.score (λ t. IsTrue (is_swiss_score t))) (λ _. swiss) h.scores;
        bye_last = subst (λ (n : ℕ). All (λ (k : Match). IsFalse (is_bye k)) (take (n - 1) new)) (sym count)
            (First-set (λ (k : Match). IsFalse (is_bye k)) (match_with_score s m) (length ms - 1) i ms (λ _. seat) h.bye_last);
      }

  counted-scored : is_complete ms ≡ true → is_complete new ≡ true
  counted-scored all = grind (arith, common_steps, of-All, kept, All-of)

  module _ (e : EventValue) (j : ℕ) (round : (get_or e.stored j (record { matches = new })).matches ≡ ms) where
    abbrev r : Round
    r = record { matches = new }

    abbrev rounds : List Round
    rounds = set e.stored j r

    abbrev Counted : Round → Type 0
    Counted q = IsTrue (is_complete q.matches)

    count-rounds : length rounds ≡ length e.stored
    count-rounds = length-set e.stored j r

    counted-here : Counted (get_or e.stored j r) → Counted r
    counted-here h = counted-scored (ap is_complete (sym round) ∙ h)

    rounds-scored : is_swiss_score s ≡ true → AreRounds e.phase e.rounds (numbers e.players) e.stored
        → AreRounds e.phase e.rounds (numbers e.players) rounds
    rounds-scored swiss h =
        let count = count-rounds in
        let each = All-set (λ (q : Round). IsRound (numbers e.players) q.matches) r j e.stored
        (λ is. round-scored (numbers e.players) swiss (subst (IsRound (numbers e.players)) round is)) h.each in
        let no_repeats = pairings-same (matches_of e.stored) (matches_of rounds)
        (seats-rounds r j e.stored (ap (flat_map seats) round ∙ seats-new)) h.no_repeats in
        let earlier = First-set Counted r (length e.stored - 1) j e.stored counted-here h.earlier_done in
        let all = All-set Counted r j e.stored counted-here in
        grind (arith, common_steps)

    missed-scored : (p : Player) → HasMissed e.stored p → HasMissed rounds p
    missed-scored p h =
        let Away : Match → Type 0 = λ k. (k.a ≢ p.no) × (k.b ≢ p.no) in
        let low = h.stored in
        record {
          stored = omega (arith, count-rounds, low);
          absent = First-set (λ (q : Round). IsAbsent p.no q.matches) r p.joined j e.stored
              (λ is. kept Away (λ away. away) (subst (IsAbsent p.no) round is)) h.absent;
        }

    IsSound-scored : is_swiss_score s ≡ true → IsSoundButForSeeds e → IsSoundButForSeeds (record e { stored = rounds })
    IsSound-scored swiss h = record {
      set_up = h.set_up;
      players = h.players;
      rounds = rounds-scored swiss h.rounds;
      missed = λ i p below. missed-scored (get_or e.players i p) (h.missed i p below);
      bracket = h.bracket;
    }

    -- a sound event has no other score
    scored-swiss : i < length ms → j < length e.stored → IsSoundButForSeeds (record e { stored = rounds }) → is_swiss_score s ≡ true
    scored-swiss table within h = set-All (λ (k : Match). IfSome k.score (λ t. IsTrue (is_swiss_score t))) (match_with_score s m) i ms table
        (set-All (λ (q : Round). IsRound (numbers e.players) q.matches) r j e.stored within h.rounds.each).scores

-- ---- the match of a table of a round

-- the round, and the match in it
pub record Found (e : EventValue) (k t : ℕ) (m : Match) : Type 0 where
  pub round : Round
  pub stored : slice_get e.stored (k - 1) ≡ Some round
  pub here : match_in round.matches t ≡ Some m

pub found : (e : EventValue) (k t : ℕ) (m : Match) → match_at e k t ≡ Some m → Found e k t m
found e k t m is = grind (arith, common_steps)

module _ (e : EventValue) (k t : ℕ) (s : Games) (m : Match) (is : match_at e k t ≡ Some m) (seat : is_bye m ≡ false) where
  abbrev f : Found e k t m
  f = found e k t m is

  abbrev ms : List Match
  ms = f.round.matches

  table-read : slice_get ms (t - 1) ≡ Some m
  table-read = (at-place ms t m f.here seat).1

  table-is : (d : Match) → get_or ms (t - 1) d ≡ m
  table-is d = get_or_from_slice_get ms (t - 1) m d table-read

  round-is : (d : Round) → get_or e.stored (k - 1) d ≡ f.round
  round-is d = get_or_from_slice_get e.stored (k - 1) f.round d f.stored

  abbrev With : List Match → EventValue
  With ks = record e { stored = set e.stored (k - 1) (record { matches = ks }) }

  pub scored-is : with_score e k t s ≡ With (set ms (t - 1) (match_with_score s m))
  scored-is = grind (arith, common_steps, enumerate_from, round-is, score-place, score_table)

  abbrev d : Round
  d = record { matches = set ms (t - 1) (match_with_score s m) }

  pub Fits-score : is_swiss_score s ≡ true → IsSoundButForSeeds e → Fits e (SetScore k t s)
  Fits-score swiss h = record {
    named = (m, is, seat);
    sound = subst IsSoundButForSeeds (sym scored-is)
        (IsSound-scored s m (t - 1) ms (table-is (match_with_score s m)) seat e (k - 1)
        (ap (λ (q : Round). q.matches) (round-is d)) swiss h);
  }

  pub swiss-score : IsSoundButForSeeds (with_score e k t s) → is_swiss_score s ≡ true
  swiss-score h =
      scored-swiss s m (t - 1) ms (table-is (match_with_score s m)) seat e (k - 1) (ap (λ (q : Round). q.matches) (round-is d))
      (slice_get_within ms (t - 1) m table-read) (slice_get_within e.stored (k - 1) f.round f.stored) (subst IsSoundButForSeeds scored-is h)

-- ---- the match that is read

pub read-match : (e : EventValue) (k t i : ℕ) (q : Round) → k ≢ 0 → i ≡ k → i - 1 < length e.stored → q ≡ get_or e.stored (i - 1) q
    → match_at e k t ≡ match_in q.matches t
read-match e k t i q some same within is = grind (arith, common_steps, nat_tests, slice_get, slice_get_read)

pub read-past : (e : EventValue) (k t i : ℕ) → k ≢ 0 → i ≡ k → length e.stored ≤ i - 1 → match_at e k t ≡ None
read-past e k t i some same past = grind (arith, common_steps, nat_tests, slice_get, slice_get_past)

pub read-fits : (e : EventValue) (k t : ℕ) (found : Option (Bor Match)) → IsSoundButForSeeds e
    → match_at e k t ≡ option_map (λ (m : Bor Match). m.now) found
    → IfSome found (λ m. IsFalse (is_bye m.now) → (s : Games) → IsTrue (is_swiss_score s) → Fits e (SetScore k t s))
read-fits e k t None sound is = tt
read-fits e k t (Some m) sound is = λ seat s swiss. Fits-score e k t s m.now is seat swiss sound

-- ---- the match that is written

module _ (e : EventValue) (k t : ℕ) (s : Games) (fits : Fits e (SetScore k t s)) where
  pub fits-swiss : is_swiss_score s ≡ true
  fits-swiss = swiss-score e k t s fits.named.0 fits.named.1 fits.named.2 fits.sound

  pub fits-low : 1 ≤ t
  fits-low = let f = found e k t fits.named.0 fits.named.1 in (at-place f.round.matches t fits.named.0 f.here fits.named.2).0

  module _ (i j : ℕ) (q : Round) (same : i ≡ k) (table : j ≡ t) (listed : q ≡ get_or e.stored (i - 1) q) where
    listed-is : q ≡ (found e k t fits.named.0 fits.named.1).round
    listed-is = grind (arith, listed, round-is e k t s fits.named.0 fits.named.1 fits.named.2 q)

    listed-there : slice_get q.matches (j - 1) ≡ Some fits.named.0
    listed-there = rw (listed-is, table) (table-read e k t s fits.named.0 fits.named.1 fits.named.2)

    pub listed-within : j - 1 < length q.matches
    listed-within = slice_get_within q.matches (j - 1) fits.named.0 listed-there

    pub written : (new : List Match)
        → ((m : Match) → slice_get q.matches (j - 1) ≡ Some m → new ≡ set q.matches (j - 1) (match_with_score s m))
        → (let w : EventValue = record e { stored = set e.stored (i - 1) (record { matches = new }) } in w) ≡ with_score e k t s
    written new set_there =
        let m = fits.named.0 in
        let made = set_there m listed-there in
        grind (arith, made, listed-is, scored-is e k t s m fits.named.1 fits.named.2)
