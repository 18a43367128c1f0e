-- The results of a player in a sound event keep the limits.
use Rattle.std.proofs.lemmas.Grind.{common_steps}
use Rattle.std.proofs.Common.{◌≡◌, ◌≢◌, ℕ, ◌+◌, ◌<◌, ◌≤◌, ◌==◌, suc, Bool, true, false, cond, List, [], ◌∷◌, flat_map}
use Rattle.std.proofs.Common.{length, get_or, count_by, All, AllPairs, Contains, IsTrue, IfSome, Option, Some, None, arith, inl, inr}
use Rattle.std.proofs.{lemmas.Bool.{cases_Bool, cases_eq, cond_both}, lemmas.Bool.Decides.nat_tests, lemmas.List.get_or-map}
use Rattle.std.proofs.{lemmas.List.Elements.{All-nil, All-append}, lemmas.List.FromFn.{get_or-range_with_len, length-range_with_len}}
use Rattle.std.proofs.lemmas.List.{Sums.{sum_by-cons, sum_by-append}, length-append}
use Rattle.std.proofs.{Common.{◌-◌, filter, nat_le, subst, take, refl, ◌⊎◌}}
use Rattle.std.specs.List.{enumerate_from}
use Rattle.er_share.specs.declared.TheConstants.{MAX_ROUNDS}
use Rattle.er_event.specs.{declared.players.Player.Player, declared.matches.Match.Match, declared.rounds.Round.Round}
use Rattle.er_event.specs.{declared.scores.Games.Games, Event.EventValue, Round.{is_complete, seats}, Score.is_swiss_score, Sound.numbers}
use Rattle.er_event.specs.{Sound.{HasMissed, IsRound, IsSoundButForSeeds}, Round.IsAbsent, Totals.games_of}
use Rattle.er_event.specs.Results.{RoundResult, results_by, results_in, results_of, rounds_missed_of, missed_rounds}
use Rattle.er_rank.specs.{Meeting.AreKnownTo, declared.lists.TheConstants.MAX_GAMES_OF_MATCH, Tally.IsKnown}
use Rattle.er_rank.proofs.{MeetingLemmas.results_of_match, PlacingLemmas.count_front}

abbrev IsShort : RoundResult → Type 0
IsShort r = games_of r ≤ MAX_GAMES_OF_MATCH

-- the limits that the results of a player keep, with `missed` rounds that were missed
pub record AreWithin (results : List RoundResult) (missed : ℕ) : Type 0 where
  pub few : length results + missed ≤ MAX_ROUNDS
  pub short : All (λ (r : RoundResult). games_of r ≤ MAX_GAMES_OF_MATCH) results

-- the complete ones of rounds that are numbered from this one on
abbrev complete_from : ℕ → List Round → List (ℕ × Round)
complete_from first rounds = filter (λ (numbered : ℕ × Round). is_complete numbered.1.matches) (enumerate_from first rounds)

abbrev results_from : ℕ → ℕ → List Round → List RoundResult
results_from player first rounds = flat_map (results_in player) (complete_from first rounds)

abbrev is_early : ℕ → ℕ × Round → Bool
is_early joined numbered = nat_le numbered.0 joined

-- ---- the games of a result

score_short : (player r : ℕ) (m : Match) (score : Option Games) → IfSome score (λ s. IsTrue (is_swiss_score s))
    → All IsShort (results_by player r m score)
score_short player r m None lawful = All-nil IsShort
score_short player r m (Some s) lawful = grind (arith, common_steps, cond_both, nat_tests)

matches_short : (player r : ℕ) (ms : List Match) → All (λ (m : Match). IfSome m.score (λ s. IsTrue (is_swiss_score s))) ms
    → All IsShort (flat_map (results_of_match player r) ms)
matches_short player r [] lawful = All-nil IsShort
matches_short player r (m ∷ ms) lawful =
    All-append IsShort _ _ (score_short player r m m.score (lawful 0 m (omega arith)))
    (matches_short player r ms (λ k d below. lawful (suc k) d (omega arith)))

rounds_short : (known : List ℕ) (player n : ℕ) (rounds : List Round) → All (λ (round : Round). IsRound known round.matches) rounds
    → All IsShort (results_from player n rounds)
rounds_short known player n [] sound = All-nil IsShort
rounds_short known player n (r ∷ rounds) sound =
    let later = rounds_short known player (n + 1) rounds (λ k d below. sound (suc k) d (omega arith)) in
    elim (cases_Bool (is_complete r.matches)) [
      | inl counted ↦ rw counted (All-append IsShort (results_in player (n, r)) (results_from player (n + 1) rounds)
          (matches_short player n r.matches (sound 0 r (omega arith)).scores) later)
      | inr unfinished ↦ rw unfinished later
    ]

-- ---- one result a round

abbrev is_no : ℕ → ℕ → Bool
is_no player q = q == player

-- a number stands once among different ones
once : (player : ℕ) (qs : List ℕ) → AllPairs (λ p q. p ≢ q) qs → count_by (is_no player) qs ≤ 1
once player [] apart = omega arith
once player (q ∷ qs) apart =
    let split = sum_by-cons (λ y. cond (is_no player y) 1 0) q qs in
    let rest = once player qs (λ i j d before within. apart (suc i) (suc j) d (omega arith) (omega arith)) in
    elim (cases_eq q player) [
      | inl same ↦
          let none = count_front (is_no player) qs 0 (omega arith) (λ k d before. absurd (omega arith)) (λ k d low below.
          let other = apart 0 (suc k) d (omega arith) (omega arith) in
          grind (arith, nat_tests, other)) in
          grind (arith, nat_tests, split, none)
      | inr other ↦ grind (arith, nat_tests, split, rest)
    ]

score_once : (player r : ℕ) (m : Match) (score : Option Games)
    → length (results_by player r m score) ≤ count_by (is_no player) (m.a ∷ m.b ∷ [])
score_once player r m score = grind (arith, common_steps)

matches_once : (player r : ℕ) (ms : List Match)
    → length (flat_map (results_of_match player r) ms) ≤ count_by (is_no player) (flat_map seats ms)
matches_once player r [] = omega arith
matches_once player r (m ∷ ms) =
    let here = score_once player r m m.score in
    let rest = matches_once player r ms in
    let own = length-append (results_of_match player r m) (flat_map (results_of_match player r) ms) in
    let all = sum_by-append (λ q. cond (is_no player q) 1 0) (seats m) (flat_map seats ms) in
    rw (own, all) (omega (arith, here, rest))

-- ---- who missed a round has no match in it

score_none : (player r : ℕ) (m : Match) (score : Option Games) → m.a ≢ player → m.b ≢ player → length (results_by player r m score) ≡ 0
score_none player r m score first second = grind (arith, common_steps, nat_tests)

matches_none : (player r : ℕ) (ms : List Match) → IsAbsent player ms → length (flat_map (results_of_match player r) ms) ≡ 0
matches_none player r [] away = refl
matches_none player r (m ∷ ms) away =
    let here = score_none player r m m.score (away 0 m (omega arith)).0 (away 0 m (omega arith)).1 in
    let rest = matches_none player r ms (λ k d below. away (suc k) d (omega arith)) in
    let own = length-append (results_of_match player r m) (flat_map (results_of_match player r) ms) in
    rw own (omega (arith, here, rest))

low_or_high : (m n : ℕ) → (m ≤ n) ⊎ (n < m)
low_or_high m n = grind arith

-- the player has no match in the first rounds, up to this one
abbrev IsAway : ℕ → ℕ → ℕ → List Round → Type 0
IsAway player joined n rounds = All (λ (round : Round). IsAbsent player round.matches) (take (joined + 1 - n) rounds)

later_away : (player joined n : ℕ) (r : Round) (later : List Round) → IsAway player joined n (r ∷ later)
    → IsAway player joined (n + 1) later
later_away player joined n r later away = elim (low_or_high n joined) [
  | inl low ↦
      let some : joined + 1 - n ≡ suc (joined + 1 - (n + 1)) = omega arith in
      λ k d below. rw some at away (suc k) d (omega arith)
  | inr high ↦
      let none : joined + 1 - (n + 1) ≡ 0 = omega arith in
      λ k d below. absurd (let never = rw none at below in omega arith)
]

-- a round is played once at most, or missed
round_once : (player joined n : ℕ) (r : Round) (later : List Round) → AllPairs (λ p q. p ≢ q) (flat_map seats r.matches)
    → IsAway player joined n (r ∷ later) → length (results_in player (n, r)) + cond (nat_le n joined) 1 0 ≤ 1
round_once player joined n r later apart away = elim (low_or_high n joined) [
  | inl low ↦
      let some : joined + 1 - n ≡ suc (joined + 1 - (n + 1)) = omega arith in
      let none = matches_none player n r.matches (rw some at away 0 r (omega arith)) in
      let late : nat_le n joined ≡ true = grind (arith, nat_tests) in
      rw late (omega (arith, none))
  | inr high ↦
      let one = matches_once player n r.matches in
      let few = once player (flat_map seats r.matches) apart in
      let early : nat_le n joined ≡ false = grind (arith, nat_tests) in
      rw early (omega (arith, one, few))
]

rounds_once : (player joined n : ℕ) (rounds : List Round)
    → All (λ (round : Round). AllPairs (λ p q. p ≢ q) (flat_map seats round.matches)) rounds → IsAway player joined n rounds
    → length (results_from player n rounds) + count_by (is_early joined) (complete_from n rounds) ≤ length rounds
rounds_once player joined n [] apart away = omega arith
rounds_once player joined n (r ∷ rounds) apart away =
    let one = round_once player joined n r rounds (apart 0 r (omega arith)) away in
    let rest = rounds_once player joined (n + 1) rounds (λ k d below. apart (suc k) d (omega arith))
    (later_away player joined n r rounds away) in
    let own = length-append (results_in player (n, r)) (results_from player (n + 1) rounds) in
    let missed = sum_by-cons (λ (x : ℕ × Round). cond (is_early joined x) 1 0) (n, r) (complete_from (n + 1) rounds) in
    elim (cases_Bool (is_complete r.matches)) [
      | inl counted ↦ rw (counted, own, missed) (omega (arith, one, rest))
      | inr unfinished ↦ rw unfinished (omega (arith, rest))
    ]

-- the player of a number has no match in the rounds that were missed
away_first : (player : ℕ) (ps : List Player) (rounds : List Round) → All (HasMissed rounds) ps
    → All (λ (round : Round). IsAbsent player round.matches) (take (rounds_missed_of ps player) rounds)
away_first player [] rounds missed = All-nil (λ (round : Round). IsAbsent player round.matches)
away_first player (p ∷ ps) rounds missed = elim (cases_eq p.no player) [
  | inl same ↦
      let joined : rounds_missed_of (p ∷ ps) player ≡ p.joined = grind (arith, common_steps, nat_tests) in
      rw joined (subst (λ (q : ℕ). All (λ (round : Round). IsAbsent q round.matches) (take p.joined rounds)) same
      (missed 0 p (omega arith)).absent)
  | inr other ↦
      let joined : rounds_missed_of (p ∷ ps) player ≡ rounds_missed_of ps player = grind (arith, common_steps, nat_tests) in
      rw joined (away_first player ps rounds (λ k d below. missed (suc k) d (omega arith)))
]

-- ---- a sound event

module _ (e : EventValue) (sound : IsSoundButForSeeds e) where
  pub AreWithin-sound : (player : ℕ) → AreWithin (results_of e player) (missed_rounds e player)
  AreWithin-sound player =
      let joined = rounds_missed_of e.players player in
      let all : joined + 1 - 1 ≡ joined = omega arith in
      let away : IsAway player joined 1 e.stored = rw all (away_first player e.players e.stored sound.missed) in
      let once = rounds_once player joined 1 e.stored (λ k d below. (sound.rounds.each k d below).seated_once) away in
      record {
        few = omega (arith, once, sound.rounds.few, sound.set_up.rounds);
        short = rounds_short (numbers e.players) player 1 e.stored sound.rounds.each;
      }

  -- the players' numbers
  pub number_at : (k : ℕ) (d : Player) → k < length e.players → (get_or e.players k d).no ≡ 1 + k
  number_at k d below =
      let at = get_or-map (λ (p : Player). p.no) e.players k d 0 below in
      let is = get_or-range_with_len 1 (length e.players) k 0 below in
      let numbered = sound.players.numbered in
      cc

  pub numbers_known : All (λ (p : Player). IsKnown (length e.players) p.no) e.players
  numbers_known = λ k d below. (omega (arith, number_at k d below), omega (arith, number_at k d below))

  is_known : (q : ℕ) → Contains (numbers e.players) q → IsKnown (length e.players) q
  is_known q found = grind (arith, common_steps, get_or-range_with_len, length-range_with_len)

  -- nobody sits first at a table without a number
  pub first_numbers : All (λ (r : Round). All (λ (m : Match). 0 < m.a) r.matches) e.stored
  first_numbers = λ k d below j m within.
      (is_known (get_or (get_or e.stored k d).matches j m).a ((sound.rounds.each k d below).first_known j m within)).0

  -- the two of each match are players of the event
  pub seats_known : All (λ (r : Round). AreKnownTo (length e.players) r.matches) e.stored
  seats_known = λ k d below j m within seated.
      let here = get_or (get_or e.stored k d).matches j m in
      let each = sound.rounds.each k d below in
      (is_known here.a (each.first_known j m within), is_known here.b (each.second_known j m within seated))
