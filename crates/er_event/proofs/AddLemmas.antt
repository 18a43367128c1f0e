-- An event with one more round is sound exactly if its checks hold.
use Rattle.er_event.proofs.Prelude.{with_round, EventValue, is_complete, is_same_pairing, matches_of, seats, AreRounds, IsRound}
use Rattle.er_event.proofs.Prelude.{IsSoundButForSeeds, numbers, Phase, Enrolling, Swiss, Match, Round, MayFollow, All, AllPairs, Bool}
use Rattle.er_event.proofs.Prelude.{IsFalse, IsTrue, List, [], ap, arith, false, flat_map, get_or, length, length-append, not, refl, subst}
use Rattle.er_event.proofs.Prelude.{sym, take, true, true≢false, ℕ, ◌++◌, ◌+◌, ◌-◌, ◌<◌, ◌||◌, ◌∙◌, ◌∷◌, ◌≡◌, ◌≢◌, nat_tests, common_steps}
use Rattle.er_event.proofs.Prelude.{All-push, All-weaker, list_any_none, list_all, list_any}
use Rattle.std.proofs.{lemmas.List.Folds.list_any-append, lemmas.List.take_at}
use Rattle.er_event.proofs.{Absent.all-missed-more, Pairs.{All-last, none-of, pairs_across, pairs_append}, RoundLemmas.{All-of, of-All}}
use Rattle.er_event.proofs.SeatLemmas.{AreApart}
use Rattle.er_event.proofs.SeatLemmas.{sit-apart}

abbrev Differ : Match → Match → Type 0
Differ m n = IsFalse (is_same_pairing m n)

-- none of these matches has the two of this one
abbrev IsNew : List Round → Match → Type 0
IsNew stored m = IsFalse (list_any (λ n. is_same_pairing n m) (matches_of stored))

-- ---- within one round

not_same : (m n : Match) → AreApart m n → Differ m n
not_same m n apart = grind (arith, nat_tests)

seated_differ : (ms : List Match) → AllPairs (λ p q. p ≢ q) (flat_map seats ms) → AllPairs Differ ms
seated_differ ms h i j d before within = not_same (get_or ms i d) (get_or ms j d) ((sit-apart ms h).1 i j d before within)

-- ---- with the rounds before

any_stored : (p : Match → Bool) (rs : List Round) → list_any (λ (r : Round). list_any p r.matches) rs ≡ list_any p (matches_of rs)
any_stored p [] = refl
any_stored p (r ∷ rs) = ap (λ b. list_any p r.matches || b) (any_stored p rs) ∙ sym (list_any-append p r.matches (matches_of rs))

not_true : (b : Bool) → not b ≡ true → b ≡ false
not_true false h = refl
not_true true h = absurd (true≢false (sym h))

-- the test of each stored round, one after the other
abbrev pub is_new : List Round → Match → Bool
is_new stored m = not (list_any (λ (r : Round). list_any (λ n. is_same_pairing n m) r.matches) stored)

module _ (stored : List Round) (ms : List Match) where
  pub All-new : list_all (is_new stored) ms ≡ true → All (IsNew stored) ms
  All-new new = All-weaker (λ m. IsTrue (is_new stored m)) (IsNew stored)
      (λ m h. sym (any_stored (λ n. is_same_pairing n m) stored) ∙ not_true _ h) ms (All-of (is_new stored) ms new)

  pub new-All : All (IsNew stored) ms → list_all (is_new stored) ms ≡ true
  new-All h = of-All (is_new stored) ms (All-weaker (IsNew stored) (λ m. IsTrue (is_new stored m))
      (λ m none. ap not (any_stored (λ n. is_same_pairing n m) stored ∙ none)) ms h)

module _ (stored : List Round) (ms : List Match) where
  all_new : All (IsNew stored) ms → All (λ n. All (Differ n) ms) (matches_of stored)
  all_new new k d below j e within = none-of (λ n. is_same_pairing n (get_or ms j e)) (matches_of stored) (new j e within) k d below

  new_all : All (λ n. All (Differ n) ms) (matches_of stored) → All (IsNew stored) ms
  new_all apart k d below =
      list_any_none (λ n. is_same_pairing n (get_or ms k d)) (matches_of stored) (λ j e within. apart j e within k d below)

-- ---- one round more

matches-with : (stored : List Round) (ms : List Match) → matches_of (stored ++ record { matches = ms } ∷ []) ≡ matches_of stored ++ ms
matches-with stored ms = grind (arith, common_steps)

take-before : (rs : List Round) (r : Round) → take (length (rs ++ r ∷ []) - 1) (rs ++ r ∷ []) ≡ rs
take-before rs r = take_at rs (r ∷ []) _ (let count = length-append rs (r ∷ []) in omega arith)

abbrev Counted : Round → Type 0
Counted r = IsTrue (is_complete r.matches)

module _ (known : List ℕ) (rs : List Round) (ms : List Match) where
  abbrev r : Round
  r = record { matches = ms }

  abbrev Plays : Round → Type 0
  Plays s = IsRound known s.matches

  pub one_more : (limit most : ℕ) → AreRounds Swiss limit known rs → length rs < most → MayFollow known rs ms
      → AreRounds Swiss most known (rs ++ r ∷ [])
  one_more limit most h room follows =
      let count : length (rs ++ r ∷ []) ≡ length rs + 1 = length-append rs (r ∷ []) in
      record {
        few = omega arith;
        enrolling = λ phase. absurd (let never : Swiss ≡ Enrolling = phase in cc);
        each = All-push Plays rs r h.each follows.round;
        no_repeats = rw matches-with (pairs_append Differ (matches_of rs) ms h.no_repeats (seated_differ ms follows.round.seated_once)
            (all_new rs ms follows.new));
        earlier_done = rw take-before follows.done;
        done = λ over. absurd (grind arith);
      }

  pub may_follow : (phase : Phase) (limit : ℕ) → AreRounds phase limit known (rs ++ r ∷ []) → MayFollow known rs ms
  may_follow phase limit h = record {
    done = subst (All Counted) (take-before rs r) h.earlier_done;
    round = All-last Plays rs r h.each;
    new = new_all rs ms (pairs_across Differ (matches_of rs) ms (subst (AllPairs Differ) (matches-with rs ms) h.no_repeats));
  }

module _ (e : EventValue) (ms : List Match) where
  pub IsSound-round : IsSoundButForSeeds e → e.phase ≡ Swiss → length e.stored < e.rounds → MayFollow (numbers e.players) e.stored ms
      → IsSoundButForSeeds (with_round e ms)
  IsSound-round h swiss room follows =
      let rounds = one_more (numbers e.players) e.stored ms e.rounds e.rounds (rw swiss at h.rounds) room follows in
      record {
        set_up = h.set_up;
        players = h.players;
        rounds = rw swiss rounds;
        missed = all-missed-more e.stored (record { matches = ms }) e.players h.missed;
        bracket = h.bracket;
      }

  module _ (h : IsSoundButForSeeds (with_round e ms)) where
    pub round-few : length e.stored < e.rounds
    round-few = grind (arith, common_steps)

    pub round-follows : MayFollow (numbers e.players) e.stored ms
    round-follows = may_follow (numbers e.players) e.stored ms e.phase e.rounds h.rounds
