-- How many matches each player has, one encounter after the other, and when there may be one more.
use Rattle.std.proofs.{lemmas.Grind.common_steps, Common.{◌≡◌, ℕ, ◌+◌, ◌<◌, ◌≤◌, ◌==◌, cond, List, [], ◌++◌, length, get_or, count_by, All}}
use Rattle.std.proofs.{Common.{length-append, arith, inl, inr}, Math.ListN.set, lemmas.Bool.cases_eq, lemmas.Bool.Decides.nat_tests}
use Rattle.std.proofs.{lemmas.List.get_or_append_left, lemmas.List.Elements.All-push, lemmas.List.Sums.sum_by-append}
use Rattle.er_share.specs.declared.TheConstants.{MAX_ROUNDS}
use Rattle.er_event.specs.declared.totals.Totals.{Totals}
use Rattle.er_rank.specs.{inside.Counting.{with_match, AreCountsOf}, Meeting.{Encounter, IsRecord, AreEncounters}, Tally.IsKnown}
use Rattle.er_rank.proofs.OpponentLemmas.{All-here}

-- how many of these encounters the player has
abbrev pub count_of : List Encounter → ℕ → ℕ
count_of all player = count_by (λ (e : Encounter). e.player == player) all

abbrev of_players : ℕ → Encounter → Type 0
of_players players e = IsKnown players e.player

abbrev IsRecorded : Encounter → Type 0
IsRecorded e = IsRecord e.opponent

-- whether the player may have this match too
pub record MayMeet (players : ℕ) (before : List Encounter) (player : ℕ) (opponent : Totals) : Type 0 where
  pub known : player ≤ players
  pub few : count_of before player < MAX_ROUNDS
  pub recorded : IsRecord opponent

-- ---- one encounter more

module _ (before : List Encounter) (player : ℕ) (opponent : Totals) where
  count_of-more : (other : ℕ) → count_of (with_match before player opponent) other ≡ count_of before other + cond (player == other) 1 0
  count_of-more other = grind (arith, common_steps)

  -- the player's own count is one more, and the others stay
  pub AreCountsOf-more : (counts : List ℕ) (at now : ℕ) → 1 + at ≡ player → at < length counts → now ≡ get_or counts at 0 + 1
      → AreCountsOf before counts → AreCountsOf (with_match before player opponent) (set counts at now)
  AreCountsOf-more counts at now number within more are = grind (arith, common_steps)

  module _ (players : ℕ) where
    pub AreEncounters-more : 1 ≤ player → AreEncounters players before → MayMeet players before player opponent
        → AreEncounters players (with_match before player opponent)
    AreEncounters-more some are may =
        let e : Encounter = record { player = player; opponent = opponent } in
        record {
          known = All-push (of_players players) before e are.known (some, may.known);
          few = λ other. elim (cases_eq other player) [
            | inl same ↦ rw same (grind (arith, nat_tests, count_of-more player, may.few))
            | inr differ ↦ grind (arith, nat_tests, count_of-more other, are.few other)
          ];
          records = All-push IsRecorded before e are.records may.recorded;
        }

    -- if one more is not possible, no longer list is
    pub MayMeet-last : AreEncounters players (with_match before player opponent) → MayMeet players before player opponent
    MayMeet-last are =
        let e : Encounter = record { player = player; opponent = opponent } in
        record {
          known = (All-here (of_players players) before e [] are.known).1;
          few = grind (arith, nat_tests, count_of-more player, are.few player);
          recorded = All-here IsRecorded before e [] are.records;
        }

All-front : {X : Type 0} (P : X → Type 0) (xs ys : List X) → All P (xs ++ ys) → All P xs
All-front P xs ys all = λ k d below. rw (get_or_append_left xs ys d k below) at (all k d (omega (arith, length-append xs ys)))

pub AreEncounters-front : (players : ℕ) (before after : List Encounter) → AreEncounters players (before ++ after)
    → AreEncounters players before
AreEncounters-front players before after are = record {
  known = All-front (of_players players) before after are.known;
  few = λ player. omega (arith, sum_by-append (λ (e : Encounter). cond (e.player == player) 1 0) before after, are.few player);
  records = All-front IsRecorded before after are.records;
}
