-- Whom a player has met by the meetings is whom the player has met by the results.
use Rattle.std.proofs.{lemmas.Grind.common_steps, Common.{◌≡◌, ℕ, ◌+◌, ◌<◌, min, max, suc, Bool, true, not, if◌then◌else◌, List}}
use Rattle.std.proofs.Common.{[], ◌∷◌, ◌++◌, map, filter, flat_map, length, take, get_or, All, Option, Some, None, refl, arith, inl, inr}
use Rattle.std.proofs.{lemmas.Bool.{cases_Bool, not-true, cond_both, and_parts, and_from}}
use Rattle.std.proofs.lemmas.List.Elements.{All-nil, All-cons, All-append, filter_map-append}
use Rattle.std.specs.List.{enumerate_from, filter_map}
use Rattle.er_event.specs.{declared.matches.Match.Match, declared.rounds.Round.Round, declared.scores.Games.Games}
use Rattle.er_event.specs.{declared.tallies.Meeting.Meeting, declared.totals.Totals.Totals, Event.EventValue}
use Rattle.er_event.specs.{Results.{RoundResult, results_by, results_in}, Round.{is_bye, is_complete}}
use Rattle.er_event.specs.{Tallies.complete_matches}
use Rattle.er_event.specs.{Tallies.{meeting_by, meetings}, Totals.totals}
use Rattle.er_rank.specs.{Meeting.{Encounter, encounters, opponents_of, IsRecord, IsKnownTo, AreKnownTo}, Standings.opponents}
use Rattle.er_rank.specs.Tally.{IsKnown}

abbrev pub is_met : Match → Bool
is_met m = not (is_bye m)

abbrev opponent_in : RoundResult → Option ℕ
opponent_in r = r.opponent

abbrev pub results_of_match : ℕ → ℕ → Match → List RoundResult
results_of_match player round m = results_by player round m m.score

abbrev counts : ℕ × Round → Bool
counts numbered = is_complete numbered.1.matches

-- a round's matches, if it is complete
abbrev pub counted_in : Round → List Match
counted_in r = if is_complete r.matches then r.matches else []

module _ (come_to : ℕ → Totals) where
  -- the meetings of matches, and their encounters
  abbrev pub made_of : List Match → List Meeting
  made_of ms = map (meeting_by come_to) (filter is_met ms)

  abbrev pub met_in : List Match → List Encounter
  met_in ms = encounters (made_of ms)

  -- what the opponents came to, by results
  abbrev seen_in : List RoundResult → List Totals
  seen_in results = map come_to (filter_map opponent_in results)

  met_in-append : (xs ys : List Match) → met_in (xs ++ ys) ≡ met_in xs ++ met_in ys
  met_in-append xs ys = grind (arith, common_steps)

  scored_match : (player r a b : ℕ) (score : Option Games) → is_complete (record { a = a; b = b; score = score } ∷ []) ≡ true → 0 < a
      → opponents_of (met_in (record { a = a; b = b; score = score } ∷ [])) player
      ≡ seen_in (results_by player r (record { a = a; b = b; score = score }) score)
  scored_match player r a b None scored positive = cc
  scored_match player r a b (Some s) scored positive = grind (arith, common_steps)

  -- ---- the matches of a round, and the rounds

  joined : (player : ℕ) (xs ys : List Match) (ks ls : List RoundResult) → opponents_of (met_in xs) player ≡ seen_in ks
      → opponents_of (met_in ys) player ≡ seen_in ls → opponents_of (met_in (xs ++ ys)) player ≡ seen_in (ks ++ ls)
  joined player xs ys ks ls here rest = grind (arith, common_steps, filter_map-append)

  round_met : (player r : ℕ) (ms : List Match) → is_complete ms ≡ true → All (λ (m : Match). 0 < m.a) ms
      → opponents_of (met_in ms) player ≡ seen_in (flat_map (results_of_match player r) ms)
  round_met player r [] counted positive = refl
  round_met player r (m ∷ ms) counted positive =
      let both = and_parts _ _ counted in
      joined player (m ∷ []) ms (results_of_match player r m) (flat_map (results_of_match player r) ms)
      (scored_match player r m.a m.b m.score (and_from _ true both.0 refl) (positive 0 m (omega arith)))
      (round_met player r ms both.1 (λ k d below. positive (suc k) d (omega arith)))

  rounds_met : (player n : ℕ) (rounds : List Round) → All (λ (r : Round). All (λ (m : Match). 0 < m.a) r.matches) rounds
      → opponents_of (met_in (complete_matches rounds)) player
      ≡ seen_in (flat_map (results_in player) (filter counts (enumerate_from n rounds)))
  rounds_met player n [] positive = refl
  rounds_met player n (r ∷ rounds) positive =
      let later = rounds_met player (n + 1) rounds (λ k d below. positive (suc k) d (omega arith)) in
      elim (cases_Bool (is_complete r.matches)) [
        | inl is ↦ rw is (joined player r.matches (complete_matches rounds) (results_in player (n, r))
            (flat_map (results_in player) (filter counts (enumerate_from (n + 1) rounds)))
            (round_met player n r.matches is (positive 0 r (omega arith))) later)
        | inr is ↦ rw is later
      ]

pub opponents-met : (e : EventValue) (player : ℕ) → All (λ (r : Round). All (λ (m : Match). 0 < m.a) r.matches) e.stored
    → opponents_of (encounters (meetings e)) player ≡ map (totals e) (opponents e player)
opponents-met e player = rounds_met (totals e) player 1 e.stored

-- ---- what is known of each encounter

pub record IsLawful (players : ℕ) (e : Encounter) : Type 0 where
  pub known : IsKnown players e.player
  pub recorded : IsRecord e.opponent

pub lawful-matches : (players : ℕ) (come_to : ℕ → Totals) (ms : List Match) → ((q : ℕ) → IsRecord (come_to q)) → AreKnownTo players ms
    → All (IsLawful players) (met_in come_to ms)
lawful-matches players come_to [] records known = All-nil (IsLawful players)
lawful-matches players come_to (m ∷ ms) records known =
    let rest = lawful-matches players come_to ms records (λ k d below. known (suc k) d (omega arith)) in
    let made : List Match → List Encounter = λ xs. encounters (map (meeting_by come_to) xs) in
    rw (met_in-append come_to (m ∷ []) ms) (All-append (IsLawful players) (met_in come_to (m ∷ [])) (met_in come_to ms)
    (cond_both (is_met m) (m ∷ []) [] (λ (xs : List Match). All (IsLawful players) (made xs))
    (λ met. both (known 0 m (omega arith) (not-true (is_bye m) met))) (λ bye. All-nil (IsLawful players))) rest)
  where
    both : IsKnown players m.a × IsKnown players m.b → All (IsLawful players) (encounters (map (meeting_by come_to) (m ∷ [])))
    both (one, other) =
        let lo : IsKnown players (min m.a m.b) = (omega (arith, one, other), omega (arith, one, other)) in
        let hi : IsKnown players (max m.a m.b) = (omega (arith, one, other), omega (arith, one, other)) in
        let first : Encounter = record { player = min m.a m.b; opponent = come_to (max m.a m.b) } in
        let second : Encounter = record { player = max m.a m.b; opponent = come_to (min m.a m.b) } in
        All-cons (IsLawful players) first (second ∷ []) (record { known = lo; recorded = records (max m.a m.b) })
        (All-cons (IsLawful players) second [] (record { known = hi; recorded = records (min m.a m.b) }) (All-nil (IsLawful players)))

pub known-counted : (players : ℕ) (rounds : List Round) → All (λ (r : Round). AreKnownTo players r.matches) rounds
    → AreKnownTo players (complete_matches rounds)
known-counted players [] known = All-nil (IsKnownTo players)
known-counted players (r ∷ rounds) known =
    All-append (IsKnownTo players) (counted_in r) (complete_matches rounds)
    (cond_both (is_complete r.matches) r.matches [] (AreKnownTo players) (λ counted. known 0 r (omega arith))
    (λ unfinished. All-nil (IsKnownTo players)))
    (known-counted players rounds (λ k d below. known (suc k) d (omega arith)))

-- ---- the meetings that the code makes, one match after the other

module _ (come_to : ℕ → Totals) (list after : List Meeting) where
  pub met-more : (front : List Meeting) (ms : List Match) (i : ℕ) (m : Match) → i < length ms → m ≡ get_or ms i m
      → list ≡ front ++ made_of come_to (take i ms) → after ≡ list ++ made_of come_to (m ∷ [])
      → after ≡ front ++ made_of come_to (take (i + 1) ms)
  met-more front ms i m below is so_far now = grind (arith, common_steps)

  pub counted-more : (rounds : List Round) (i : ℕ) (r : Round) → i < length rounds → r ≡ get_or rounds i r
      → list ≡ made_of come_to (complete_matches (take i rounds))
      → after ≡ list ++ made_of come_to (if is_complete r.matches then r.matches else [])
      → after ≡ made_of come_to (complete_matches (take (i + 1) rounds))
  counted-more rounds i r below is so_far now = grind (arith, common_steps)
