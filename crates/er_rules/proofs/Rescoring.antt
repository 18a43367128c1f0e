-- A score that was entered once is there at every later point.
use Rattle.std.proofs.Common.{arith, ◌≡◌, ◌==◌, ℕ, ◌+◌, ◌-◌, false, not, List, [], ◌∷◌, ◌++◌, map, find, get_or, Option, Some, None}
use Rattle.std.proofs.{Common.{Result, Ok, Err, refl, sym, ap, subst, ◌∙◌}, lemmas.Grind.common_steps, Math.ListN.set}
use Rattle.std.proofs.{lemmas.Option.{none-some, same_Some}, lemmas.Bool.{not-false, cond_both}}
use Rattle.std.specs.Option.{option_map}
use Rattle.std.specs.List.{enumerate_from}
use Rattle.er_event.specs.{declared.scores.Games.Games, declared.matches.Match.Match, declared.rounds.Round.Round}
use Rattle.er_event.specs.{declared.commands.Command.Command, declared.commands.Command.TheVariants.{Pair, Correct, Cut}}
use Rattle.er_event.specs.{declared.refusals.Refusal.Refusal, declared.refusals.Refusal.TheVariants.{IsBye, BadScore}, Event.EventValue}
use Rattle.er_event.specs.{Round.{is_bye, is_at, match_in, match_at}, Score.is_swiss_score}
use Rattle.er_event.specs.Change.{match_with_score, score_table}
use Rattle.er_rules.specs.{Commands.{is_enrolling, already_reported}, Step.{Steps, Makes, checks}, Fold.Folds, Retry.IsRetryRefusal}
use Rattle.er_rules.proofs.{Found.{find_mapped, find_passes, Stored, found_stored, stored_more, stored_now, stored_stays}, Keeping.is_taken}
use Rattle.er_rules.proofs.{Keeping.{same_Ok, passes}, Sound.asked, Retrying.{kept_on, begun_stays, swiss_began}}
use Rattle.er_event.specs.declared.commands.Command.TheVariants.{Pair, Result as ReportResult, Correct, Cut}

-- ---- the tables of a round

abbrev pub HasScore : Match → Type 0
HasScore m = (s : Games) × (m.score ≡ Some s)

-- the table is found, with a match of two players that has a score
abbrev pub Hit : ℕ → List (ℕ × Match) → Type 0
Hit t xs = (p : ℕ × Match) × (find (is_at t) xs ≡ Some p) × (is_bye p.1 ≡ false) × HasScore p.1

-- a table with its number, when the match has been given the score
abbrev scored_table : ℕ → Games → ℕ × Match → ℕ × Match
scored_table u s p = (p.0, score_table u s p)

numbered_scored : (u n : ℕ) (s : Games) (ms : List Match)
    → enumerate_from n (map (score_table u s) (enumerate_from n ms)) ≡ map (scored_table u s) (enumerate_from n ms)
numbered_scored u n s [] = refl
numbered_scored u n s (m ∷ ms) = ap (λ (l : List (ℕ × Match)). scored_table u s (n, m) ∷ l) (numbered_scored u (n + 1) s ms)

module _ (t u : ℕ) (s : Games) where
  table_same : (p : ℕ × Match) → is_at t (scored_table u s p) ≡ is_at t p
  table_same p = cond_both (is_at u p) (match_with_score s p.1) p.1 (λ (x : Match). is_at t (p.0, x) ≡ is_at t p) (λ _. refl) (λ _. refl)

  bye_same : (p : ℕ × Match) → is_bye (score_table u s p) ≡ is_bye p.1
  bye_same p = cond_both (is_at u p) (match_with_score s p.1) p.1 (λ (x : Match). is_bye x ≡ is_bye p.1) (λ _. refl) (λ _. refl)

  -- a table at which a match of two players was found is found after a score
  hit_after : (ms : List Match) (p : ℕ × Match) → find (is_at t) (enumerate_from 1 ms) ≡ Some p → is_bye p.1 ≡ false
      → HasScore (score_table u s p) → Hit t (enumerate_from 1 (map (score_table u s) (enumerate_from 1 ms)))
  hit_after ms p found two has =
      let now = find_mapped (is_at t) (scored_table u s) table_same (enumerate_from 1 ms) p found in
      (scored_table u s p, rw (numbered_scored u 1 s ms) now, bye_same p ∙ two, has)

  hit_stays : (ms : List Match) → Hit t (enumerate_from 1 ms) → Hit t (enumerate_from 1 (map (score_table u s) (enumerate_from 1 ms)))
  hit_stays ms (p, found, two, has) =
      hit_after ms p found two (cond_both (is_at u p) (match_with_score s p.1) p.1 HasScore (λ _. (s, refl)) (λ _. has))

found_in : (ms : List Match) (t : ℕ) (m : Match) → match_in ms t ≡ Some m
    → (p : ℕ × Match) × (find (is_at t) (enumerate_from 1 ms) ≡ Some p) × (p.1 ≡ m)
found_in ms t m at = by_option (find (is_at t) (enumerate_from 1 ms)) refl at
  where
    by_option : (o : Option (ℕ × Match)) → find (is_at t) (enumerate_from 1 ms) ≡ o → option_map (λ (q : ℕ × Match). q.1) o ≡ Some m
        → (p : ℕ × Match) × (find (is_at t) (enumerate_from 1 ms) ≡ Some p) × (p.1 ≡ m)
    by_option None is h = absurd (none-some m h)
    by_option (Some p) is h = (p, is, same_Some p.1 m h)

hit_now : (t : ℕ) (s : Games) (ms : List Match) (m : Match) → match_in ms t ≡ Some m → is_bye m ≡ false
    → Hit t (enumerate_from 1 (map (score_table t s) (enumerate_from 1 ms)))
hit_now t s ms m at two =
    let p = found_in ms t m at in
    let is = find_passes (is_at t) (enumerate_from 1 ms) p.0 p.1 in
    hit_after t t s ms p.0 p.1 (ap is_bye p.2 ∙ two) (s, rw is refl)

-- ---- the rounds

abbrev pub HitIn : ℕ → Round → Type 0
HitIn t r = Hit t (enumerate_from 1 r.matches)

-- the round is stored, and its table has a score
abbrev pub IsEntered : ℕ → ℕ → List Round → Type 0
IsEntered round table rounds = ((round == 0) ≡ false) × Stored (HitIn table) rounds (round - 1)

abbrev no_round : Round
no_round = record { matches = [] }

-- a round whose matches are given the score at the table
abbrev rescored : ℕ → Games → Round → Round
rescored t s r = record { matches = map (score_table t s) (enumerate_from 1 r.matches) }

abbrev pub scored_round : List Round → ℕ → ℕ → Games → Round
scored_round rounds k t s = rescored t s (get_or rounds (k - 1) no_round)

abbrev rounds_in : EventValue → List Round
rounds_in e = e.stored

abbrev HasEntered : ℕ → ℕ → EventValue → Type 0
HasEntered round table e = (is_enrolling e.phase ≡ false) × IsEntered round table e.stored

entered_kept : (round table : ℕ) (e next : EventValue) (c : Command) → Steps e c (Ok next) → HasEntered round table e
    → HasEntered round table next
entered_kept round table e next c steps has = (begun_stays e next c steps has.0, made c (is_taken e next c steps).1)
  where
    as_now : {rounds : List Round} → next.stored ≡ rounds → IsEntered round table rounds → IsEntered round table next.stored
    as_now same it = subst (IsEntered round table) (sym same) it

    scored_now : (k t : ℕ) (s : Games) → IsEntered round table (set e.stored (k - 1) (scored_round e.stored k t s))
    scored_now k t s =
        let stays = λ (r : Round). hit_stays table t s r.matches in
        (has.1.0, stored_stays (HitIn table) (rescored t s) no_round stays e.stored (k - 1) (round - 1) has.1.1)

    made : (c : Command) → Makes e c (Ok next) → IsEntered round table next.stored
    made (Pair k seed) is = as_now (ap rounds_in is.2.2) (has.1.0, stored_more (HitIn table) e.stored _ (round - 1) has.1.1)
    made (ReportResult k t s) is = as_now (ap rounds_in (same_Ok next _ is)) (scored_now k t s)
    made (Correct k t s) is = as_now (ap rounds_in (same_Ok next _ is)) (scored_now k t s)
    made Cut is = as_now (ap rounds_in (same_Ok next _ is.2)) has.1
    made c is = as_now (ap rounds_in (same_Ok next _ is)) has.1

-- ---- a score is entered

-- a match of two players that is given a score has it
pub entered_now : (e : EventValue) (round table : ℕ) (s : Games) (m : Match) → match_at e round table ≡ Some m → is_bye m ≡ false
    → IsEntered round table (set e.stored (round - 1) (scored_round e.stored round table s))
entered_now e round table s m at two =
    let it = found_stored (round == 0) (λ (r : Round). match_in r.matches table) e.stored (round - 1) m at in
    let hit = hit_now table s it.1.0.matches m it.1.2 two in
    (it.0, stored_now (HitIn table) (rescored table s) no_round e.stored (round - 1) (it.1.0, it.1.1, hit))

module _ (e next later : EventValue) (more : List Command) (folds : Folds next more later) (result : Result EventValue Refusal)
    (round table : ℕ) (score : Games) where
  abbrev Refused : Type 0
  Refused = (why : Refusal) × (result ≡ Err why) × IsRetryRefusal (ReportResult round table score) why

  refused_later : IsEntered round table later.stored → Steps later (ReportResult round table score) result → Refused
  refused_later it again = grind (arith, common_steps)

  pub report_again : Steps e (ReportResult round table score) (Ok next) → Steps later (ReportResult round table score) result → Refused
  report_again taken again =
      let it = is_taken e next (ReportResult round table score) taken in
      let pass = passes (checks e (ReportResult round table score)) it.0 in
      let there = asked (match_at e round table)
      (λ m. (is_bye m, IsBye) ∷ already_reported m.score ++ (not (is_swiss_score score), BadScore) ∷ []) pass.1 in
      let is = same_Ok next _ it.1 in
      let entered = subst (IsEntered round table) (sym (ap rounds_in is)) (entered_now e round table score there.0 there.1 there.2.0) in
      let begun = ap (λ (x : EventValue). is_enrolling x.phase) is ∙ swiss_began e.phase (not-false _ pass.0) in
      let now = kept_on (HasEntered round table) (entered_kept round table) next later more folds (begun, entered) in
      refused_later now.1 again
