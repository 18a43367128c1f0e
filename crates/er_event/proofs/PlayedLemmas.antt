-- What the rounds of all players come to, by the seats of each round.
use Rattle.er_event.proofs.Prelude.{rounds_missed_of, results_from, complete_results, results_of_match, totals_of, totals_of_games}
use Rattle.er_event.proofs.Prelude.{IsAbsent}
use Rattle.er_event.proofs.Prelude.{Match, Round}
use Rattle.er_event.proofs.Prelude.{Games, AreOver, IsSeatedOnce, All}
use Rattle.er_event.proofs.Prelude.{List, None, Option, Some, [], arith, flat_map, get_or, length, refl, seats, set, suc, sym, take, zero}
use Rattle.er_event.proofs.Prelude.{ℕ}
use Rattle.er_event.proofs.Prelude.{◌+◌, ◌<◌, ◌==◌, ◌∙◌, ◌∷◌, ◌≡◌, ◌≢◌, ◌≤◌, ◌⊎◌, ap, subst, inl, inr, true, false, get_or_default}
use Rattle.er_event.proofs.Prelude.{nat_tests, none-some, same_Some}
use Rattle.er_event.proofs.Prelude.{All-cons, IfSome, IsSoundButForSeeds, EventValue, open_match, match_with_score, scored_slot, ◌++◌}
use Rattle.er_event.proofs.Prelude.{length-append}
use Rattle.er_event.proofs.Prelude.{Player, ap₂, totals, ◌-◌, length-set}
use Rattle.std.proofs.{Common.min, lemmas.Bool.{cases_Bool, cases_eq, cases_lt, cond_both}, lemmas.List.{get_or-set_same, get_or-set_other}}
use Rattle.er_event.specs.{Totals.{plus, missed_totals, Gathered, gathered_of, AreTotals}, declared.totals.Totals.Totals}
use Rattle.er_event.specs.{Change.{after, new_player}, declared.changes.Change.Change}
use Rattle.er_event.specs.declared.changes.Change.TheVariants.{AddPlayer, AddRound, SetDropped, SetScore}
use Rattle.er_event.specs.inside.{Played.{with_new, ArePlayed, IsRescored, Rescores}, Seats.{sits_at, seat_of}}
use Rattle.er_event.specs.inside.{Seen.AreSeen}
use Rattle.er_event.proofs.{MissedLemmas.{Counted, complete, joined-at, joined-dropped, joined-others, totals-split, totals_of-append}}
use Rattle.er_event.proofs.{PartsLemmas.number_at, SeatLemmas.{All-seats, seats-All, seats-set, sit-apart}}
use Rattle.er_event.proofs.{SeatTables.no-seat, TotalLemmas.{absent_results, one_match, results_from-more, results_from-push}}

-- ---- the match that a number sits at

record Sits (ms : List Match) (number : ℕ) (m : Match) : Type 0 where
  place : ℕ
  within : place < length ms
  here : get_or ms place m ≡ m
  sits : (number ≡ m.a) ⊎ (number ≡ m.b)

either : (number : ℕ) (m : Match) → sits_at number m ≡ true → (number ≡ m.a) ⊎ (number ≡ m.b)
either number m sits = elim (cases_eq number m.a) [
  | inl first ↦ inl first
  | inr other ↦ inr (grind (arith, nat_tests))
]

found : (number : ℕ) (ms : List Match) (m : Match) → seat_of ms number ≡ Some m → Sits ms number m
found number [] m is = absurd (none-some m is)
found number (n ∷ ms) m is = elim (cases_Bool (sits_at number n)) [
  | inl sits ↦
      let same : n ≡ m = same_Some n m (rw sits at is) in record {
        place = 0;
        within = omega arith;
        here = same;
        sits = subst (λ (x : Match). (number ≡ x.a) ⊎ (number ≡ x.b)) same (either number n sits);
      }
  | inr free ↦
      let rest = found number ms m (rw free at is) in
      let within = rest.within in
      record { place = suc rest.place; within = omega arith; here = rest.here; sits = rest.sits }
]

neither : (number : ℕ) (m : Match) → sits_at number m ≡ false → (m.a ≢ number) × (m.b ≢ number)
neither number m free = grind (arith, nat_tests)

lost : (number : ℕ) (ms : List Match) → seat_of ms number ≡ None → IsAbsent number ms
lost number [] none = λ k d below. absurd (omega arith)
lost number (n ∷ ms) none =
    let both = no-seat number n ms none in
    All-cons (λ (m : Match). (m.a ≢ number) × (m.b ≢ number)) n ms (neither number n both.0) (lost number ms both.1)

pub empty : (r : Option Match) → ((m : Match) → r ≡ Some m → ⊥) → r ≡ None
empty None none = refl
empty (Some m) none = absurd (none m refl)

-- ---- a match with a new score

same-seats : (old : List Match) (m : Match) (after : List Match) → Rescores old m after → flat_map seats old ≡ flat_map seats after
same-seats old m after h = seats-set m h.place old h.first h.second ∙ ap (flat_map seats) (sym h.is)

seen-at : (ms : List Match) → IsSeatedOnce ms → (k : ℕ) (m : Match) (player : ℕ) → k < length ms → get_or ms k m ≡ m
    → (player ≡ m.a) ⊎ (player ≡ m.b) → (g : Option Games) → AreSeen m player g
    → (round : ℕ) → totals_of (flat_map (results_of_match player round) ms) ≡ totals_of_games g
seen-at ms once k m player below here sits None seen round = ap totals_of (one_match ms once k m player below (sym here) sits round
    ∙ seen round)
seen-at ms once k m player below here sits (Some g) seen round =
    ap totals_of (one_match ms once k m player below (sym here) sits round) ∙ seen.2 round

module _ (old : List Match) (once : IsSeatedOnce old) (player : ℕ) where
  pub seat-apart : (m : Match) → seat_of old player ≡ Some m → m.a ≢ m.b
  seat-apart m is =
      let it = found player old m is in
      subst (λ (n : Match). n.a ≢ n.b) it.here ((sit-apart old once).0 it.place m it.within)

  once-after : (m : Match) (after : List Match) → Rescores old m after → IsSeatedOnce after
  once-after m after h i j d before within =
      rw (same-seats old m after h) at (once i j d before (rw (sym (same-seats old m after h)) at within))

  absent-after : (m : Match) (after : List Match) → IsAbsent player old → Rescores old m after → IsAbsent player after
  absent-after m after away h =
      seats-All (λ s. s ≢ player) after (subst (All (λ s. s ≢ player)) (same-seats old m after h) (All-seats (λ s. s ≢ player) old away))

  pub unseen : seat_of old player ≡ None → (new : Option Match) (after : List Match) → IsRescored old new after
      → (round : ℕ) → totals_of (flat_map (results_of_match player round) after) ≡ totals_of_games None
  unseen none None after is round = ap totals_of (absent_results player round after (rw is (lost player old none)))
  unseen none (Some m) after is round = ap totals_of (absent_results player round after
      (absent-after m after (lost player old none) is))

  module _ (m : Match) (is : seat_of old player ≡ Some m) (g : Option Games) where
    -- of the match as it was
    pub seen-old : AreSeen m player g → (new : Option Match) → ((s : Match) → new ≡ Some s → s.a ≢ m.a) → (after : List Match)
        → IsRescored old new after → (round : ℕ) → totals_of (flat_map (results_of_match player round) after) ≡ totals_of_games g
    seen-old seen None other after same round =
        let it = found player old m is in
        rw same (seen-at old once it.place m player it.within it.here it.sits g seen round)
    seen-old seen (Some s) other after h round =
        let it = found player old m is in
        let apart : it.place ≢ h.place = λ e. other s refl
        (sym h.first ∙ ap (λ (n : Match). n.a) (sym (get_or_default old h.place m s h.within)
        ∙ (ap (λ (k : ℕ). get_or old k m) (sym e) ∙ it.here))) in
        let there : get_or after it.place m ≡ m =
        ap (λ (ns : List Match). get_or ns it.place m) h.is ∙ (get_or-set_other old h.place it.place s m apart ∙ it.here) in
        let long : length after ≡ length old = ap length h.is ∙ length-set old h.place s in
        let within = it.within in
        seen-at after (once-after s after h) it.place m player (omega arith) there it.sits g seen round

    -- of the match with its new score
    pub seen-new : (s : Match) → s.a ≡ m.a → AreSeen s player g → (after : List Match) → Rescores old s after
        → (round : ℕ) → totals_of (flat_map (results_of_match player round) after) ≡ totals_of_games g
    seen-new s first seen after h round =
        let it = found player old m is in
        let listed : get_or old h.place m ≡ get_or old h.place s = get_or_default old h.place m s h.within in
        let same : it.place ≡ h.place = one-place it.place h.place m it.within h.within
        (ap (λ (n : Match). n.a) it.here ∙ (sym first ∙ (sym h.first ∙ ap (λ (n : Match). n.a) (sym listed)))) in
        let here : get_or old h.place s ≡ m = sym listed ∙ (ap (λ (k : ℕ). get_or old k m) (sym same) ∙ it.here) in
        let second : m.b ≡ s.b = ap (λ (n : Match). n.b) (sym here) ∙ h.second in
        let there : get_or after h.place s ≡ s =
        ap (λ (ns : List Match). get_or ns h.place s) h.is ∙ get_or-set_same old h.place s s h.within in
        let long : length after ≡ length old = ap length h.is ∙ length-set old h.place s in
        let within = h.within in
        let sits : (player ≡ s.a) ⊎ (player ≡ s.b) = elim it.sits [
          | inl a ↦ inl (a ∙ sym first)
          | inr b ↦ inr (b ∙ second)
        ] in
        seen-at after (once-after s after h) h.place s player (omega arith) there sits g seen round
      where
        one-place : (i j : ℕ) (d : Match) → i < length old → j < length old → (get_or old i d).a ≡ (get_or old j d).a → i ≡ j
        one-place i j d below within equal =
            let apart = (sit-apart old once).1 in
            elim (cases_eq i j) [
              | inl same ↦ same
              | inr other ↦ elim (cases_lt i j) [
                | inl before ↦ absurd ((apart i j d before within).0 equal)
                | inr later ↦ absurd ((apart j i d (omega arith) below).0 (sym equal))
              ]
            ]

module _ (old : List Match) (once : IsSeatedOnce old) (player : ℕ) (m : Match) (is : seat_of old player ≡ Some m) (g : Option Games) where
  pub seen-with : (new : Option Match) → AreSeen (with_new m new) player g → (after : List Match) → IsRescored old new after
      → (round : ℕ) → totals_of (flat_map (results_of_match player round) after) ≡ totals_of_games g
  seen-with None seen after same round = seen-old old once player m is g seen None (λ s e. absurd (none-some s e)) after same round
  seen-with (Some s) seen after h round = elim (cases_Bool (s.a == m.a)) [
    | inl same ↦
        let first : s.a ≡ m.a = grind (arith, nat_tests) in
        seen-new old once player m is g s first (rw same at seen) after h round
    | inr differ ↦
        let other : s.a ≢ m.a = grind (arith, nat_tests) in
        seen-old old once player m is g (rw differ at seen) (Some s) (λ t e f. other (ap (λ (n : Match). n.a) (same_Some s t e) ∙ f))
        after h round
  ]

pub new-apart : (m : Match) (new : Option Match) → m.a ≢ m.b → IfSome new (λ s. s.a ≢ s.b) → (with_new m new).a ≢ (with_new m new).b
new-apart m None apart h = apart
new-apart m (Some s) apart h = cond_both (s.a == m.a) s m (λ (n : Match). n.a ≢ n.b) (λ _. h) (λ _. apart)

-- ---- one round more

pub over-none : AreOver 0 (totals_of [])
over-none = record { points = omega arith; rounds_are = omega arith; game_points = omega arith; games = omega arith }

pub results-more : (player : ℕ) (rounds : List Round) (i : ℕ) (r : Round) → i < length rounds → r ≡ get_or rounds i r
    → plus (totals_of (results_from player 1 (take i rounds)))
    (totals_of (complete_results player (1 + length (take i rounds), r)))
    ≡ totals_of (results_from player 1 (take (i + 1) rounds))
results-more player rounds i r below is = sym (ap totals_of (results_from-more player rounds i r below is) ∙ totals_of-append _ _)

pub over-weaker : (i j : ℕ) (t : Totals) → i ≤ j → AreOver i t → AreOver j t
over-weaker i j t low over = record {
  points = let h = over.points in omega arith;
  rounds_are = let h = over.rounds_are in omega arith;
  game_points = let h = over.game_points in omega arith;
  games = let h = over.games in omega arith;
}

-- ---- which of the first rounds are complete, if none but the newest can be open

pub complete-min : (j n m : ℕ) (rs : List Round) → All (λ (r : Round). Counted r ≡ true) (take m rs) → j ≤ n → n ≤ m + 1 → n ≤ length rs
    → complete j rs ≡ min (complete n rs) j
complete-min zero n m rs done low few within = omega arith
complete-min (suc j) zero m rs done low few within = absurd (omega arith)
complete-min (suc j) (suc n) m [] done low few within = absurd (omega arith)
complete-min (suc j) (suc n) zero (r ∷ rs) done low few within =
    let first : j ≡ 0 = omega arith in
    let only : n ≡ 0 = omega arith in
    elim (cases_Bool (Counted r)) [
      | inl counted ↦ rw (first, only, counted) (omega arith)
      | inr unfinished ↦ rw (first, only, unfinished) (omega arith)
    ]
complete-min (suc j) (suc n) (suc m) (r ∷ rs) done low few within =
    let counted : Counted r ≡ true = done 0 r (omega arith) in
    let rest = complete-min j n m rs (λ k d below. done (suc k) d (omega arith)) (omega arith) (omega arith) (omega arith) in
    rw counted (omega arith)

-- ---- all players

pub gathered-is : (e : EventValue) → IsSoundButForSeeds e → (n : ℕ) → n ≤ length e.stored → (g : Gathered)
    → ArePlayed e.stored g.played
    → length g.played ≡ 513 → g.complete ≡ complete n e.stored
    → (p : Player) → 1 ≤ p.no → p.no ≤ 512 → p.joined ≤ n → rounds_missed_of e.players p.no ≡ p.joined → gathered_of g p ≡ totals e p.no
gathered-is e sound n within g played long count p low high few joined =
    let first = complete-min p.joined n (length e.stored - 1) e.stored sound.rounds.earlier_done few (omega arith) within in
    let missed : min g.complete p.joined ≡ complete (rounds_missed_of e.players p.no) e.stored = rw (count, joined) (sym first) in
    ap₂ plus (played p.no low (omega arith)) (ap missed_totals missed) ∙ sym (totals-split e p.no)

pub gathered-now : (e : EventValue) → IsSoundButForSeeds e → (g : Gathered) → ArePlayed e.stored g.played
    → length g.played ≡ 513 → g.complete ≡ complete (length e.stored) e.stored → AreTotals e e.players g
gathered-now e sound g played long count = λ k d below.
    let p = get_or e.players k d in
    let is : p ≡ get_or e.players k p = get_or_default e.players k d p below in
    let number = number_at e.players k p below is sound.players.numbered in
    let few = sound.players.few in
    let missed = (sound.missed k d below).stored in
    gathered-is e sound (length e.stored) (omega arith) g played long count p (omega arith) (omega arith) missed
    (joined-at e.players k p sound.players.numbered below is)

pub totals-at : (e : EventValue) (ps : List Player) (g : Gathered) → AreTotals e ps g → (k : ℕ) (p : Player) → k < length ps
    → p ≡ get_or ps k p
    → gathered_of g p ≡ totals e p.no
totals-at e ps g all k p below is = subst (λ (q : Player). gathered_of g q ≡ totals e q.no) (sym is) (all k p below)

-- ---- a change

pub slot-rescores : (ms : List Match) (t : ℕ) (s : Games) (n : Match) → 1 ≤ t → t ≤ length ms → n ≡ get_or (scored_slot ms t s) (t - 1) n
    → Rescores ms n (scored_slot ms t s)
slot-rescores ms t s n low high is =
    let m = get_or ms (t - 1) (open_match 0 0) in
    let new : n ≡ match_with_score s m = is ∙ get_or-set_same ms (t - 1) (match_with_score s m) n (omega arith) in
    let here : get_or ms (t - 1) n ≡ m = get_or_default ms (t - 1) n (open_match 0 0) (omega arith) in
    record {
      place = t - 1;
      within = omega arith;
      first = ap (λ (x : Match). x.a) here ∙ ap (λ (x : Match). x.a) (sym new);
      second = ap (λ (x : Match). x.b) here ∙ ap (λ (x : Match). x.b) (sym new);
      is = ap (set ms (t - 1)) (sym new);
    }

pub slot-apart : (ms : List Match) (t : ℕ) (s : Games) (n : Match) → 1 ≤ t → t ≤ length ms → n ≡ get_or (scored_slot ms t s) (t - 1) n
    → IsSeatedOnce ms → n.a ≢ n.b
slot-apart ms t s n low high is once same =
    let it = slot-rescores ms t s n low high is in
    (sit-apart ms once).0 it.place n it.within (it.first ∙ (same ∙ sym it.second))

pub results-push : (player : ℕ) (rounds : List Round) (r : Round)
    → plus (totals_of (results_from player 1 rounds)) (totals_of (complete_results player (1 + length rounds, r)))
    ≡ totals_of (results_from player 1 (rounds ++ r ∷ []))
results-push player rounds r = sym (ap totals_of (results_from-push player 1 rounds r) ∙ totals_of-append _ _)

pub stored-grows : (e : EventValue) (c : Change) → length e.stored ≤ length (after e c).stored
stored-grows e (AddRound matches) = omega (arith, length-append e.stored (record { matches = matches } ∷ []))
stored-grows e (SetScore round table score) =
    let same : length (after e (SetScore round table score)).stored ≡ length e.stored = length-set e.stored (round - 1) _ in omega arith
stored-grows e _ = omega arith

joined-stays : (e : EventValue) (c : Change) → IsSoundButForSeeds e → (k : ℕ) (p : Player) → k < length e.players → p ≡ get_or e.players k p
    → rounds_missed_of (after e c).players p.no ≡ p.joined
joined-stays e (AddPlayer name) sound k p below is =
    let number = number_at e.players k p below is sound.players.numbered in
    joined-others p.no e.players (new_player e name) (λ same. omega arith) ∙ joined-at e.players k p sound.players.numbered below is
joined-stays e (SetDropped gone) sound k p below is =
    joined-dropped gone p.no e.players ∙ joined-at e.players k p sound.players.numbered below is
joined-stays e _ sound k p below is = joined-at e.players k p sound.players.numbered below is

pub gathered-after : (e : EventValue) (c : Change) → IsSoundButForSeeds e → IsSoundButForSeeds (after e c) → (g : Gathered)
    → ArePlayed (after e c).stored g.played
    → length g.played ≡ 513 → g.complete ≡ complete (length e.stored) (after e c).stored → AreTotals (after e c) e.players g
gathered-after e c sound next g played long count = λ k d below.
    let p = get_or e.players k d in
    let is : p ≡ get_or e.players k p = get_or_default e.players k d p below in
    let number = number_at e.players k p below is sound.players.numbered in
    let few = sound.players.few in
    let missed = (sound.missed k d below).stored in
    gathered-is (after e c) next (length e.stored) (stored-grows e c) g played long count p (omega arith) (omega arith) missed
    (joined-stays e c sound k p below is)
