-- A change whose round isn't complete after it leaves the totals of each player of the event.
use Rattle.er_event.proofs.Prelude.{open_match, Fits, match_with_score, scored_slot, EventValue, rounds_missed_of, results_from}
use Rattle.er_event.proofs.Prelude.{complete_results, RoundResult, is_complete, IsSoundButForSeeds, numbers, totals, totals_of}
use Rattle.er_event.proofs.Prelude.{AddRound, SetScore, SetDropped, Match, Round, Games, Contains, List, [], ap, ap₂, arith, false}
use Rattle.er_event.proofs.Prelude.{get_or, length, refl, set, suc, sym, true, zero, ℕ, ◌++◌, ◌+◌, ◌-◌, ◌∙◌, ◌∷◌, ◌≡◌, ◌≤◌}
use Rattle.er_event.proofs.Prelude.{inl, inr, common_steps}
use Rattle.std.proofs.{Common.append-nil, lemmas.Bool.cases_Bool}
use Rattle.er_event.specs.{Altered.may_alter_totals, Change.{after, new_player}, Totals.{missed_totals, plus}}
use Rattle.er_event.specs.{declared.changes.Change.Change, declared.changes.Change.TheVariants.AddPlayer}
use Rattle.er_event.proofs.{DropLemmas.numbered-within, RescoredLemmas.as-scored, TotalLemmas.results_from-push}
use Rattle.er_event.proofs.MissedLemmas.{complete, complete-after, joined-dropped, joined-others, joined-stored, totals-split}

-- ---- a round that is open after a score was open before it

complete-set : (k : ℕ) (ms : List Match) (s : Games) (m : Match) → is_complete ms ≡ true
    → is_complete (set ms k (match_with_score s m)) ≡ true
complete-set k [] s m is = refl
complete-set zero (n ∷ ms) s m is = grind (arith, common_steps)
complete-set (suc k) (n ∷ ms) s m is = grind (arith, common_steps, complete-set k ms s m)

was-open : (t : ℕ) (ms : List Match) (s : Games) → is_complete (scored_slot ms t s) ≡ false → is_complete ms ≡ false
was-open t ms s undone = elim (cases_Bool (is_complete ms)) [
  | inl is ↦ absurd (let never = sym (complete-set (t - 1) ms s (get_or ms (t - 1) (open_match 0 0)) is) ∙ undone in cc)
  | inr is ↦ is
]

-- ---- what was played

one-round : (player n k : ℕ) (rounds : List Round) (new : Round)
    → ((j : ℕ) → complete_results player (j, new) ≡ complete_results player (j, get_or rounds k (record { matches = [] })))
    → results_from player n (set rounds k new) ≡ results_from player n rounds
one-round player n k [] new same = refl
one-round player n zero (r ∷ rounds) new same = ap (λ (rs : List RoundResult). rs ++ results_from player (n + 1) rounds) (same n)
one-round player n (suc k) (r ∷ rounds) new same =
    ap (λ (rs : List RoundResult). complete_results player (n, r) ++ rs) (one-round player (n + 1) k rounds new same)

played-same : (e : EventValue) (c : Change) (player : ℕ) → Fits e c → may_alter_totals e c ≡ false
    → results_from player 1 (after e c).stored ≡ results_from player 1 e.stored
played-same e (AddRound ms) player fits undone =
    let none : complete_results player (1 + length e.stored, record { matches = ms }) ≡ [] = rw undone refl in
    results_from-push player 1 e.stored (record { matches = ms })
    ∙ (ap (λ (rs : List RoundResult). results_from player 1 e.stored ++ rs) none ∙ append-nil (results_from player 1 e.stored))
played-same e (SetScore k t s) player fits undone =
    let ms = (get_or e.stored (k - 1) (record { matches = [] })).matches in
    ap (results_from player 1) (sym (as-scored e k t s fits))
    ∙ one-round player 1 (k - 1) e.stored (record { matches = scored_slot ms t s }) (λ j. rw (undone, was-open t ms s undone) refl)
played-same e _ player fits undone = refl

-- ---- the rounds that were missed

same-count : (j k : ℕ) (rs : List Round) (new : Round)
    → is_complete new.matches ≡ is_complete (get_or rs k (record { matches = [] })).matches → complete j (set rs k new) ≡ complete j rs
same-count zero k rs new same = refl
same-count (suc j) k [] new same = refl
same-count (suc j) zero (r ∷ rs) new same = grind (arith, common_steps)
same-count (suc j) (suc k) (r ∷ rs) new same =
    let rest = same-count j k rs new same in
    elim (cases_Bool (is_complete r.matches)) [
      | inl counted ↦ rw counted (ap suc rest)
      | inr unfinished ↦ rw unfinished rest
    ]

count-same : (e : EventValue) (c : Change) (j : ℕ) → Fits e c → j ≤ length e.stored → may_alter_totals e c ≡ false
    → complete j (after e c).stored ≡ complete j e.stored
count-same e (SetScore k t s) j fits low undone =
    let ms = (get_or e.stored (k - 1) (record { matches = [] })).matches in
    ap (complete j) (sym (as-scored e k t s fits))
    ∙ same-count j (k - 1) e.stored (record { matches = scored_slot ms t s }) (undone ∙ sym (was-open t ms s undone))
count-same e (AddRound ms) j fits low undone = complete-after e (AddRound ms) j low (λ k t s is. (let never = is in cc))
count-same e _ j fits low undone = refl

-- one of the event's players missed as many rounds as before
same-joined : (e : EventValue) (c : Change) (player : ℕ) → IsSoundButForSeeds e
    → Contains (numbers e.players) player → rounds_missed_of (after e c).players player ≡ rounds_missed_of e.players player
same-joined e (AddPlayer name) player sound known =
    let high = (numbered-within e.players player sound.players.numbered known).1 in
    joined-others player e.players (new_player e name) (λ same. omega (arith, same))
same-joined e (SetDropped gone) player sound known = joined-dropped gone player e.players
same-joined e _ player sound known = refl

-- ---- both

pub totals-same : (e : EventValue) (c : Change) (player : ℕ) → IsSoundButForSeeds e → Fits e c → Contains (numbers e.players) player
    → may_alter_totals e c ≡ false → totals (after e c) player ≡ totals e player
totals-same e c player sound fits known undone =
    let low = joined-stored player e.players e.stored sound.missed in
    let missed = count-same e c (rounds_missed_of e.players player) fits low undone in
    totals-split (after e c) player
    ∙ (ap₂ plus (ap totals_of (played-same e c player fits undone))
    (ap missed_totals (ap (λ (n : ℕ). complete n (after e c).stored) (same-joined e c player sound known) ∙ missed))
    ∙ sym (totals-split e player))

-- a change that neither adds a round nor gives a score
pub no-round : (e : EventValue) (c : Change) → ((ms : List Match) → c ≡ AddRound ms → ⊥)
    → ((k t : ℕ) (s : Games) → c ≡ SetScore k t s → ⊥) → may_alter_totals e c ≡ false
no-round e (AddRound ms) added scored = absurd (added ms refl)
no-round e (SetScore k t s) added scored = absurd (scored k t s refl)
no-round e _ added scored = refl
