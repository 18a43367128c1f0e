-- What a player's rounds come to is what the matches come to, and a round for each complete one that the player missed.
use Rattle.er_event.proofs.Prelude.{RoundResult, dropped_at, rounds_missed_of, results_from, results_in, totals, totals_of, EventValue}
use Rattle.er_event.proofs.Prelude.{Player, is_complete, numbers}
use Rattle.er_event.proofs.Prelude.{Round, Bool, List, [], ap, ap₂, arith, cond, false, length, length-append}
use Rattle.er_event.proofs.Prelude.{map, refl, suc, sym, take, true, zero, ℕ, ◌++◌, ◌+◌, ◌-◌, ◌<◌, ◌==◌, ◌∙◌, ◌∷◌, ◌≡◌, ◌≢◌, ◌≤◌}
use Rattle.er_event.proofs.Prelude.{common_steps, nat_tests, range_with_len, All, HasMissed, inl, inr, get_or, take_more, Games}
use Rattle.er_event.proofs.Prelude.{flat_map, slice_get_read}
use Rattle.std.specs.List.{enumerate_from}
use Rattle.std.proofs.{Common.{count_by, filter, nat_le}, lemmas.Bool.{cases_Bool, cases_eq, cond_both}}
use Rattle.std.proofs.lemmas.List.{Sums.{sum_by-append, sum_by-cons}, take-append-le}
use Rattle.er_event.specs.{Change.after, declared.changes.Change.Change, declared.totals.Totals.Totals}
use Rattle.er_event.specs.declared.changes.Change.TheVariants.{AddPlayer, AddRound, SetDropped, SetScore}
use Rattle.er_event.specs.{Results.missed_rounds, Totals.{plus, missed_totals, points_of, game_points_of, games_of}}
use Rattle.er_event.proofs.{DropLemmas.{find-numbered, first_number}, PartsLemmas.number_at}

abbrev pub Counted : Round → Bool
Counted r = is_complete r.matches

-- how many of the first rounds are complete
abbrev pub complete : ℕ → List Round → ℕ
complete first rounds = length (filter Counted (take first rounds))

-- ---- lists of results one after the other

pub totals_of-append : (xs ys : List RoundResult) → totals_of (xs ++ ys) ≡ plus (totals_of xs) (totals_of ys)
totals_of-append xs ys = grind (
  arith,
  common_steps,
  sum_by-append points_of xs ys,
  sum_by-append game_points_of xs ys,
  sum_by-append games_of xs ys,
  length-append xs ys,
)

-- ---- the matches, and the rounds that were missed

abbrev counts : ℕ × Round → Bool
counts numbered = Counted numbered.1

-- the results of the complete rounds are those of all rounds, each once it is complete
played-complete : (player n : ℕ) (rs : List Round)
    → flat_map (results_in player) (filter counts (enumerate_from n rs)) ≡ results_from player n rs
played-complete player n [] = refl
played-complete player n (r ∷ rs) =
    let later = played-complete player (n + 1) rs in
    elim (cases_Bool (Counted r)) [
      | inl counted ↦ rw counted (ap (λ (xs : List RoundResult). results_in player (n, r) ++ xs) later)
      | inr unfinished ↦ rw unfinished later
    ]

-- the complete rounds up to a number are the complete ones of the first rounds
missed-complete : (n joined : ℕ) (rs : List Round)
    → count_by (λ (numbered : ℕ × Round). nat_le numbered.0 joined) (filter counts (enumerate_from n rs)) ≡ complete (joined + 1 - n) rs
missed-complete n joined [] = grind (arith, common_steps)
missed-complete n joined (r ∷ rs) =
    let later = missed-complete (n + 1) joined rs in
    let before = sum_by-cons (λ (numbered : ℕ × Round). cond (nat_le numbered.0 joined) 1 0) (n, r)
    (filter counts (enumerate_from (n + 1) rs)) in
    elim (cases_Bool (nat_le n joined)) [
      | inl late ↦
          let low : n ≤ joined = grind (arith, nat_tests) in
          let more : joined + 1 - n ≡ suc (joined + 1 - (n + 1)) = omega arith in
          elim (cases_Bool (Counted r)) [
            | inl counted ↦ rw (more, counted) (let one = rw late at before in omega (arith, one, later))
            | inr unfinished ↦ rw (more, unfinished) later
          ]
      | inr early ↦
          let high : joined < n = grind (arith, nat_tests) in
          let none : joined + 1 - n ≡ 0 = omega arith in
          let none_later : joined + 1 - (n + 1) ≡ 0 = omega arith in
          elim (cases_Bool (Counted r)) [
            | inl counted ↦ rw (none, counted)
                (let zero = rw early at before in let rest = rw none_later at later in omega (arith, zero, rest))
            | inr unfinished ↦ rw (none, unfinished) (rw none_later at later)
          ]
    ]

with-missed : (t : Totals) (n : ℕ) → plus t (missed_totals n) ≡ record t { rounds = t.rounds + n }
with-missed t n = grind (arith, common_steps)

pub totals-split : (e : EventValue) (player : ℕ)
    → totals e player
    ≡ plus (totals_of (results_from player 1 e.stored)) (missed_totals (complete (rounds_missed_of e.players player) e.stored))
totals-split e player =
    let joined = rounds_missed_of e.players player in
    let all : joined + 1 - 1 ≡ joined = omega arith in
    let missed : missed_rounds e player ≡ complete joined e.stored =
    missed-complete 1 joined e.stored ∙ ap (λ (n : ℕ). complete n e.stored) all in
    ap₂ (λ (own : List RoundResult) (n : ℕ). record (totals_of own) { rounds = (totals_of own).rounds + n })
    (played-complete player 1 e.stored) missed
    ∙ sym (with-missed (totals_of (results_from player 1 e.stored)) (complete joined e.stored))

-- ---- how many they are

pub complete-few : (first : ℕ) (rs : List Round) → complete first rs ≤ length rs
complete-few zero rs = omega arith
complete-few (suc first) [] = omega arith
complete-few (suc first) (r ∷ rs) = let rest = complete-few first rs in elim (cases_Bool (is_complete r.matches)) [
  | inl counted ↦ rw counted (omega arith)
  | inr unfinished ↦ rw unfinished (omega arith)
]

pub missed-few : (e : EventValue) (player : ℕ) → complete (rounds_missed_of e.players player) e.stored ≤ length e.stored
missed-few e player = complete-few (rounds_missed_of e.players player) e.stored

-- ---- the players after a change

pub joined-dropped : (k player : ℕ) (ps : List Player) → rounds_missed_of (map (dropped_at k) ps) player ≡ rounds_missed_of ps player
joined-dropped k player [] = refl
joined-dropped k player (p ∷ ps) =
    let same : (dropped_at k p).no ≡ p.no = number-kept k p in
    let joined = joined-kept k p in
    let rest = joined-dropped k player ps in
    grind (arith, common_steps)
  where
    number-kept : (k : ℕ) (q : Player) → (dropped_at k q).no ≡ q.no
    number-kept k q = cond_both (q.no == k) (record q { dropped = true }) q (λ (r : Player). r.no ≡ q.no) (λ _. refl) (λ _. refl)

    joined-kept : (k : ℕ) (q : Player) → (dropped_at k q).joined ≡ q.joined
    joined-kept k q = cond_both (q.no == k) (record q { dropped = true }) q (λ (r : Player). r.joined ≡ q.joined) (λ _. refl) (λ _. refl)

-- one who comes now
pub joined-new : (k player : ℕ) (ps : List Player) (new : Player) → numbers ps ≡ range_with_len k (length ps)
    → new.no ≡ k + length ps → player ≡ k + length ps → rounds_missed_of (ps ++ new ∷ []) player ≡ new.joined
joined-new k player [] new numbered own is = grind (arith, common_steps, nat_tests)
joined-new k player (p ∷ ps) new numbered own is =
    let both = first_number p ps k numbered in
    let rest = joined-new (k + 1) player ps new both.1 (omega arith) (omega arith) in
    grind (arith, common_steps, nat_tests)

-- and the others
pub joined-others : (player : ℕ) (ps : List Player) (new : Player) → new.no ≢ player
    → rounds_missed_of (ps ++ new ∷ []) player ≡ rounds_missed_of ps player
joined-others player [] new other = grind (arith, common_steps, nat_tests)
joined-others player (p ∷ ps) new other = let rest = joined-others player ps new other in grind (arith, common_steps, nat_tests)

-- a player is found by the number
pub joined-at : (ps : List Player) (k : ℕ) (p : Player) → numbers ps ≡ range_with_len 1 (length ps) → k < length ps → p ≡ get_or ps k p
    → rounds_missed_of ps p.no ≡ p.joined
joined-at ps k p numbered below is =
    let number = number_at ps k p below is numbered in
    let found = find-numbered 1 ps p.no numbered (omega arith) in
    grind (arith, common_steps, slice_get_read)

-- nobody missed more rounds than are stored
pub joined-stored : (player : ℕ) (ps : List Player) (rs : List Round) → All (HasMissed rs) ps → rounds_missed_of ps player ≤ length rs
joined-stored player [] rs h = omega arith
joined-stored player (p ∷ ps) rs h =
    let here = (h 0 p (omega arith)).stored in
    let rest = joined-stored player ps rs (λ k d below. h (suc k) d (omega arith)) in
    elim (cases_eq p.no player) [
      | inl same ↦ grind (arith, common_steps, nat_tests)
      | inr other ↦ grind (arith, common_steps, nat_tests)
    ]

-- one round more
pub complete-more : (rs : List Round) (i count : ℕ) (r : Round) (test : Bool) → i < length rs → r ≡ get_or rs i r
    → test ≡ is_complete r.matches → count ≡ complete i rs → count + cond test 1 0 ≡ complete (i + 1) rs
complete-more rs i count r true below is counted before = grind (arith, common_steps, take_more)
complete-more rs i count r false below is counted before = grind (arith, common_steps, take_more)

pub joined-after : (e : EventValue) (c : Change) (player : ℕ) → ((name : List ℕ) → c ≡ AddPlayer name → ⊥)
    → rounds_missed_of (after e c).players player ≡ rounds_missed_of e.players player
joined-after e (AddPlayer name) player never = absurd (never name refl)
joined-after e (SetDropped gone) player never = joined-dropped gone player e.players
joined-after e _ player never = refl

pub complete-after : (e : EventValue) (c : Change) (first : ℕ) → first ≤ length e.stored
    → ((round table : ℕ) (score : Games) → c ≡ SetScore round table score → ⊥)
    → complete first (after e c).stored ≡ complete first e.stored
complete-after e (SetScore round table score) first low never = absurd (never round table score refl)
complete-after e (AddRound matches) first low never =
    ap (λ (rs : List Round). length (filter Counted rs)) (take-append-le first e.stored (record { matches = matches } ∷ []) low)
complete-after e _ first low never = refl
