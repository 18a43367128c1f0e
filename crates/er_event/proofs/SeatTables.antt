-- A table of a round says where each number sits, and who met whom.
use Rattle.er_event.proofs.Prelude.{is_same_pairing, Match, IsSeatedOnce, AllPairs, Bool, List, None, Option, Some, [], arith, cond, false}
use Rattle.er_event.proofs.Prelude.{get_or, length, refl, set, sym, suc, take, true, ℕ, ◌==◌, ◌||◌, ◌&&◌, ◌+◌, ◌<◌, ◌∙◌}
use Rattle.er_event.proofs.Prelude.{◌∷◌, ◌++◌, ◌≡◌, ◌≢◌, ap, inl, inr, length-set, list_any, list_any_none, nat_tests, common_steps}
use Rattle.er_event.proofs.Prelude.{none-some, take_more, find, not, is_some, true≢false}
use Rattle.std.proofs.lemmas.{Bool.{cases_Bool, cases_eq}, List.Folds.find-append}
use Rattle.std.specs.Option.{option_or}
use Rattle.er_event.specs.Match.{shares_seat}
use Rattle.er_event.specs.inside.Seats.{sits_at, seat_of, may_sit, AreSeats}
use Rattle.er_event.proofs.SeatLemmas.{AreApart, sit-apart}

-- ---- one match more

module _ (ms : List Match) (i : ℕ) (m : Match) (below : i < length ms) (here : get_or ms i m ≡ m) where
  with_more : (number : ℕ) → seat_of (take (i + 1) ms) number ≡ option_or (seat_of (take i ms) number)
      (cond (sits_at number m) (Some m) None)
  with_more number =
      ap (find (sits_at number)) (take_more ms i m below ∙ ap (λ (n : Match). take i ms ++ n ∷ []) here)
      ∙ find-append (sits_at number) (take i ms) (m ∷ [])

  seated : (number : ℕ) → sits_at number m ≡ true → seat_of (take i ms) number ≡ None → seat_of (take (i + 1) ms) number ≡ Some m
  seated number sits free = with_more number ∙ rw (free, sits) refl

  or_none : (r : Option Match) → option_or r None ≡ r
  or_none None = refl
  or_none (Some x) = refl

  elsewhere : (number : ℕ) → sits_at number m ≡ false → seat_of (take (i + 1) ms) number ≡ seat_of (take i ms) number
  elsewhere number sits = with_more number ∙ rw sits (or_none (seat_of (take i ms) number))

  pub seats-with : (table : List (Option Match)) → AreSeats (take i ms) table → seat_of (take i ms) m.a ≡ None → seat_of (take i ms) m.b ≡
      None
      → AreSeats (take (i + 1) ms) (set (set table m.a (Some m)) m.b (Some m))
  seats-with table before a b number within =
      let inside : number < length table = omega (arith, length-set table m.a (Some m), length-set (set table m.a (Some m)) m.b (Some m)) in
      elim (cases_eq number m.b) [
        | inl second ↦
            let is = seated m.b (grind (arith, nat_tests)) b in
            grind (arith, common_steps, is, second)
        | inr not_second ↦ elim (cases_eq number m.a) [
          | inl first ↦
              let is = seated m.a (grind (arith, nat_tests)) a in
              grind (arith, common_steps, is, first)
          | inr not_first ↦
              let is = elsewhere number (grind (arith, nat_tests)) in
              let was = before number inside in
              grind (arith, common_steps, is, was)
        ]
      ]

-- ---- who sits nowhere shares no seat

pub no-seat : (number : ℕ) (m : Match) (ms : List Match) → seat_of (m ∷ ms) number ≡ None → (sits_at number m ≡ false)
    × (seat_of ms number ≡ None)
no-seat number m ms none = elim (cases_Bool (sits_at number m)) [
  | inl sits ↦ absurd (none-some m (sym none ∙ rw sits refl))
  | inr free ↦ (free, rw free at none)
]

pub free-shares : (m : Match) (ms : List Match) → seat_of ms m.a ≡ None → seat_of ms m.b ≡ None → list_any (λ n. shares_seat n m) ms ≡ false
free-shares m [] a b = refl
free-shares m (n ∷ ms) a b =
    let first = no-seat m.a n ms a in
    let second = no-seat m.b n ms b in
    let here : shares_seat n m ≡ false = grind (arith, common_steps, first.0, second.0) in
    rw here (free-shares m ms first.1 second.1)

pub shares-free : (m : Match) (ms : List Match) → list_any (λ n. shares_seat n m) ms ≡ false → (seat_of ms m.a ≡ None)
    × (seat_of ms m.b ≡ None)
shares-free m [] free = (refl, refl)
shares-free m (n ∷ ms) free =
    let both : (shares_seat n m ≡ false) × (list_any (λ n. shares_seat n m) ms ≡ false) = grind (arith, common_steps) in
    let rest = shares-free m ms both.1 in
    let a : sits_at m.a n ≡ false = grind (arith, common_steps, both.0) in
    let b : sits_at m.b n ≡ false = grind (arith, common_steps, both.0) in
    (rw a rest.0, rw b rest.1)

nobody : (r : Option Match) → not (is_some r) ≡ true → r ≡ None
nobody None h = refl
nobody (Some m) h = absurd (true≢false (sym h))

three : (a b c : Bool) → (a && b && c) ≡ true → (a ≡ true) × (b ≡ true) × (c ≡ true)
three a b c h = grind arith

module _ (ms : List Match) (m : Match) where
  pub sits-free : may_sit ms m ≡ true → (m.a ≢ m.b) × (seat_of ms m.a ≡ None) × (seat_of ms m.b ≡ None)
  sits-free may =
      let all = three (not (m.a == m.b)) (not (is_some (seat_of ms m.a))) (not (is_some (seat_of ms m.b))) may in
      let apart : m.a ≢ m.b = grind (arith, nat_tests, all.0) in (apart, nobody (seat_of ms m.a) all.1, nobody (seat_of ms m.b) all.2)

  pub free-sits : m.a ≢ m.b → list_any (λ n. shares_seat n m) ms ≡ false → may_sit ms m ≡ true
  free-sits apart free =
      let none = shares-free m ms free in
      let differ : (m.a == m.b) ≡ false = grind (arith, nat_tests) in
      rw (differ, none.0, none.1) refl

-- ---- the match that a player sits at is the only one

abbrev pub pairs_with : Match → Option Match → Bool
pairs_with n None = false
pairs_with n (Some m) = is_same_pairing n m

not-met : (n m : Match) → sits_at n.a m ≡ false → is_same_pairing n m ≡ false
not-met n m free = grind (arith, nat_tests)

gone : (number : ℕ) (m n : Match) → sits_at number m ≡ true → AreApart m n → sits_at number n ≡ false
gone number m n sits apart = grind (arith, nat_tests)

or-false : (b : Bool) → b ≡ (b || false)
or-false true = refl
or-false false = refl

pairing : (n : Match) (ms : List Match) → AllPairs AreApart ms → pairs_with n (seat_of ms n.a) ≡ list_any (λ m. is_same_pairing n m) ms
pairing n [] apart = refl
pairing n (m ∷ ms) apart =
    let rest = pairing n ms (λ i j d before within. apart (suc i) (suc j) d (omega arith) (omega arith)) in
    elim (cases_Bool (sits_at n.a m)) [
      | inl sits ↦
          let none : list_any (λ m. is_same_pairing n m) ms ≡ false = list_any_none (λ m. is_same_pairing n m) ms
          (λ k d below. not-met n (get_or ms k d) (gone n.a m (get_or ms k d) sits (apart 0 (suc k) d (omega arith) (omega arith)))) in
          rw (sits, none) (or-false (is_same_pairing n m))
      | inr free ↦ rw (free, not-met n m free) rest
    ]

pub pairing-at : (n : Match) (ms : List Match) → IsSeatedOnce ms → pairs_with n (seat_of ms n.a) ≡ list_any (λ m. is_same_pairing n m) ms
pairing-at n ms once = pairing n ms (sit-apart ms once).1
