-- The search of the positions that are free and ahead, candidate by candidate.
use Rattle.std.proofs.{lemmas.Grind.common_steps, Common.{◌≡◌, inl, inr, ℕ, zero, suc, ◌+◌, ◌-◌, ◌*◌, ◌<◌, ◌≤◌, ◌==◌, ◌||◌, ◌&&◌, not}}
use Rattle.std.proofs.Common.{Bool, true, false, List, [], ◌∷◌, ◌++◌, length, Option, Some, None, refl, sym, ap, ◌∙◌, arith, set, take}
use Rattle.std.proofs.{Common.{drop, append-nil, length-append, nat_lt}, lemmas.Bool.{cases_lt, cases_Bool}, lemmas.Bool.Decides.nat_tests}
use Rattle.std.proofs.lemmas.List.{nil_from_length}
use Rattle.std.specs.Slice.Scan.{HoldsNowhere}
use borrow.Rule.Slice.PartMut.{put_mid}
use Rattle.er_pair.specs.{declared.dead_ends.KnownDeadEnd.KnownDeadEnd, declared.places.Cursor.Cursor, declared.places.Places.Places}
use Rattle.er_pair.specs.{declared.search.Outcome.Outcome, declared.search.Outcome.TheVariants.{Paired, DeadEnd, OutOfSteps}}
use Rattle.er_pair.specs.{declared.places.TheConstants.WORDS, Pairing.Pair}
use Rattle.er_pair.specs.inside.Places.{has_place, ahead_of, is_later, row_at, IsNoneAhead, IsNext}
use Rattle.er_pair.specs.inside.Search.{Answer, SearchAnswers, after_step, tries, search_of, met_in, free_ahead, answer_ahead}
use Rattle.er_pair.specs.inside.Search.{AreDeadEnds}
use Rattle.er_pair.proofs.{Searching.{search_of-none, search_of-cons}, Ahead.{ahead-same, later_free}, Passing.{passing, passing-none}}
use Rattle.er_pair.proofs.Passing.{passing-same, passing-append}

-- ---- the candidates of the first, of the positions that pass

module _ (rows : List Places) (free : ℕ → Bool) (first : ℕ) where
  -- a position that passes, and that the first hasn't met
  abbrev pub is_new : ℕ → Bool
  is_new p = free p && not (met_in rows first p)

  -- what is left to try from the next candidate on
  abbrev pub left_to_try : ℕ → Answer
  left_to_try next = tries (met_in rows) (search_of (met_in rows)) first (passing free 0 next) (passing free next (length rows - next))

  -- those that pass, without a candidate
  abbrev pub without_one : ℕ → List ℕ
  without_one c = passing free 0 c ++ passing free (c + 1) (length rows - (c + 1))

  -- how a position divides those that pass
  from_place : (p : ℕ) → p < length rows
      → passing free p (length rows - p) ≡ passing free p (suc (length rows - (p + 1)))
  from_place p below = let size : length rows - p ≡ suc (length rows - (p + 1)) = omega arith in ap (passing free p) size

  to_place : (p : ℕ) → passing free 0 (p + 1) ≡ passing free 0 p ++ passing free p 1
  to_place p = passing-append free 0 p 1 p (p + 1) (omega arith) refl

  -- one that isn't new is passed
  pass_one : (p : ℕ) → p < length rows → is_new p ≡ false → left_to_try p ≡ left_to_try (p + 1)
  unfolding tries
  pass_one p below old = elim (cases_Bool (free p)) [
    | inl vacant ↦
        let known : met_in rows first p ≡ true = grind arith in
        rw (from_place p below) (rw (to_place p) (rw vacant (rw known)))
    | inr taken ↦ rw (from_place p below) (rw (to_place p) (rw taken (rw (append-nil (passing free 0 p)))))
  ]

  -- and so is a run of them
  runs : (d next to : ℕ) → to ≡ next + d → to ≤ length rows → HoldsNowhere is_new next to → left_to_try next ≡ left_to_try to
  runs zero next to is within none = let same : next ≡ to = omega arith in ap left_to_try same
  runs (suc d) next to is within none =
      pass_one next (omega arith) (none next (omega arith) (omega arith))
      ∙ runs d (next + 1) to (omega arith) within (λ p low high. none p (omega arith) high)

  -- if no candidate is left
  pub none_left : (next : ℕ) → next ≤ length rows → HoldsNowhere is_new next (length rows) → left_to_try next ≡ (None, zero)
  unfolding tries
  none_left next within none =
      let end : length rows - length rows ≡ 0 = omega arith in
      runs (length rows - next) next (length rows) (omega arith) (omega arith) none ∙ rw end

  -- the next candidate is a step
  pub a_step : (next c : ℕ) → next ≤ c → c < length rows → HoldsNowhere is_new next c → is_new c ≡ true
      → left_to_try next ≡ after_step (first, c) (search_of (met_in rows) (without_one c)).0 (search_of (met_in rows) (without_one c)).1
      (left_to_try (c + 1))
  unfolding tries
  a_step next c more below none here =
      let vacant : free c ≡ true = grind arith in
      let new : met_in rows first c ≡ false = grind arith in
      runs (c - next) next c (omega arith) (omega arith) none ∙ rw (from_place c below) (rw (to_place c) (rw vacant (rw new)))

  -- all that pass, by what a candidate divides
  divided : (test : ℕ → Bool) (c : ℕ) → c < length rows
      → passing test 0 (length rows) ≡ passing test 0 c ++ passing test c (suc (length rows - (c + 1)))
  divided test c below = passing-append test 0 c (suc (length rows - (c + 1))) c (length rows) (omega arith) (omega arith)

  -- the search of a step is of the others
  pub others_are : (less : ℕ → Bool) (c : ℕ) → c < length rows → ((p : ℕ) → less p ≡ (free p && not (p == c)))
      → passing less 0 (length rows) ≡ without_one c
  others_are less c below is =
      let gone : less c ≡ false = grind (arith, nat_tests, is c) in
      let before = passing-same less free 0 c (λ p low high. grind (arith, nat_tests, is p)) in
      let behind = passing-same less free (c + 1) (length rows - (c + 1)) (λ p low high. grind (arith, nat_tests, is p)) in
      rw (divided less c below) (rw gone (cc))

  -- which are two fewer than all
  pub two_fewer : (list : List ℕ) (c : ℕ) → list ≡ first ∷ passing free 0 (length rows) → c < length rows → free c ≡ true
      → length list ≡ length (without_one c) + 2
  two_fewer list c is below vacant =
      let all = is ∙ ap (λ (l : List ℕ). first ∷ l) (rw vacant at (divided free c below)) in
      rw all (omega (arith, length-append {A = ℕ}))

-- ---- before the first candidate

pub pairs_none : (rows : List Places) (list : List ℕ) (steps : ℕ) (pairs : List Pair) → length list ≡ 2 * length pairs → list ≡ []
    → SearchAnswers (search_of (met_in rows) list) steps pairs steps Paired
pairs_none rows list steps h1 size none = grind (arith, common_steps, search_of-none)

pub free_none : (used : Places) (cursor : Cursor) (end : ℕ) → IsNoneAhead used used cursor end → free_ahead used cursor end ≡ []
unfolding free_ahead
free_none used cursor end none = passing-none (ahead_of used used cursor) 0 end (λ p low below. none p (omega arith) (omega arith))

-- those ahead are the first, and those ahead of the cursor after it
pub free_first : (used : Places) (cursor behind : Cursor) (first end : ℕ) → IsNext used used cursor behind end first
    → free_ahead used cursor end ≡ first ∷ passing (ahead_of used used behind) 0 end
unfolding free_ahead
free_first used cursor behind first end next =
    let test : ℕ → Bool = ahead_of used used cursor in
    let rest : ℕ → Bool = ahead_of used used behind in
    let k = end - (first + 1) in
    let place = next.1 in
    let below = next.0 in
    let hit : test first ≡ true = place.hit below in
    let before = passing-none test 0 first (λ p low high. place.before p (omega arith) (omega arith)) in
    let passed = passing-none rest 0 (first + 1) (λ p low high. grind (arith, nat_tests, next.2 p, place.before p)) in
    let later = passing-same rest test (first + 1) k (λ p low high. grind (arith, nat_tests, next.2 p)) in
    let all = passing-append rest 0 (first + 1) k (first + 1) end (omega arith) (omega arith) in
    rw (passing-append test 0 first (suc k) first end (omega arith) (omega arith)) (rw before (rw hit (cc)))

-- so a walk has fewer places ahead at each step
pub fewer_ahead : (used : Places) (cursor behind : Cursor) (first end : ℕ) → IsNext used used cursor behind end first
    → length (free_ahead used behind end) < length (free_ahead used cursor end)
unfolding free_ahead
fewer_ahead used cursor behind first end next = omega (arith, ap length (free_first used cursor behind first end next))

-- and so if there are two
pub two_ahead : (used : Places) (cursor behind last : Cursor) (first second end : ℕ) → length (free_ahead used cursor end) ≡ 2
    → IsNext used used cursor behind end first → IsNext used used behind last end second
    → free_ahead used cursor end ≡ first ∷ second ∷ []
unfolding free_ahead
two_ahead used cursor behind last first second end size next then =
    let one = free_first used cursor behind first end next in
    let two : passing (ahead_of used used behind) 0 end ≡ second ∷ passing (ahead_of used used last) 0 end =
    free_first used behind last second end then in
    let none = nil_from_length (passing (ahead_of used used last) 0 end) (omega (arith, ap length one, ap length two, size)) in
    cc

pub none_of_two : (used : Places) (cursor : Cursor) (end : ℕ) → length (free_ahead used cursor end) ≡ 2
    → IsNoneAhead used used cursor end → ⊥
none_of_two used cursor end size none = omega (arith, size, ap length (free_none used cursor end none))

pub one_of_two : (used : Places) (cursor behind : Cursor) (first end : ℕ) → length (free_ahead used cursor end) ≡ 2
    → IsNext used used cursor behind end first → IsNoneAhead used used behind end → ⊥
unfolding free_ahead
one_of_two used cursor behind first end size next none =
    omega (arith, size, ap length (free_first used cursor behind first end next), ap length (free_none used behind end none))

-- ---- an answer with one step more

after_step-least : (pair : Pair) (own : Option (List Pair)) (steps : ℕ) (later : Answer) → suc steps ≤ (after_step pair own steps later).1
unfolding after_step
after_step-least pair h1 steps later = grind (arith, common_steps)

-- the others are a dead end
after_step-dead : (pair : Pair) (own later : Answer) (steps left : ℕ) (found : List Pair) → 0 < steps
    → SearchAnswers own (steps - 1) found left DeadEnd
    → ((after_step pair own.0 own.1 later).0 ≡ later.0) × (left + (after_step pair own.0 own.1 later).1 ≡ steps + later.1)
unfolding after_step
after_step-dead pair h1 later steps left found some answers = grind (arith, common_steps)

-- they aren't one
after_step-found : (pair : Pair) (own later : Answer) (steps left : ℕ) (found : List Pair) (outcome : Outcome) → 0 < steps
    → (outcome ≡ DeadEnd → ⊥) → SearchAnswers own (steps - 1) found left outcome
    → SearchAnswers (after_step pair own.0 own.1 later) steps (pair ∷ found) left outcome
unfolding after_step
after_step-found pair (None, inner) later steps left found Paired some other answers = absurd (cc answers.0)
after_step-found pair (Some more, inner) later steps left found Paired some other answers = grind (arith, common_steps)
after_step-found pair own later steps left found DeadEnd some other answers = absurd (other refl)
after_step-found pair own later steps left found OutOfSteps some other answers = grind (arith, common_steps)

-- ---- the pair that is written

pub rest_size : (pairs : List Pair) (pair : Pair) → 0 < length pairs
    → length (take (length (set pairs 0 pair) - 1) (drop 1 (set pairs 0 pair))) ≡ length pairs - 1
rest_size h1 pair some = grind (arith, common_steps)

-- with those of the search after it
pub pair_and_more : (pairs found : List Pair) (pair : Pair) → length found ≡ length (set pairs 0 pair) - 1 → 0 < length pairs
    → put_mid 1 (length (set pairs 0 pair) - 1) (set pairs 0 pair) found ≡ pair ∷ found
pair_and_more [] found pair size some = absurd (omega arith)
pair_and_more (old ∷ more) found pair size some = grind (arith, common_steps)

-- ---- where the search is, at one of the candidates

-- what is left to try answers, in the steps that are left, what is asked, and the walk passes what is new from the next candidate on
pub record IsAt (rows : List Places) (at_first used : Places) (list : List ℕ) (others : Cursor) (first : ℕ) (candidates : Cursor)
    (steps left : ℕ) : Type 0 where
  pub next : ℕ
  pub within : next ≤ length rows
  pub same : (p : ℕ) → has_place used p ≡ has_place at_first p
  pub outcome : (search_of (met_in rows) list).0 ≡ (left_to_try rows (ahead_of at_first at_first others) first next).0
  pub counted : left + (search_of (met_in rows) list).1 ≡ steps + (left_to_try rows (ahead_of at_first at_first others) first next).1
  pub walk : (p : ℕ) → ahead_of (row_at rows first) used candidates p
      ≡ (not (nat_lt p next) && is_new rows (ahead_of at_first at_first others) first p)
  pub word : candidates.index < WORDS

pub starts : (rows : List Places) (used : Places) (list : List ℕ) (others candidates : Cursor) (first steps : ℕ)
    → list ≡ first ∷ passing (ahead_of used used others) 0 (length rows)
    → ((other : Places) (p : ℕ) → ahead_of (row_at rows first) other candidates p
    ≡ (ahead_of other other others p && not (has_place (row_at rows first) p)))
    → candidates.index < WORDS → IsAt rows used used list others first candidates steps steps
starts rows used list others candidates first steps is without word = grind (arith, common_steps, nat_tests, passing, search_of-cons)

module _ (rows : List Places) (at_first used : Places) (list : List ℕ) (others : Cursor) (first : ℕ) (candidates : Cursor) (steps left : ℕ)
    (h : IsAt rows at_first used list others first candidates steps left) where
  abbrev free : ℕ → Bool
  free = ahead_of at_first at_first others

  from_rest : (found : List Pair) (last : ℕ) (outcome : Outcome)
      → SearchAnswers (left_to_try rows free first h.next) left found last outcome
      → SearchAnswers (search_of (met_in rows) list) steps found last outcome
  from_rest found last h1 answers = grind (arith, common_steps)

  pub none_is_left : (found : List Pair) → IsNoneAhead (row_at rows first) used candidates (length rows)
      → SearchAnswers (search_of (met_in rows) list) steps found left DeadEnd
  none_is_left found none = grind (arith, common_steps, from_rest, nat_tests, none_left)

  -- ---- at the next candidate

  module _ (c : ℕ) (after : Cursor) (is : IsNext (row_at rows first) used candidates after (length rows) c) where
    hit : ahead_of (row_at rows first) used candidates c ≡ true
    hit = let place = is.1 in place.hit is.0

    low : h.next ≤ c
    low = grind (arith, nat_tests, h.walk c, hit)

    new_here : is_new rows free first c ≡ true
    new_here = grind (arith, nat_tests, h.walk c, hit)

    is_free : free c ≡ true
    is_free = grind (arith, new_here)

    step : left_to_try rows free first h.next
        ≡ after_step (first, c) (search_of (met_in rows) (without_one rows free first c)).0
        (search_of (met_in rows) (without_one rows free first c)).1 (left_to_try rows free first (c + 1))
    step =
        let place = is.1 in
        a_step rows free first h.next c low is.0 (λ p above before. grind (arith, nat_tests, h.walk p, place.before p (omega arith) before))
        new_here

    -- without a step left, the search needs more
    pub without_step : left ≡ 0 → steps < (search_of (met_in rows) list).1
    without_step none = grind (arith, common_steps, after_step-least, from_rest, step)

    -- and there is a pair to write
    pub some_pair : (size : ℕ) → list ≡ first ∷ passing free 0 (length rows) → length list ≡ 2 * size → 0 < size
    some_pair size is_list all = omega (arith, two_fewer rows free first list c is_list is.0 is_free, all)

    -- the search of the others, without the partner
    module _ (more : Places) (rest : Cursor) (is_rest : (p : ℕ) → ahead_of more more rest p ≡ (ahead_of used used others p && not (p == c)))
      where
        rest_is : free_ahead more rest (length rows) ≡ without_one rows free first c
        unfolding free_ahead
        rest_is = grind (arith, common_steps, ahead-same, others_are)

        pub rest_two_by_two : (size : ℕ) → list ≡ first ∷ passing free 0 (length rows) → length list ≡ 2 * size
            → length (free_ahead more rest (length rows)) ≡ 2 * (size - 1)
        rest_two_by_two size is_list all =
            omega (arith, two_fewer rows free first list c is_list is.0 is_free, ap length rest_is, all)

        -- if it is a dead end, the candidate is passed
        pub goes_on : (back last : Places) (found : List Pair) (left_after : ℕ) (outcome : Outcome) → after.index < WORDS → 0 < left
            → SearchAnswers (answer_ahead rows more rest) (left - 1) found left_after outcome → outcome ≡ DeadEnd
            → ((p : ℕ) → has_place more p ≡ (is_later others.index c p || has_place used p))
            → ((p : ℕ) → has_place back p ≡ has_place more p)
            → ((p : ℕ) → has_place last p ≡ (not (is_later others.index c p) && has_place back p))
            → IsAt rows at_first last list others first after steps left_after
        goes_on back last found left_after outcome word some answers dead is_more as_more is_last =
            let inner = rw (rest_is, dead) at answers in
            let own = search_of (met_in rows) (without_one rows free first c) in
            let on = after_step-dead (first, c) own (left_to_try rows free first (c + 1)) left left_after found some inner in
            record {
              next = c + 1;
              within = omega arith;
              same = λ p. back_to p ∙ h.same p;
              outcome = h.outcome ∙ (ap (λ (a : Answer). a.0) step ∙ on.0);
              counted = omega (arith, ap (λ (a : Answer). a.1) step, on.1, h.counted);
              walk = walk_as;
              word = word;
            }
          where
            back_to : (p : ℕ) → has_place last p ≡ has_place used p
            back_to p =
                let unused = later_free at_first others.index others.left c is_free in
                grind (arith, nat_tests, is_last p, as_more p, is_more p, unused, h.same c)

            walk_as : (p : ℕ) → ahead_of (row_at rows first) last after p ≡ (not (nat_lt p (c + 1)) && is_new rows free first p)
            walk_as p =
                let place = is.1 in
                let same = ahead-same (row_at rows first) last (row_at rows first) used after.index after.left p refl (back_to p) in
                let start = low in
                elim (cases_lt p c) [
                  | inl before ↦ grind (arith, nat_tests, same, is.2 p, place.before p (omega arith) before)
                  | inr past ↦ grind (arith, nat_tests, same, is.2 p, h.walk p)
                ]

        -- if it isn't, that is the answer
        pub answers_with : (found all : List Pair) (left_after : ℕ) (outcome : Outcome) → 0 < left → (outcome ≡ DeadEnd → ⊥)
            → all ≡ (first, c) ∷ found → SearchAnswers (answer_ahead rows more rest) (left - 1) found left_after outcome
            → SearchAnswers (search_of (met_in rows) list) steps all left_after outcome
        answers_with found all left_after outcome some other is_all answers =
            let inner = rw rest_is at answers in
            let own = search_of (met_in rows) (without_one rows free first c) in
            let later = left_to_try rows free first (c + 1) in
            rw is_all (from_rest ((first, c) ∷ found) left_after outcome
            (rw step (after_step-found (first, c) own later left left_after found outcome some other inner)))

-- what the search of the others leaves, of pairs of which the first was written
pub record IsRest (rows : List Places) (more : Places) (rest : Cursor) (left : ℕ) (written : List Pair) (outcome : Outcome) (used : Places)
    (pairs : List Pair) (steps : ℕ) (kept : List KnownDeadEnd) : Type 0 where
  pub found : List Pair
  pub size : length found ≡ length written - 1
  pub are : pairs ≡ put_mid 1 (length written - 1) written found
  pub answer : SearchAnswers (search_of (met_in rows) (free_ahead more rest (length rows))) left found steps outcome
  pub as_before : outcome ≡ DeadEnd → (p : ℕ) → has_place used p ≡ has_place more p
  pub known : AreDeadEnds rows kept

-- ---- the last two

two_met : (rows : List Places) (first second : ℕ) → met_in rows first second ≡ true
    → search_of (met_in rows) (first ∷ second ∷ []) ≡ (None, zero)
unfolding tries
two_met rows first second met = rw (search_of-cons (met_in rows) first (second ∷ [])) (rw met)

two_new : (rows : List Places) (first second : ℕ) → met_in rows first second ≡ false
    → search_of (met_in rows) (first ∷ second ∷ []) ≡ (Some ((first, second) ∷ []), suc zero)
unfolding tries after_step
two_new rows first second new = grind (arith, common_steps, search_of-cons, search_of-none)

only_pair : (pairs : List Pair) (pair : Pair) → length pairs ≡ 1 → set pairs 0 pair ≡ pair ∷ []
only_pair [] pair one = absurd (omega arith)
only_pair (old ∷ more) pair one = rw (nil_from_length more (omega arith))

module _ (rows : List Places) (list : List ℕ) (first second steps : ℕ) (is : list ≡ first ∷ second ∷ []) where
  pub last_met : (found : List Pair) → met_in rows first second ≡ true
      → SearchAnswers (search_of (met_in rows) list) steps found steps DeadEnd
  last_met found met = rw is (rw (two_met rows first second met) (refl, omega arith))

  pub last_without_step : met_in rows first second ≡ false → steps ≡ 0 → steps < (search_of (met_in rows) list).1
  last_without_step new none = rw is (rw (two_new rows first second new) (omega arith))

  pub last_new : (pairs : List Pair) → met_in rows first second ≡ false → 0 < steps → length pairs ≡ 1
      → SearchAnswers (search_of (met_in rows) list) steps (set pairs 0 (first, second)) (steps - 1) Paired
  last_new pairs new some one =
      let written = ap Some (sym (only_pair pairs (first, second) one)) in
      rw is (rw (two_new rows first second new) (written, omega arith))
