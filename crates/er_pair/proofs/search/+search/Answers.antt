use Rattle.std.proofs.{lemmas.Grind.common_steps, Common.{◌≡◌, ◌-◌, ◌*◌, ◌<◌, ℕ, length, length-set, set, refl, ◌∙◌, arith}}
use Rattle.er_pair.specs.{Pairing.Pair, inside.Search.free_ahead}
use Rattle.er_pair.proofs.Trying.{IsRest, pairs_none, free_none, free_first, starts, without_step, some_pair, none_is_left}
use Rattle.er_pair.proofs.{Trying.{rest_two_by_two, goes_on, answers_with, rest_size, pair_and_more}, search.+search.Goals.Else-steps-eq0}
use Rattle.er_pair.proofs.search.+search.Goals.{After-but-rest, Joined-more-eq1, then-more-eq1, else-more-eq1}
use Rattle.er_pair.proofs.search.+search.Goals as goal

-- if there is a partner, there is a pair to write
some_is : (t : ℕ) (c : Else-steps-eq0 t) → 0 < length c.loop-partner.pairs
some_is t c =
    let list = free_first _ c.args.ahead c.next.new.self _ _ c.in-Some-next.ensures.found in
    let some = some_pair _ _ _ _ _ _ _ _ _ c.loop-partner.invariant.at c.in-Some-next-2.partner _ c.in-Some-next-2.ensures.found
    (length c.args.pairs.now) list c.requires.two_by_two in
    omega arith

-- and the others are two for each pair after it
others_are : (t : ℕ) (c : After-but-rest t)
    → length (free_ahead c.but-rest.new.used c.but-rest.result (length c.args.rows.now)) ≡ 2 * (length c.loop-partner.pairs - 1)
others_are t c =
    let list = free_first _ c.args.ahead c.next.new.self _ _ c.in-Some-next.ensures.found in
    let fewer = rest_two_by_two _ _ _ _ _ _ _ _ _ c.loop-partner.invariant.at c.in-Some-next-2.partner _ c.in-Some-next-2.ensures.found
    c.but-rest.new.used c.but-rest.result c.but-rest.ensures.ahead (length c.args.pairs.now) list c.requires.two_by_two in
    omega arith

-- what the search of the others leaves
rest_is : (t : ℕ) (c : Joined-more-eq1 t) → 0 < length c.loop-partner.pairs
    → IsRest c.args.rows.now c.but-rest.new.used c.but-rest.result (c.loop-partner.steps - 1)
    (set c.loop-partner.pairs 0 (c.in-Some-next.first, c.in-Some-next-2.partner))
    c.if-more-eq1.found c.if-more-eq1.used c.if-more-eq1.pairs c.if-more-eq1.steps c.if-more-eq1.kept
rest_is t c some =
    let size = rest_size c.loop-partner.pairs (c.in-Some-next.first, c.in-Some-next-2.partner) some in
    let same = length-set c.loop-partner.pairs 0 (c.in-Some-next.first, c.in-Some-next-2.partner) in
    elim c.if-more-eq1.branch [
      | then-more-eq1 w ↦ rw (w.found-is, w.used-is, w.pairs-is, w.steps-is, w.kept-is) (record {
        found = w.last_pair-found.new.pairs;
        size = omega (arith, w.last_pair-found.auto.pairs);
        are = refl;
        answer = w.last_pair-found.ensures.answer;
        as_before = λ dead p. refl;
        known = c.loop-partner.invariant.known;
      })
      | else-more-eq1 w ↦ rw (w.found-is, w.used-is, w.pairs-is, w.steps-is, w.kept-is) (record {
        found = w.search-found.new.pairs;
        size = omega (arith, w.search-found.auto.pairs);
        are = refl;
        answer = w.search-found.ensures.answer;
        as_before = w.search-found.ensures.as_before;
        known = w.search-found.ensures.known;
      })
    ]

pub returns-in_default-next-clause-answer : goal.returns-in_default-next-clause-answer
returns-in_default-next-clause-answer t c =
    pairs_none c.args.rows.now _ c.args.steps.now c.args.pairs.now c.requires.two_by_two
    (free_none c.args.used.now c.args.ahead (length c.args.rows.now) c.in_default-next.ensures.found)

pub loop-partner-init : goal.loop-partner-init
loop-partner-init t c = grind (arith, common_steps, free_first, starts)

pub returns-then-steps-eq0-clause-answer : goal.returns-then-steps-eq0-clause-answer
returns-then-steps-eq0-clause-answer t c =
    without_step _ _ _ _ _ _ _ _ _ c.loop-partner.invariant.at c.in-Some-next-2.partner _ c.in-Some-next-2.ensures.found c.if-steps-eq0.true

pub bounds-pairs-0 : goal.bounds-pairs-0
bounds-pairs-0 t c = some_is t (goal.at.bounds-pairs-0 t c).Else-steps-eq0

pub returns-clause-answer : goal.returns-clause-answer
returns-clause-answer t c =
    none_is_left _ _ _ _ _ _ _ _ _ c.loop-partner.invariant.at c.loop-partner.pairs c.in_default-next-2.ensures.found

pub slice_bounds-more-count : goal.slice_bounds-more-count
slice_bounds-more-count t c =
    omega (arith, some_is t (goal.at.slice_bounds-more-count t c).Else-steps-eq0, length-set {A = Pair})

pub slice_bounds-more-start : goal.slice_bounds-more-start
slice_bounds-more-start t c =
    omega (arith, some_is t (goal.at.slice_bounds-more-start t c).Else-steps-eq0, length-set {A = Pair})

pub last_pair-found-requires-clause-two : goal.last_pair-found-requires-clause-two
last_pair-found-requires-clause-two t c =
    let at = goal.at.last_pair-found-requires-clause-two t c in
    let size = rest_size c.loop-partner.pairs (c.in-Some-next.first, c.in-Some-next-2.partner) (some_is t at.Else-steps-eq0) in
    omega (arith, others_are t at.After-but-rest, size, c.if-more-eq1.true)

pub search-found-requires : goal.search-found-requires
search-found-requires t c =
    let at = goal.at.search-found-requires t c in
    let some = some_is t at.Else-steps-eq0 in
    let others = others_are t at.After-but-rest in
    let size = rest_size c.loop-partner.pairs (c.in-Some-next.first, c.in-Some-next-2.partner) some in
    (omega arith, (c.requires.few, (c.but-rest.ensures.word, (omega arith, c.loop-partner.invariant.known))))

pub returns-in_default-found : goal.returns-in_default-found
returns-in_default-found t c =
    let at = goal.at.returns-in_default-found t c in
    let some = some_is t at.Else-steps-eq0 in
    let rest = rest_is t at.Joined-more-eq1 some in
    record {
      answer = answers_with _ _ _ _ _ _ _ _ _ c.loop-partner.invariant.at c.in-Some-next-2.partner _ c.in-Some-next-2.ensures.found
          c.but-rest.new.used c.but-rest.result c.but-rest.ensures.ahead
          rest.found _ c.if-more-eq1.steps c.if-more-eq1.found (omega arith) c.in_default-found.not-DeadEnd
          (rest.are ∙ pair_and_more c.loop-partner.pairs rest.found (c.in-Some-next.first, c.in-Some-next-2.partner) rest.size some)
          rest.answer;
      as_before = λ dead. absurd (c.in_default-found.not-DeadEnd dead);
      known = rest.known;
    }

pub loop-partner-preserved : goal.loop-partner-preserved
loop-partner-preserved t c =
    let at = goal.at.loop-partner-preserved t c in
    let rest = rest_is t at.Joined-more-eq1 (some_is t at.Else-steps-eq0) in
    record {
      at = goes_on _ _ _ _ _ _ _ _ _ c.loop-partner.invariant.at c.in-Some-next-2.partner _ c.in-Some-next-2.ensures.found
          c.but-rest.new.used c.but-rest.result c.but-rest.ensures.ahead
          c.if-more-eq1.used c.give_back.new.used rest.found c.if-more-eq1.steps c.if-more-eq1.found c.in-Some-next-2.ensures.word
          (omega arith) rest.answer c.in-DeadEnd.is c.but-rest.ensures.used (rest.as_before c.in-DeadEnd.is) c.give_back.ensures;
      known = rest.known;
    }

pub overflow_sub-before : goal.overflow_sub-before
overflow_sub-before t c =
    let dead = none_is_left _ _ _ _ _ _ _ _ _ c.loop-partner.invariant.at c.loop-partner.pairs c.in_default-next-2.ensures.found in
    omega (arith, dead.1)

pub keep-requires-clause-dead : goal.keep-requires-clause-dead
keep-requires-clause-dead t c =
    let dead = none_is_left _ _ _ _ _ _ _ _ _ c.loop-partner.invariant.at c.loop-partner.pairs c.in_default-next-2.ensures.found in
    (c.args.used.now, (dead.0, omega (arith, dead.1)))
