use Rattle.std.proofs.{lemmas.Grind.common_steps, Common.{◌≡◌, inr, refl, sym, subst, arith, rules}}
use Rattle.er_pair.specs.{declared.search.Outcome.TheVariants.{Paired, DeadEnd, OutOfSteps}, declared.pairings.TheConstants.MAX_STEPS}
use Rattle.er_pair.specs.{Met.has_met, Pairing.{all_positions, IsEarliest}, Steps.{met_at, NeedsMore}, inside.Search.Answer}
use Rattle.er_pair.specs.inside.Search.{SearchAnswers, AreDeadEnds, answer_ahead, search_of}
use Rattle.er_pair.proofs.{Entries.more_needed, Answering.{as_long, of_order, within_order, paired, unpaired}}
use Rattle.er_pair.proofs.{Answering.{short_within, fresh_within, fresh_pairs}, Seating.{each_sits, none_has_met}}
use Rattle.er_pair.proofs.pairings.first_pairing.Goals.{After-as_mut_slice, In-Paired}
use Rattle.er_pair.proofs.pairings.first_pairing.Goals as goal

-- the search of the rows is one of the order
of_rows : (c : After-as_mut_slice) → answer_ahead c.as_slice.result.now c.empty-used.result c.before_all-ahead.result
    ≡ search_of (met_at (has_met c.args.met.now) c.args.order.now) (all_positions c.args.order.now)
of_rows c = grind (arith, common_steps, of_order)

found : (c : In-Paired) → IsEarliest (has_met c.args.met.now) c.args.order.now c.search.new.pairs
    × (NeedsMore (has_met c.args.met.now) c.args.order.now MAX_STEPS → ⊥)
found c =
    let rows = of_rows (goal.at.entries_at-requires c).After-as_mut_slice in
    paired (has_met c.args.met.now) c.args.order.now MAX_STEPS c.search.new.steps c.search.new.pairs
    (subst (λ (a : Answer). SearchAnswers a MAX_STEPS c.search.new.pairs c.search.new.steps Paired) rows c.in-Paired.ensures.answer)

pub search-requires-clause-two_by_two : goal.search-requires-clause-two_by_two
search-requires-clause-two_by_two c = grind (arith, common_steps, as_long)

pub search-requires-clause-known : goal.search-requires-clause-known
search-requires-clause-known c = subst (AreDeadEnds c.as_slice.result.now) (sym c.as_mut_slice.ensures.value)
    (c.in_ok-kept.ensures c.as_slice.result.now)

pub entries_at-requires : goal.entries_at-requires
entries_at-requires c = within_order (has_met c.args.met.now) c.args.order.now c.search.new.pairs (found c).0.legal

pub returns-in-Paired : goal.returns-in-Paired
returns-in-Paired c =
    let order = c.args.order.now in
    let pairs = c.search.new.pairs in
    let earliest = found (goal.at.returns-in-Paired c).In-Paired in
    let entries = c.in_ok-entries_at-in-Paired.ensures in
    record {
      earliest = (pairs, earliest.0, entries);
      seated = each_sits (has_met c.args.met.now) order pairs _ earliest.0.legal entries;
      new_opponents = none_has_met (has_met c.args.met.now) order pairs _ earliest.0.legal entries;
      none = search rules;
      budget = inr (λ e. absurd (cc), λ more. absurd (earliest.1 more));
      steps = search rules;
      short = search rules;
      fresh = search rules;
    }

pub returns-in-DeadEnd : goal.returns-in-DeadEnd
returns-in-DeadEnd c =
    let order = c.args.order.now in
    let pairs = c.search.new.pairs in
    let answers = subst (λ (a : Answer). SearchAnswers a MAX_STEPS pairs c.search.new.steps DeadEnd)
    (of_rows (goal.at.returns-in-DeadEnd c).After-as_mut_slice) c.in-DeadEnd.ensures.answer in
    let dead = unpaired (has_met c.args.met.now) order MAX_STEPS c.search.new.steps pairs answers in
    record {
      earliest = search rules;
      seated = search rules;
      new_opponents = search rules;
      none = λ _. dead.0;
      budget = inr (λ e. absurd (cc), λ more. absurd (dead.1 more));
      steps = search rules;
      short = search rules;
      fresh = λ fault fresh e. absurd (fresh_pairs (has_met c.args.met.now) order fresh c.requires.even answers.0);
    }

pub returns : goal.returns
returns c =
    let order = c.args.order.now in
    let answers = subst (λ (a : Answer). SearchAnswers a MAX_STEPS c.search.new.pairs c.search.new.steps OutOfSteps)
    (of_rows (goal.at.returns c).After-as_mut_slice) c.in-OutOfSteps.ensures.answer in
    record {
      earliest = search rules;
      seated = search rules;
      new_opponents = search rules;
      none = search rules;
      budget = inr (λ _. more_needed (has_met c.args.met.now) order MAX_STEPS answers, λ _. refl);
      steps = search rules;
      short = λ steps short e. short_within (has_met c.args.met.now) order answers short;
      fresh = λ fault fresh e.
          absurd (fresh_within (has_met c.args.met.now) order fresh c.requires.even answers c.requires.few);
    }
