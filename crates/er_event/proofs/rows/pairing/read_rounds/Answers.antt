use Rattle.er_event.proofs.Prelude.{FitRows, keyed_rows_from, Memory, Round, List, [], ap, arith, drop, get_or, length, refl, rules}
use Rattle.er_event.proofs.Prelude.{subst, sym, take, ◌++◌, ◌+◌, ◌∙◌, ◌∷◌, ◌≡◌, ◌≤◌, common_steps, All-drop, length-drop, take_more}
use Rattle.er_event.proofs.Prelude.{take_rest}
use Rattle.er_event.proofs.{PairingLemmas.rounds_in_turn, RowLemmas.{drop_next, next_shown, next_within, none_left, value_more}}
use Rattle.er_share.specs.declared.TheConstants.{MAX_ROUNDS}
use Rattle.er_event.proofs.rows.pairing.read_rounds.Goals as goal

pub loop-read-init : goal.loop-read-init
loop-read-init c =
    let none = c.new-rounds.ensures.items in (
      omega arith,
      subst (λ (rs : List Round). length rs ≤ MAX_ROUNDS) (sym none) (omega arith),
      ap (keyed_rows_from 1) (sym none),
      λ rs all few are. subst (λ (l : List Round). (l ≡ take (length l) rs)
          × (c.args.rows.now ≡ keyed_rows_from (length l + 1) (drop (length l) rs))) (sym none) (refl, are),
    )

pub returns-in_err-matches-clause-exact : goal.returns-in_err-matches-clause-exact
returns-in_err-matches-clause-exact c rs all few are =
    let rows = c.args.rows.now in
    let read = c.loop-read.read in
    let items = c.loop-read.rounds.items in
    let k = c.len-in-loop-read.result in
    let k_is : k ≡ length items = c.len-in-loop-read.ensures ∙ c.loop-read.rounds.ok.0 in
    let left = c.loop-read.invariant.3 rs all few are in
    let within = next_within rounds_in_turn rows read items k k_is rs all left.1 c.loop-read-test.true in
    let d : Round = record { matches = [] } in
    let why : c.in_err-matches.field-0.0 ≡ Memory = c.in_err-matches.ensures.exact (get_or rs k d).matches (drop (k + 1) rs)
    (all k d within) (All-drop (λ (r : Round). FitRows r.matches) (k + 1) rs all)
    (next_shown rounds_in_turn rows read items k k_is rs all left.1 d within) in
    search (rules, why)

pub loop-read-preserved : goal.loop-read-preserved
loop-read-preserved c =
    let rows = c.args.rows.now in
    let read = c.loop-read.read in
    let items = c.loop-read.rounds.items in
    let k = c.len-in-loop-read.result in
    let k_is : k ≡ length items = c.len-in-loop-read.ensures ∙ c.loop-read.rounds.ok.0 in
    let ms = c.in_ok-matches.matches in
    let count = c.in_ok-matches.count in
    let value = c.in_ok-matches.ensures.value in
    let r : Round = record { matches = ms } in
    let pushed : c.push.new.self.items ≡ items ++ r ∷ [] = grind (arith, common_steps) in
    let grown : length c.push.new.self.items ≡ k + 1 = grind (arith, common_steps) in (
      (let fits = value.2 in let len = ap length (take_rest rows read) in let rest = length-drop read rows in omega arith),
      (let room = c.if-len-from.false in let from = c.from.ensures in let len = c.len.ensures in omega arith),
      value_more rounds_in_turn rows read items k k_is r count c.loop-read.invariant.2 value.0 ∙ ap (keyed_rows_from 1) (sym pushed),
      λ rs all few are.
          let left = c.loop-read.invariant.3 rs all few are in
          let within = next_within rounds_in_turn rows read items k k_is rs all left.1 c.loop-read-test.true in
          let found = c.in_ok-matches.ensures.exact (get_or rs k r).matches (drop (k + 1) rs) (all k r within)
          (All-drop (λ (r : Round). FitRows r.matches) (k + 1) rs all)
          (next_shown rounds_in_turn rows read items k k_is rs all left.1 r within) in (
            grind (arith, common_steps, take_more),
            drop_next rounds_in_turn rows read items k k_is rs all left.1 r count _ within found.1 grown,
          ),
    )

pub returns-clause-exact : goal.returns-clause-exact
returns-clause-exact c rs all few are =
    let left = c.loop-read.invariant.3 rs all few are in
    left.0 ∙ none_left rounds_in_turn c.args.rows.now c.loop-read.read c.loop-read.rounds.items (length c.loop-read.rounds.items) refl rs
    all left.1 c.loop-read-test.false
