use Rattle.std.proofs.Common.{◌≡◌, ℕ, Bool, List, Ok, Err, sym, ap, subst, ◌∙◌}
use Rattle.er_event.specs.{declared.changes.Change.TheVariants.AddRound, declared.commands.Command.TheVariants.Pair}
use Rattle.er_event.specs.{declared.matches.Match.Match, Change.{with_round, Fits}}
use Rattle.er_pair.specs.{declared.pairings.PairFault.TheVariants.NoPairing, Fault.pair_refusal, Met.{has_met, have_met}, Order.seed_words}
use Rattle.er_pair.specs.Pairing.{IsLegal}
use Rattle.er_event.specs.Round.{tables_of}
use Rattle.er_rules.specs.Step.{Answers}
use Rattle.er_rules.proofs.{Rounds.{IsPairing, moved, may_come_next}, Deciding.{IsExact, err_is, refused_by, taken_by}}
use Rattle.er_rules.proofs.pairing.decide_pair.Goals.{After-first_pairing}
use Rattle.er_pair.specs.Pairing as pairing
use Rattle.er_rules.proofs.pairing.decide_pair.Goals as goal

-- what the budget's answer says, of the event and its order
exact : (c : After-first_pairing) → IsExact (have_met c.args.event.now) c.in_ok-order.order.items c.first_pairing.result
exact c =
    let order = c.in_ok-order.order.items in
    subst (λ (m : ℕ → ℕ → Bool). IsExact m order c.first_pairing.result) c.in_ok-met.ensures
    (subst (λ (o : List ℕ). IsExact (has_met c.in_ok-met.met) o c.first_pairing.result) c.as_slice.ensures.value
    c.first_pairing.ensures.budget)

pub returns-in_err-pairs-clause-refused : goal.returns-in_err-pairs-clause-refused
returns-in_err-pairs-clause-refused c =
    let e = c.args.event.now in
    let fault = c.in_err-pairs.field-0.0 in
    let order = c.in_ok-order.order.items in
    let of_order = c.in_ok-order.ensures in
    let refused = c.from_residual-in_err-pairs in
    let said = err_is refused.result (pair_refusal fault) refused.ensures.1 in
    let NoneOf : (ℕ → ℕ → Bool) → List ℕ → Type 0 = λ m o. ((pairs : List pairing.Pair) → IsLegal m o pairs → ⊥) in
    let none : c.first_pairing.result ≡ Err NoPairing → NoneOf (have_met e) order = λ is.
    subst (λ (m : ℕ → ℕ → Bool). NoneOf m order) c.in_ok-met.ensures
    (subst (NoneOf (has_met c.in_ok-met.met)) c.as_slice.ensures.value (c.first_pairing.ensures.none is)) in
    rw said (refused_by e c.args.round c.args.seed.now c.in_ok-check_pair.ensures.accepted order of_order.ordered (c.one_order.ensures e)
    c.first_pairing.result (exact (goal.at.returns-in_err-pairs-clause-refused c).After-first_pairing) fault c.in_err-pairs.was none
    c.first_pairing.ensures.steps)

pub returns-clause-taken : goal.returns-clause-taken
returns-clause-taken c =
    let e = c.args.event.now in
    let order = c.in_ok-order.order.items in
    let of_order = c.in_ok-order.ensures in
    let checked = c.in_ok-check_pair.ensures in
    let ps = c.in_ok-pairs.pairs.items in
    let found = c.in_ok-pairs.ensures.earliest in
    let seats = c.legal_seats.ensures (has_met c.in_ok-met.met) c.as_slice.result.now found.0 found.1.legal in
    let here : IsPairing (has_met c.in_ok-met.met) c.as_slice.result.now ps = record {
      pairs = found.0;
      earliest = found.1;
      are = found.2;
      rising = seats.in_order;
      seated_all = c.in_ok-pairs.ensures.seated;
      new = c.in_ok-pairs.ensures.new_opponents;
    } in
    let it = moved (has_met c.in_ok-met.met) (have_met e) c.as_slice.result.now order ps c.in_ok-met.ensures c.as_slice.ensures.value
    here in
    let next = checked.next in
    let may = may_come_next e (seed_words c.args.seed.now) order ps of_order.ordered of_order.distinct next.3 it checked.sound
    next.0 next.1 next.2 in
    let are : c.in_ok-matches.matches ≡ tables_of ps = c.in_ok-matches.ensures ∙ ap tables_of c.as_slice-2.ensures.value in
    let made = taken_by e c.args.round c.args.seed.now checked.accepted order of_order.ordered (c.one_order.ensures e)
    c.first_pairing.result (exact (goal.at.returns-clause-taken c).After-first_pairing) c.in_ok-pairs.pairs c.in_ok-pairs.was ps it in
    subst (λ (ms : List Match). Fits e (AddRound ms) × Answers e (Pair c.args.round c.args.seed.now) (Ok (with_round e ms))) (sym are)
    (checked.fits (tables_of ps) may, made)
