use Rattle.std.proofs.{Common.{◌≡◌, ◌⊎◌, IfOk, IfErr, Ok, Err, sym, ap, subst}, lemmas.Result.IfOk-weaker}
use Rattle.er_event.specs.{declared.changes.Change.Change, declared.commands.Command.TheVariants.{Pair, Cut, Playoff}}
use Rattle.er_event.specs.{declared.commands.Command.Command, declared.refusals.Refusal.TheVariants.Memory, Change.{after, Fits}}
use Rattle.er_rules.specs.{Step.{Answers, checks}, Sound.IsSound}
use Rattle.er_rules.proofs.Keeping.{passes, keeps, step_keeps, answers_keep, if_three}
use Rattle.er_rules.proofs.decide.Goals as goal

pub returns-in-Pair-clause-taken : goal.returns-in-Pair-clause-taken
returns-in-Pair-clause-taken c =
    let e = c.args.event.now in
    let Taken : Command → Change → Type 0 = λ command change. Fits e change × Answers e command (Ok (after e change)) in
    subst (λ (command : Command). IfOk c.decide_pair.result (Taken command)) (sym c.in-Pair.is) c.decide_pair.ensures.taken

pub returns-in-Pair-clause-refused : goal.returns-in-Pair-clause-refused
returns-in-Pair-clause-refused c =
    subst (λ (command : Command). IfErr c.decide_pair.result (λ why. (why ≡ Memory) ⊎ Answers c.args.event.now command (Err why)))
    (sym c.in-Pair.is) c.decide_pair.ensures.refused

pub returns-in-Pair-clause-keeps : goal.returns-in-Pair-clause-keeps
returns-in-Pair-clause-keeps c =
    let e = c.args.event.now in
    let command = Pair c.in-Pair.round c.in-Pair.seed in
    IfOk-weaker c.decide_pair.result _ _ (λ change taken sound. answers_keep e command (after e change) sound taken.1 taken.0.sound)
    c.decide_pair.ensures.taken

pub returns-in-Cut-clause-keeps : goal.returns-in-Cut-clause-keeps
returns-in-Cut-clause-keeps c =
    let e = c.args.event.now in
    IfOk-weaker c.decide_cut.result _ _ (λ change taken sound. step_keeps e Cut (after e change) sound taken.1 taken.0.sound)
    c.decide_cut.ensures.taken

pub returns-in-Playoff-clause-keeps : goal.returns-in-Playoff-clause-keeps
returns-in-Playoff-clause-keeps c =
    let e = c.args.event.now in
    let command = Playoff c.in-Playoff.stage c.in-Playoff.slot c.in-Playoff.score in
    if_three c.decide_playoff.result _ _ _ _ (λ change is fits free sound.
    let made = ap (λ (x : Change). Ok (after e x)) is in
    let pass = passes (checks e command) free in
    let seeds = keeps e sound command (after e change) pass made in
    let new : IsSound (after e change) = record { but_for_seeds = fits.sound; seeds = seeds } in
    new)
    c.decide_playoff.ensures.change c.decide_playoff.ensures.fits c.decide_playoff.ensures.accepted
