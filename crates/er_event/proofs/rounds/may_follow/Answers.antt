use Rattle.er_event.proofs.Prelude.{is_complete, arith, sym, ◌∙◌, common_steps}
use Rattle.er_event.proofs.{AddLemmas.{All-new, new-All}, RoundLemmas.{All-of, of-All}}
use Rattle.er_event.proofs.rounds.may_follow.Goals as goal

pub returns-then-not-are_counted : goal.returns-then-not-are_counted
returns-then-not-are_counted c = grind (arith, common_steps, is_complete, of-All)

pub returns-then-not-is_round : goal.returns-then-not-is_round
returns-then-not-is_round c = grind arith

pub returns-in-Some : goal.returns-in-Some
returns-in-Some c =
    let new = rw (c.in-Some.ensures.value) at c.are_new.ensures in (
      λ yes. record {
        done = grind (arith, common_steps, All-of);
        round = grind arith;
        new = All-new c.args.earlier.now c.args.matches.now (sym new ∙ yes);
      },
      λ follows. new ∙ new-All c.args.earlier.now c.args.matches.now follows.new,
    )
